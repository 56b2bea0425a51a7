-- What the bytes of a journal give back after a session, whole or cut.
use Rattle.std.specs.Prelude.{◌≡◌, ℕ, ◌≤◌, Bool, false, List, [], ◌∷◌, ◌++◌, length, take, codes, Option, None, Some, refl}
use Rattle.std.specs.Fmt.{digits}
use Rattle.std.specs.List.{AllByRecursion}
use Rattle.jiff.specs.declared.tz.timezone.TimeZone.{TimeZone}
use Rattle.pay_rules.specs.declared.tap.Kind.TheVariants.{Bus}
use Rattle.pay_tables.specs.Words.{FareEditions}
use Rattle.sqlite.specs.State.{State}
use Rattle.pay_journal.specs.Words.{KeptParts, IsCutTo}
use Rattle.pay_postings.specs.Words.{LedgerParts}
use Rattle.pay_wire.specs.Commands.{tap_of}
use Rattle.pay_wire.specs.declared.command.SpelledCommand.{SpelledCommand}
use Rattle.pay_wire.specs.declared.command.SpelledCommand.TheVariants as command
use Rattle.pay_session.specs.Requests.{request_of, IsAsked}
use Rattle.pay_session.specs.Words.{has_newline, line_requests, requests_of, rest_of}
use Rattle.pay_session.specs.declared.request.Request.{Request}
use Rattle.pay_session.specs.declared.request.Request.TheVariants as request
use Rattle.pay_run.specs.Journals.{new_requests, cut_after, GivesBack}
use Rattle.pay_run.specs.KeptLines.{lines_of_requests, KeepsNew}
use Rattle.pay_session.specs.declared.sessions.Done.{Done}
use Rattle.pay_run.specs.LineRuns.{Streams, beside_with, Ends, StopsReading, StopsWriting}
use Rattle.pay_run.specs.Machine.{Machine, Failure, new_machine}
use Rattle.pay_run.specs.Outcomes.{outcome}
use Rattle.pay_run.specs.Past.{whole_bytes}

-- the whole lines of some bytes give a machine back
abbrev pub BytesGiveBack : List ℕ → Machine → Type 0
BytesGiveBack bytes m = GivesBack m.zone m.editions (line_requests bytes) m

-- the numbers of each of these requests are in their ranges, as of all that lines ask for
abbrev pub AreAllAsked : List Request → Type 0
AreAllAsked = AllByRecursion IsAsked

-- known bytes are whole lines that give a machine back
abbrev pub HoldsMachine : Option (List ℕ) → Machine → Type 0
HoldsMachine holds m = (bytes : List ℕ) × (holds ≡ Some bytes) × (rest_of bytes ≡ []) × BytesGiveBack bytes m

-- After a journal's lines stand those of what a run newly accepted, of which so many bytes are left. These have so many whole lines, and
-- no more; and all whole lines give back the machine of the run that was cut after the last of them.
pub record IsCutRun (journal : List ℕ) (m : Machine) (list : List Request) (marks : List (Option Failure)) (bytes whole : ℕ) : Type 0 where
  pub gives_back : BytesGiveBack (journal ++ take bytes (lines_of_requests (new_requests marks m list))) (outcome marks m (cut_after whole marks m list)).after
  pub some : whole ≤ length (new_requests marks m list)
  pub within : length (lines_of_requests (take whole (new_requests marks m list))) ≤ bytes
  pub most : (n : ℕ) → n ≤ length (new_requests marks m list) → length (lines_of_requests (take n (new_requests marks m list))) ≤ bytes → n ≤ whole

-- ---- laws

-- what lines ask for is in its ranges, and so is all that an input asks for
abbrev pub LinesAskInRange : Type 0
LinesAskInRange = (input : List ℕ) → AreAllAsked (line_requests input) × AreAllAsked (requests_of input)

-- and so is what was answered of it
abbrev pub FrontsAskInRange : Type 0
FrontsAskInRange = (list others : List Request) → AreAllAsked (list ++ others) → AreAllAsked list

-- A journal gives a machine back, and a keeper begins after its whole lines. What it then holds, with what this machine newly accepts, and
-- with no more than a line that was cut, gives back the machine that there is then.
abbrev pub KeptBytesGiveBack : Type 0
KeptBytesGiveBack = (past : List ℕ) (first holds : Option (List ℕ)) (failed : Bool) (m : Machine) (list : List Request) (marks : List (Option Failure))
    → BytesGiveBack past m → IsCutTo (whole_bytes past) (Some past) first → AreAllAsked list
    → (kept : KeepsNew first holds failed (new_requests marks m list)) → has_newline kept.rest ≡ false
    → (bytes : List ℕ) × (holds ≡ Some bytes) × (rest_of bytes ≡ kept.rest) × BytesGiveBack bytes (outcome marks m list).after

-- where the keeper did not fail, these are whole lines
abbrev pub WholeBytesGiveBack : Type 0
WholeBytesGiveBack = (past : List ℕ) (first holds : Option (List ℕ)) (m : Machine) (list : List Request) (marks : List (Option Failure))
    → BytesGiveBack past m → IsCutTo (whole_bytes past) (Some past) first → AreAllAsked list
    → KeepsNew first holds false (new_requests marks m list) → HoldsMachine holds (outcome marks m list).after

-- Wherever they are cut after what was there before, they give back where the run was cut.
abbrev pub CutBytesGiveBack : Type 0
CutBytesGiveBack = (journal : List ℕ) (m : Machine) (list : List Request) (marks : List (Option Failure)) (bytes : ℕ)
    → BytesGiveBack journal m → rest_of journal ≡ [] → AreAllAsked list → (whole : ℕ) × IsCutRun journal m list marks bytes whole

-- ---- a run

-- A machine that a journal gives back answered lines, its keeper began after the whole lines of the journal, and did not fail: what it holds
-- is the machine with which the run ended. With `Fails` for that it could fail, and `Has` for which ledger the machine has by what there is
-- of one.
module _ {L : Type 0} (Has : L → Option LedgerParts → Type 0) (Fails : Type 0) where
  -- by itself
  abbrev pub EndedIsHeld : Type 0
  EndedIsHeld = (past : List ℕ) (m : Machine) (first : Option (List ℕ)) (desk : KeptParts) (ledger : L) (input : List ℕ) (streams : Streams) (done : Done)
      → BytesGiveBack past m → IsCutTo (whole_bytes past) (Some past) first → desk.stuck ≡ false
      → (ends : Ends m input streams (beside_with Fails first desk (Has ledger)) done) → HoldsMachine desk.holds ends.came.after

  -- where its reader failed
  abbrev pub StoppedReadingIsHeld : Type 0
  StoppedReadingIsHeld = (past : List ℕ) (m : Machine) (first : Option (List ℕ)) (desk : KeptParts) (ledger : L) (input : List ℕ) (streams : Streams) (answered : ℕ)
      → BytesGiveBack past m → IsCutTo (whole_bytes past) (Some past) first → desk.stuck ≡ false
      → (stops : StopsReading m input streams (beside_with Fails first desk (Has ledger)) answered) → HoldsMachine desk.holds stops.came.after

  -- and where its writer did, after the reply that was not written whole
  abbrev pub StoppedWritingIsHeld : Type 0
  StoppedWritingIsHeld = (past : List ℕ) (m : Machine) (first : Option (List ℕ)) (desk : KeptParts) (ledger : L) (input : List ℕ) (streams : Streams) (answered : ℕ)
      → BytesGiveBack past m → IsCutTo (whole_bytes past) (Some past) first → desk.stuck ≡ false
      → (stops : StopsWriting m input streams (beside_with Fails first desk (Has ledger)) answered) → HoldsMachine desk.holds stops.came.after

-- ---- worked rows

-- no bytes give back a machine without accounts
no_bytes : (zone : TimeZone) (editions : FareEditions) → BytesGiveBack [] (new_machine zone editions None)
no_bytes zone editions = record { accepted = tt; machine = refl }

-- a tap of account 7, by its sequence number
abbrev tap_by : ℕ → Request
tap_by seq = request.Command (command.Tap (record { reader = 1; seq = seq; account = 7; utc = 1_704_697_200; place = 50; kind = Bus }))

-- after a journal's line stands that of a second tap
two_lines : codes "TAP 1 1 7 1704697200 50 BUS\n" ++ lines_of_requests (tap_by 2 ∷ []) ≡ codes "TAP 1 1 7 1704697200 50 BUS\nTAP 1 2 7 1704697200 50 BUS\n"
unfolding digits
two_lines = refl

both_read : line_requests (codes "TAP 1 1 7 1704697200 50 BUS\nTAP 1 2 7 1704697200 50 BUS\n") ≡ tap_by 1 ∷ tap_by 2 ∷ []
unfolding request_of tap_of
both_read = refl

-- of 55 bytes of these, which has the newline of the second missing, the first is read; of 28, all of which are the first line, too
second_cut : line_requests (take 55 (codes "TAP 1 1 7 1704697200 50 BUS\nTAP 1 2 7 1704697200 50 BUS\n")) ≡ tap_by 1 ∷ []
unfolding request_of tap_of
second_cut = refl

-- and a session begins after 28 bytes of them
begins_after : whole_bytes (take 55 (codes "TAP 1 1 7 1704697200 50 BUS\nTAP 1 2 7 1704697200 50 BUS\n")) ≡ 28
begins_after = refl
