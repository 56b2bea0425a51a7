-- How the job replay ends, by the texts of its fare file, of its zone, and of its journals.
use Rattle.std.specs.Prelude.{◌≡◌, ℕ, ◌+◌, zero, suc, min, max, List, [], ◌∷◌, ◌++◌, length, fold, codes, decimal, Option, None, Some, unwrap_or, refl}
use Rattle.std.specs.Fmt.{digits}
use Rattle.std.specs.List.{flat_map}
use Rattle.std.specs.Ordering.{nat_cmp}
use Rattle.std.specs.BTreeSet.{insert_key}
use Rattle.std.specs.Io.KnownBytes.{Appends}
use Rattle.jiff.specs.declared.tz.timezone.TimeZone.{TimeZone}
use Rattle.pay_rules.specs.declared.fix.What.{What}
use Rattle.pay_rules.specs.declared.fix.What.TheVariants as what
use Rattle.pay_shard.specs.declared.asked.Asked.{Asked}
use Rattle.pay_shard.specs.declared.asked.Asked.TheVariants as asked
use Rattle.pay_tables.specs.Words.{FareEditions}
use Rattle.pay_wire.specs.Words.{AppendsFront}
use Rattle.pay_session.specs.Words.{line_requests, rest_of}
use Rattle.pay_journal.specs.declared.replaying.ReplayFault.{ReplayFault}
use Rattle.pay_journal.specs.declared.replaying.ReplayFault.TheVariants as replaying
use Rattle.pay_session.specs.declared.request.Request.{Request}
use Rattle.pay_jobs.specs.Faults.{IsWantOfMemory}
use Rattle.pay_run.specs.Words.{commands_of, machine_of, Machine, new_machine, outcome, AreAllPriced, IsNotReplayed}
use Rattle.pay_jobs.specs.Run.{Begins, IsRefused, IsBadZone}
use Rattle.pay_jobs.specs.declared.fault.Fault.{Fault}
use Rattle.pay_jobs.specs.declared.fault.Fault.TheVariants.{BadZone, JournalLineOf, Output, Refused}
use Rattle.pay_jobs.specs.declared.replays.Summary.{Summary}

-- ---- what is told of commands

-- the account that a command is of; what asks for quotes is of none
abbrev pub account_of : Asked → List ℕ
account_of (asked.Tap tap) = tap.account ∷ []
account_of (asked.Fix fix) = fix.account ∷ []
account_of (asked.Due account day) = account ∷ []
account_of (asked.Show account day) = account ∷ []
account_of (asked.Quotes day shard of) = []

-- the instant of a Fill; no other correction has one
abbrev pub instant_of_what : What → List ℕ
instant_of_what (what.Fill stamp place kind) = stamp.utc ∷ []
instant_of_what _ = []

-- that of a tap or a correction
abbrev pub instant_of : Asked → List ℕ
instant_of (asked.Tap tap) = tap.stamp.utc ∷ []
instant_of (asked.Fix fix) = instant_of_what fix.what
instant_of _ = []

-- numbers, each once, in ascending order
abbrev pub each_once : List ℕ → List ℕ
each_once = fold (insert_key nat_cmp) []

-- the sooner one of what was the first and another
abbrev pub sooner : Option ℕ → ℕ → Option ℕ
sooner None utc = Some utc
sooner (Some first) utc = Some (min first utc)

-- the first and the last of instants, or 0 where there is none
abbrev pub first_of : List ℕ → ℕ
first_of instants = unwrap_or (fold sooner None instants) 0

abbrev pub last_of : List ℕ → ℕ
last_of = fold max 0

-- one, or none
abbrev pub list_of : Option ℕ → List ℕ
list_of None = []
list_of (Some x) = x ∷ []

-- ---- what is told of journals

-- how many commands there are, how many accounts they are of, and their first and last instant; with how many bytes were left over
abbrev pub summary_of : List Asked → ℕ → Summary
summary_of commands rest = record {
  lines = length commands;
  accounts = length (each_once (flat_map account_of commands));
  first = first_of (flat_map instant_of commands);
  last = last_of (flat_map instant_of commands);
  rest = rest;
}

-- the requests of all whole lines, and the bytes after them
abbrev pub all_requests : List (List ℕ) → List Request
all_requests = flat_map line_requests

abbrev pub rests : List (List ℕ) → ℕ
rests [] = 0
rests (text ∷ texts) = length (rest_of text) + rests texts

-- the bytes that were left over, if there are some
abbrev pub rest_words : ℕ → List ℕ
rest_words zero = []
rest_words (suc n) = codes " rest " ++ decimal (suc n)

-- the same as a line, newline included
abbrev pub summary_line : Summary → List ℕ
summary_line s = (codes "OK lines " ++ decimal s.lines) ++ (codes " accounts " ++ decimal s.accounts) ++ (codes " from " ++ decimal s.first) ++ (codes " to " ++ decimal s.last) ++ rest_words s.rest ++ codes "\n"

-- ---- how the job ends

-- a fare file and a zone are read, each line of all journals, one after the other, is accepted or was before, and this is told of them
pub record IsSummed (fares zone : List ℕ) (texts : List (List ℕ)) (line : List ℕ) : Type 0 where
  pub machine : Machine
  pub begins : Begins fares zone None machine
  pub accepted : AreAllPriced (outcome [] machine (all_requests texts)).replies
  pub says : line ≡ summary_line (summary_of (commands_of machine.zone (all_requests texts)) (rests texts))

-- what is told of a journal of this number that is not accepted
abbrev pub IsFaultOf : ℕ → ReplayFault → Fault → Type 0
IsFaultOf number (replaying.Line line why) fault = fault ≡ JournalLineOf number line why
IsFaultOf number replaying.Memory fault = IsWantOfMemory fault

-- Why a journal of this number is not accepted after what was: a line of it is refused so, or memory was wanting.
abbrev pub IsStoppedAt : TimeZone → FareEditions → List Request → List ℕ → ℕ → Fault → Type 0
IsStoppedAt zone editions before text number fault =
    AreAllPriced (outcome [] (new_machine zone editions None) before).replies × ((why : ReplayFault) × IsFaultOf number why fault × IsNotReplayed (machine_of zone editions before None) (line_requests text) why)

-- The lines of the journals before one are accepted, and this one is not. They are told by their numbers, from the first one's on.
pub record IsStoppedAmong (zone : TimeZone) (editions : FareEditions) (texts : List (List ℕ)) (first : ℕ) (fault : Fault) : Type 0 where
  pub front : List (List ℕ)
  pub text : List ℕ
  pub others : List (List ℕ)
  pub parts : texts ≡ front ++ text ∷ others
  pub stops : IsStoppedAt zone editions (all_requests front) text (length front + first) fault

-- a fare file and a zone are read, and a line of a journal is refused so, where all before it are accepted
abbrev pub IsNotAcceptedOf : (fares zone : List ℕ) (texts : List (List ℕ)) → Fault → Type 0
IsNotAcceptedOf fares zone texts fault = (machine : Machine) × Begins fares zone None machine × IsStoppedAmong machine.zone machine.editions texts 1 fault

-- why nothing is told
abbrev pub IsNotSummed : (fares zone : List ℕ) (texts : List (List ℕ)) → Fault → Type 0
IsNotSummed fares zone texts (Refused number name) = IsRefused (Refused number name) fares
IsNotSummed fares zone texts BadZone = IsBadZone fares zone
IsNotSummed fares zone texts (JournalLineOf journal line why) = IsNotAcceptedOf fares zone texts (JournalLineOf journal line why)
IsNotSummed fares zone texts _ = ⊥

-- The job ended by itself: the line was written, and nothing else.
abbrev pub ReplayWritten : (fares zone : List ℕ) (texts : List (List ℕ)) → Option (List ℕ) → Option (List ℕ) → Type 0
ReplayWritten fares zone texts held written = (line : List ℕ) × IsSummed fares zone texts line × Appends held written line

-- how it failed, by its fault: unless the writer failed, nothing was written
abbrev pub ReplayRefused : Fault → (fares zone : List ℕ) (texts : List (List ℕ)) → Option (List ℕ) → Option (List ℕ) → Type 0
ReplayRefused Output fares zone texts held written = (line : List ℕ) × IsSummed fares zone texts line × AppendsFront held written line
ReplayRefused fault fares zone texts held written = IsNotSummed fares zone texts fault × (written ≡ held)

-- ---- worked rows

some_line : summary_line (record { lines = 3; accounts = 2; first = 1_704_697_200; last = 1_704_702_200; rest = 0 }) ≡ codes "OK lines 3 accounts 2 from 1704697200 to 1704702200\n"
unfolding digits
some_line = refl

some_rest : summary_line (record { lines = 0; accounts = 0; first = 0; last = 0; rest = 12 }) ≡ codes "OK lines 0 accounts 0 from 0 to 0 rest 12\n"
unfolding digits
some_rest = refl

two_accounts : each_once (9 ∷ 7 ∷ 9 ∷ []) ≡ 7 ∷ 9 ∷ []
two_accounts = refl

from_two : first_of (9 ∷ 7 ∷ 9 ∷ []) ≡ 7
from_two = refl

to_nine : last_of (7 ∷ 9 ∷ 7 ∷ []) ≡ 9
to_nine = refl
