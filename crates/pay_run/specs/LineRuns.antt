-- How a run of lines may end, and what was then written, posted and kept.
use Rattle.std.specs.Prelude.{◌≡◌, ℕ, false, List, [], ◌∷◌, ◌++◌, length, Option, Some, IfSome, IsSomeAnd, ⊤, Result, IfOk, IfErr}
use Rattle.std.specs.List.{list_any}
use Rattle.std.specs.Io.KnownBytes.{Appends}
use Rattle.jiff.specs.declared.tz.timezone.TimeZone.{TimeZone}
use Rattle.sqlite.specs.Held.{Held, state}
use Rattle.sqlite.specs.State.{HasCleanDisk}
use Rattle.sqlite.specs.Store.{Ghosts}
use Rattle.pay_journal.specs.declared.keeper.Keeper.{Ghosts as Keeping}
use Rattle.pay_journal.specs.Words.{KeptParts, CanFail}
use Rattle.pay_ledger.specs.Words.{IsLedger}
use Rattle.pay_postings.specs.Words.{LedgerParts}
use Rattle.pay_shard.specs.Words.{LocalParts}
use Rattle.pay_wire.specs.Words.{AppendsFront, spelling_of_reply}
use Rattle.pay_wire.specs.declared.reply.SpelledReply.{SpelledReply}
use Rattle.pay_session.specs.Words.{line_requests, quits, requests_of, unread, lacks_memory}
use Rattle.pay_session.specs.declared.request.Request.{Request}
use Rattle.pay_session.specs.declared.sessions.Done.{Done}
use Rattle.pay_session.specs.declared.stop.SessionFault.{SessionFault}
use Rattle.pay_session.specs.declared.stop.SessionFault.TheVariants.{Read, Write}
use Rattle.pay_run.specs.Journals.{new_requests}
use Rattle.pay_run.specs.KeptLines.{KeepsNew}
use Rattle.pay_run.specs.Ledgers.{has_ledger_in, has_none}
use Rattle.pay_run.specs.Machine.{Machine, Failure, is_keeping, machine_on}
use Rattle.pay_run.specs.Outcomes.{Outcome, outcome, any_failure, text_of}

-- What is so beside the machine after a run: of the ledger that it then has, of the requests that were newly accepted, and that what
-- keeps these can fail.
pub record Beside : Type 1 where
  pub Holds : Option LedgerParts → Type 0
  pub Keeps : List Request → Type 0
  pub Fails : Type 0

-- Requests came to this: it is what the machine comes to, but for what failed. Where no reply is 43, 44, 48, 49 or 90, nothing failed.
-- Just what was newly accepted was kept; and where what keeps it cannot fail, that is not what failed, so that no reply is 48.
pub record ComesTo (m : Machine) (requests : List Request) (beside : Beside) (came : Outcome) : Type 0 where
  -- of each request, what failed for it
  pub marks : List (Option Failure)
  pub run : came ≡ outcome marks m requests
  pub ample : any_failure came.replies ≡ false → came ≡ outcome [] m requests
  pub ledger : beside.Holds came.after.ledger
  pub kept : beside.Keeps (new_requests marks m requests)
  pub never : (beside.Fails → ⊥) → list_any is_keeping marks ≡ false

-- What is known of the streams of a run: what the reader has left after it, and what the writer held before it and holds after it.
pub record Streams : Type 0 where
  pub left : Option (List ℕ)
  pub held : Option (List ℕ)
  pub written : Option (List ℕ)

-- The run ended by itself: the machine's replies to all that the input asks for were written, and nothing else, and the ledger is the
-- machine's.
pub record Ends (m : Machine) (input : List ℕ) (streams : Streams) (beside : Beside) (done : Done) : Type 0 where
  pub came : Outcome
  pub comes : ComesTo m (requests_of input) beside came
  pub written : Appends streams.held streams.written (text_of came.replies)
  pub counted : done.answered ≡ length came.replies
  pub lacked : done.lacked_memory ≡ list_any lacks_memory came.replies
  pub ended : done.quit ≡ quits input
  pub unread : streams.left ≡ Some (unread input)

-- The reader failed, or was tried too often: the replies to the whole lines read so far were written, and nothing else.
pub record StopsReading (m : Machine) (input : List ℕ) (streams : Streams) (beside : Beside) (answered : ℕ) : Type 0 where
  pub front : List ℕ
  pub back : List ℕ
  pub parts : input ≡ front ++ back
  pub unread : streams.left ≡ Some back
  pub goes_on : quits front ≡ false
  pub came : Outcome
  pub comes : ComesTo m (line_requests front) beside came
  pub written : Appends streams.held streams.written (text_of came.replies)
  pub counted : answered ≡ length came.replies

-- The writer failed: the first replies were written whole, and of the next one no more than a front. Nothing after it was answered.
pub record StopsWriting (m : Machine) (input : List ℕ) (streams : Streams) (beside : Beside) (answered : ℕ) : Type 0 where
  pub done : List Request
  pub others : List Request
  pub requests : requests_of input ≡ done ++ others
  pub came : Outcome
  pub comes : ComesTo m done beside came
  pub told : List SpelledReply
  pub next : SpelledReply
  pub replies : came.replies ≡ told ++ next ∷ []
  pub whole : Option (List ℕ)
  pub written : Appends streams.held whole (text_of told)
  pub broken : AppendsFront whole streams.written (spelling_of_reply next)
  pub counted : answered ≡ length told

-- how a run that did not end by itself ended
abbrev pub FailsSo : SessionFault → Machine → List ℕ → Streams → Beside → Type 0
FailsSo (Read answered) m input streams beside = StopsReading m input streams beside answered
FailsSo (Write answered) m input streams beside = StopsWriting m input streams beside answered

-- ---- from before a run to after it

-- Before a run: what keeps its lines, the ledger, the reader, and the writer.
pub record Before (K L R W : Type 0) : Type 0 where
  pub keeper : K
  pub ledger : L
  pub reader : R
  pub writer : W

abbrev pub before : {K L R W : Type 0} → K → L → R → W → Before K L R W
before keeper ledger reader writer = record { keeper = keeper; ledger = ledger; reader = reader; writer = writer }

-- After it: the desk, with what was kept, and the others.
pub record After (L R W : Type 0) : Type 0 where
  pub desk : KeptParts
  pub ledger : L
  pub reader : R
  pub writer : W

abbrev pub after : {L R W : Type 0} → KeptParts → L → R → W → After L R W
after desk ledger reader writer = record { desk = desk; ledger = ledger; reader = reader; writer = writer }

-- What is known of each of these: the bytes that a keeper holds, that a reader has left, and that a writer holds, where they are known; that
-- the keeper can fail; which ledger the machine then has, and which is found before a run; and whether anything is said of a run that ended
-- with it.
pub record Known (K L R W : Type 0) : Type 1 where
  pub holds : K → Option (List ℕ)
  pub Fails : Type 0
  pub Has : L → Option LedgerParts → Type 0
  pub IsFound : L → Option LedgerParts → Type 0
  pub IsSound : L → Type 0
  pub remaining : R → Option (List ℕ)
  pub contents : W → Option (List ℕ)

-- Of a ledger in a database: nothing is said where its disk has not returned what was written. Where its connection was shut before, it may
-- be any ledger: nothing is read of it.
abbrev pub with_ledger_in : {K S R W : Type 0} → Ghosts S → Keeping K → (R → Option (List ℕ)) → (W → Option (List ℕ)) → Known K (Held S) R W
with_ledger_in store keeper remaining contents = record {
  holds = keeper.holds;
  Fails = CanFail keeper.HasFailed;
  Has = has_ledger_in store;
  IsFound = λ ledger found. IsSomeAnd found (IsLedger (state store ledger).now);
  IsSound = λ ledger. HasCleanDisk (state store ledger);
  remaining = remaining;
  contents = contents;
}

-- without a ledger
abbrev pub without_ledger : {K R W : Type 0} → Keeping K → (R → Option (List ℕ)) → (W → Option (List ℕ)) → Known K ⊤ R W
without_ledger keeper remaining contents = record {
  holds = keeper.holds;
  Fails = CanFail keeper.HasFailed;
  Has = has_none;
  IsFound = has_none;
  IsSound = λ _. ⊤;
  remaining = remaining;
  contents = contents;
}

-- what is so beside the machine, of a keeper that held this, a desk that then keeps lines, and the ledger that there is then
abbrev pub beside_with : Type 0 → Option (List ℕ) → KeptParts → (Option LedgerParts → Type 0) → Beside
beside_with Fails held desk Has = record { Holds = Has; Keeps = KeepsNew held desk.holds desk.stuck; Fails = Fails }

module _ {K L R W : Type 0} (known : Known K L R W) where
  abbrev pub beside_run : Before K L R W → After L R W → Beside
  beside_run before after = beside_with known.Fails (known.holds before.keeper) after.desk (known.Has after.ledger)

  abbrev pub streams_of : Before K L R W → After L R W → Streams
  streams_of before after = record { left = known.remaining after.reader; held = known.contents before.writer; written = known.contents after.writer }

  -- a run of a machine, if it ended by itself
  abbrev pub EndsRun : Machine → Before K L R W → After L R W → Result Done SessionFault → Type 0
  EndsRun m before after ended = IfOk ended (λ done. IfSome (known.remaining before.reader) (λ input. Ends m input (streams_of before after) (beside_run before after) done))

  -- and if it did not
  abbrev pub FailsRun : Machine → Before K L R W → After L R W → Result Done SessionFault → Type 0
  FailsRun m before after ended = IfErr ended (λ fault. IfSome (known.remaining before.reader) (λ input. FailsSo fault m input (streams_of before after) (beside_run before after)))

  -- The same of the machine that goes on from what a desk has in a zone, over whatever ledger there is.
  abbrev pub LinesEnd : TimeZone → LocalParts → Before K L R W → After L R W → Result Done SessionFault → Type 0
  LinesEnd zone desk before after ended = known.IsSound after.ledger → (ledger : Option LedgerParts) → known.Has before.ledger ledger → EndsRun (machine_on zone desk.shard ledger) before after ended

  abbrev pub LinesFail : TimeZone → LocalParts → Before K L R W → After L R W → Result Done SessionFault → Type 0
  LinesFail zone desk before after ended = known.IsSound after.ledger → (ledger : Option LedgerParts) → known.Has before.ledger ledger → FailsRun (machine_on zone desk.shard ledger) before after ended
