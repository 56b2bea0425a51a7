-- What is told of an account's week after the lines of a journal and a run of lines.
use Rattle.std.specs.Prelude.{◌≡◌, ◌⊎◌, ℕ, List, [], Option, None, Some, IfSome, ⊤}
use Rattle.std.specs.declared.io.ErrorKind.{ErrorKind}
use Rattle.jiff.specs.declared.tz.timezone.TimeZone.{TimeZone}
use Rattle.pay_day.specs.Words.{monday}
use Rattle.pay_rules.specs.Lines.{week_lines}
use Rattle.pay_rules.specs.declared.shown.Line.{Line}
use Rattle.pay_rules.specs.State.{accepted_of}
use Rattle.pay_tables.specs.Words.{FareEditions}
use Rattle.pay_session.specs.Words.{ReaderCall, FailsBy, IsLastFill, HasNoEnd, line_requests, requests_of, unread}
use Rattle.pay_journal.specs.declared.replaying.ReplayFault.{ReplayFault}
use Rattle.pay_journal.specs.declared.replaying.ReplayFault.TheVariants as fault
use Rattle.pay_session.specs.declared.stop.SessionFault.{SessionFault}
use Rattle.pay_session.specs.declared.stop.SessionFault.TheVariants.{Read, Write}
use Rattle.pay_run.specs.Journals.{machine_of}
use Rattle.pay_run.specs.LineRuns.{Beside, Streams, FailsSo}
use Rattle.pay_run.specs.Machine.{Machine, new_machine}
use Rattle.pay_run.specs.Outcomes.{outcome, AreAllPriced}
use Rattle.pay_run.specs.Past.{StopsAt}
use Rattle.pay_run.specs.declared.week.WeekFault.{WeekFault}
use Rattle.pay_run.specs.declared.week.WeekFault.TheVariants.{Broken, NotAccepted, Memory}

-- The session, in which nothing is closed, ended by itself, and memory was refused for nothing. These are the journeys of the week that holds a day, of
-- what the account has accepted of all that the input asks for.
pub record TellsWeek (m : Machine) (input : List ℕ) (left : Option (List ℕ)) (account day : ℕ) (told : List Line) : Type 0 where
  pub lines : told ≡ week_lines m.editions (accepted_of (outcome [] m (requests_of input)).after.accounts account) (monday day)
  pub unread : left ≡ Some (unread input)

-- What is told where the session was broken off. Its replies go to a sink, which takes all; no clause says so of a writer, and what a failure
-- of it would be told as is out of memory, and no fault of a stream.
abbrev pub week_fault : SessionFault → WeekFault
week_fault (Read answered) = Broken answered
week_fault (Write answered) = Memory

-- and where the journal was not accepted
abbrev pub week_fault_of_replay : ReplayFault → WeekFault
week_fault_of_replay (fault.Line line why) = NotAccepted line why
week_fault_of_replay fault.Memory = Memory

-- What is so beside a session without a ledger and without a keeper, which cannot fail.
abbrev pub beside_week : Beside
beside_week = record { Holds = λ ledger. ledger ≡ None; Keeps = λ new. ⊤; Fails = ⊥ }

-- replies that go nowhere
abbrev pub nowhere : Option (List ℕ) → Streams
nowhere left = record { left = left; held = None; written = None }

-- a sink that failed
abbrev pub BreaksAtSink : Machine → List ℕ → Option (List ℕ) → Type 0
BreaksAtSink m input left = (answered : ℕ) × FailsSo (Write answered) m input (nowhere left) beside_week

-- With what a reader may answer, from before to after: its last fill failed and was not interrupted, or it was filled too often.
abbrev pub HasInputFault : {R : Type 0} → (R → ReaderCall → R → Type 0) → R → R → Type 0
HasInputFault reads before reader = ((kind : ErrorKind) × IsLastFill reads (FailsBy reads kind) before reader) ⊎ HasNoEnd reads before reader

-- With a journal: the machine that it gives back, whose lines are then those of a session.
module _ (zone : TimeZone) (editions : FareEditions) (past : List ℕ) where
  abbrev pub machine_past : Machine
  machine_past = machine_of zone editions (line_requests past) None

  -- the journal is accepted
  abbrev pub IsPastAccepted : Type 0
  IsPastAccepted = AreAllPriced (outcome [] (new_machine zone editions None) (line_requests past)).replies

  -- from what a reader has left before and after, what is told of an account's week that holds a day
  abbrev pub WeekTold : (reader : Option (List ℕ) × Option (List ℕ)) → (of : ℕ × ℕ) → List Line → Type 0
  WeekTold reader of lines = IsPastAccepted × IfSome reader.0 (λ input. TellsWeek machine_past input reader.1 of.0 of.1 lines)

  -- How they were not told: a line of the journal is not accepted, the reader failed, or the session ended by itself; and memory for a line, of
  -- the journal or of the input, or for the journeys was refused.
  abbrev pub WeekNotTold : (reader : Option (List ℕ) × Option (List ℕ)) → WeekFault → Type 0
  WeekNotTold reader (NotAccepted line why) = StopsAt (new_machine zone editions None) (line_requests past) line why × (reader.1 ≡ reader.0)
  WeekNotTold reader (Broken answered) = IsPastAccepted × IfSome reader.0 (λ input. FailsSo (Read answered) machine_past input (nowhere reader.1) beside_week)
  WeekNotTold reader Memory = (reader.1 ≡ reader.0) ⊎ IfSome reader.0 (λ input. (reader.1 ≡ Some (unread input)) ⊎ BreaksAtSink machine_past input reader.1)
