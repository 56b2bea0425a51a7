-- How the job statement ends, by the text of its fare file, the text of its zone, its journal, its account and day, and its input.
use Rattle.std.specs.Prelude.{◌≡◌, ◌⊎◌, ℕ, List, Option, None, IfSome}
use Rattle.std.specs.Io.KnownBytes.{Appends}
use Rattle.pay_rules.specs.declared.shown.Line.{Line}
use Rattle.pay_statement.specs.Words.{statement_text}
use Rattle.pay_wire.specs.Words.{AppendsFront}
use Rattle.pay_jobs.specs.Faults.{IsWantOfMemory}
use Rattle.pay_jobs.specs.Texts.{Texts}
use Rattle.pay_jobs.specs.Run.{Begins, Resumes, IsRefused, IsBadZone}
use Rattle.pay_run.specs.Words.{Machine, TellsWeek, WeekNotTold}
use Rattle.pay_jobs.specs.declared.fault.Fault.{Fault}
use Rattle.pay_jobs.specs.declared.fault.Fault.TheVariants.{BadZone, Input, Output, JournalLine, Refused}
use Rattle.pay_run.specs.declared.week.WeekFault.{WeekFault}
use Rattle.pay_run.specs.declared.week.WeekFault.TheVariants.{Broken, NotAccepted, Memory}

-- The texts are those of the fare file and of the zone, and the bytes of the journal; the statement is of an account and a day. What the
-- reader has left, before and after, where it is known.

-- the statement of an account's week, by a machine that has begun with the texts and answered the input
pub record IsPage (texts : Texts) (of : ℕ × ℕ) (reader : Option (List ℕ) × Option (List ℕ)) (text : List ℕ) : Type 0 where
  pub machine : Machine
  pub resumes : Resumes texts None machine
  pub lines : List Line
  pub tells : IfSome reader.0 (λ input. TellsWeek machine input reader.1 of.0 of.1 lines)
  pub says : text ≡ statement_text machine.editions lines

-- the week was not told after the journal, by the fare file and in the zone that are read
pub record WeekBreaks (fault : WeekFault) (texts : Texts) (reader : Option (List ℕ) × Option (List ℕ)) : Type 0 where
  pub machine : Machine
  pub begins : Begins texts.fares texts.zone None machine
  pub fails : WeekNotTold machine.zone machine.editions texts.past reader fault

-- why there is no page, by the fault: before the input was read, while it was, or for want of memory
abbrev pub PageFails : Fault → Texts → Option (List ℕ) × Option (List ℕ) → Type 0
PageFails (Refused number name) texts reader =
    (IsRefused (Refused number name) texts.fares × (reader.1 ≡ reader.0)) ⊎ (IsWantOfMemory (Refused number name) × WeekBreaks Memory texts reader)
PageFails BadZone texts reader = IsBadZone texts.fares texts.zone × (reader.1 ≡ reader.0)
PageFails (JournalLine line why) texts reader = WeekBreaks (NotAccepted line why) texts reader
PageFails Input texts reader = (answered : ℕ) × WeekBreaks (Broken answered) texts reader
PageFails _ texts reader = ⊥

-- ---- from before to after: what the reader has left, and what the writer holds, each where it is known

-- The job ended by itself: the statement was written, and nothing else.
abbrev pub StatementWritten : (texts : Texts) (of : ℕ × ℕ) → (before after : Option (List ℕ) × Option (List ℕ)) → Type 0
StatementWritten texts of before after = (text : List ℕ) × IsPage texts of (before.0, after.0) text × Appends before.1 after.1 text

-- The writer failed: of the statement no more than a front was written.
abbrev pub StopsWriting : (texts : Texts) (of : ℕ × ℕ) → (before after : Option (List ℕ) × Option (List ℕ)) → Type 0
StopsWriting texts of before after = (text : List ℕ) × IsPage texts of (before.0, after.0) text × AppendsFront before.1 after.1 text

-- how the job failed, by its fault: else there is no page, and nothing was written
abbrev pub StatementRefused : (texts : Texts) (of : ℕ × ℕ) → (before after : Option (List ℕ) × Option (List ℕ)) → Fault → Type 0
StatementRefused texts of before after Output = StopsWriting texts of before after
StatementRefused texts of before after fault = PageFails fault texts (before.0, after.0) × (after.1 ≡ before.1)
