-- The week of a service day, and why its journeys are not told.
use Rattle.std.proofs.Common.{◌≡◌, ◌≤◌, ◌∙◌, inl, ℕ, Bool, true, false, ◌%◌, List, Option, None, refl, sym, arith}
use Rattle.std.specs.Prelude.{IsTrue}
use Rattle.jiff.specs.declared.tz.timezone.TimeZone.{TimeZone}
use Rattle.pay_tables.specs.Words.{FareEditions}
use Rattle.pay_day.specs.Words.{IsDay, monday}
use Rattle.pay_day.specs.declared.limits.TheConstants.{FIRST_DAY, DAYS_PER_WEEK}
use Rattle.pay_wire.specs.Words.{WriterCall}
use Rattle.pay_session.specs.Words.{ReaderCall, IsBroken, line_requests}
use Rattle.pay_journal.specs.declared.replaying.ReplayFault.{ReplayFault}
use Rattle.pay_journal.specs.declared.replaying.ReplayFault.TheVariants as replaying
use Rattle.pay_session.specs.declared.stop.SessionFault.{SessionFault}
use Rattle.pay_session.specs.declared.stop.SessionFault.TheVariants.{Read, Write}
use Rattle.pay_run.specs.Week.{HasInputFault}
use Rattle.pay_run.specs.Machine.{new_machine}
use Rattle.pay_run.specs.Past.{IsNotReplayed}
use Rattle.pay_run.specs.Week.{WeekNotTold, week_fault, week_fault_of_replay}
use Rattle.pay_run.specs.declared.week.WeekFault.{WeekFault}
use Rattle.pay_run.specs.declared.week.WeekFault.TheVariants.{Broken, Memory}

-- the Monday of a service day's week is a service day, and the Monday of its own week
pub is_day : (day week : ℕ) → IsDay day → week % DAYS_PER_WEEK ≡ FIRST_DAY → week ≤ day → IsDay week
is_day day week in_range first before = (omega (arith, first), omega (arith, in_range.1, before))

pub is_monday : (week : ℕ) → week % DAYS_PER_WEEK ≡ FIRST_DAY → monday week ≡ week
is_monday week first = omega (arith, first)

-- what is told where the journal was not accepted
pub past_fails : (zone : TimeZone) (editions : FareEditions) (past : List ℕ) (known : Option (List ℕ)) (of : ReplayFault) → IsNotReplayed (new_machine zone editions None) (line_requests past) of → WeekNotTold zone editions past (known, known) (week_fault_of_replay of)
past_fails zone editions past known (replaying.Line line why) h = (h, refl)
past_fails zone editions past known replaying.Memory h = inl refl

not_broken : (n : ℕ) → Memory ≡ Broken n → ⊥
not_broken n e = cc

pub past_cause : (of : ReplayFault) (n : ℕ) → week_fault_of_replay of ≡ Broken n → ⊥
past_cause (replaying.Line line why) n e = cc
past_cause replaying.Memory n e = not_broken n e

-- where the reader is told of, it failed
pub week_cause : {R W : Type 0} (reads : R → ReaderCall → R → Type 0) (writes : W → WriterCall → W → Type 0) (before reader : R) (writer : W) (of : SessionFault) (fault : WeekFault) (n : ℕ)
    → fault ≡ week_fault of → IsBroken reads writes of before reader writer → fault ≡ Broken n → HasInputFault reads before reader
week_cause reads writes before reader writer (Read answered) fault n is broken read = broken
week_cause reads writes before reader writer (Write answered) fault n is broken read = absurd (not_broken n (sym is ∙ read))

-- a desk whose keeper cannot fail is not stuck
pub not_stuck : (told stuck : Bool) → told ≡ stuck → (IsTrue told → ⊥) → stuck ≡ false
not_stuck false stuck same never = sym same
not_stuck true stuck same never = absurd (never refl)
