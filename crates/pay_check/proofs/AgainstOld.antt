-- How a check against an old fare file ends.
use Rattle.std.proofs.Common.{◌≡◌, ℕ, ◌-◌, ◌≤◌, ◌<◌, List, Option, Result, Ok, Err, OnOk, OnErr, IfErr, codes, inl, inr, sym, subst, arith}
use Rattle.std.specs.Io.KnownBytes.{Appends}
use Rattle.pay_day.specs.declared.limits.TheConstants.{FIRST_DAY, LAST_DAY}
use Rattle.pay_tables.specs.Words.{FareEditions}
use Rattle.pay_compare.specs.Words.{AgreeThrough, IsDifference}
use Rattle.pay_compare.specs.declared.key.Key.{Key}
use Rattle.pay_wire.specs.Words.{AppendsFront}
use Rattle.pay_check.specs.Against.{AgainstEnds, AgainstFails, AreAlike, AreRead, AreUnlike, IsOther, TwoTexts}
use Rattle.pay_check.specs.declared.fault.CheckFault.{CheckFault}
use Rattle.pay_check.specs.declared.fault.CheckFault.TheVariants.{OldRefused, OtherFares, Output, Refused}

-- a first difference that does not come after the last day is told
pub other_told : (fares old : FareEditions) (last day : ℕ) (key : Key) (r : Result (Unit {0}) CheckFault) → FIRST_DAY ≤ day → day ≤ LAST_DAY
    → IfErr r (λ fault. (day ≤ last) × (fault ≡ OtherFares day key (day - 1))) → IsDifference fares old day key
    → ((through : ℕ) → FIRST_DAY ≤ through → through ≤ LAST_DAY → through < day → AgreeThrough fares old through) → IfErr r (IsOther fares old last)
other_told fares old last day key (Ok x) from to told differs agree = tt
other_told fares old last day key (Err fault) from to told differs agree =
    subst (IsOther fares old last) (sym told.1) (differs, told.0, omega (arith, from), λ since. agree (day - 1) since (omega (arith, to)) (omega (arith, from)))

pub not_written : (texts : TwoTexts) (last : ℕ) (held written : Option (List ℕ)) (fault : CheckFault) → AreUnlike texts last fault → written ≡ held → AgainstFails fault texts last (held, written)
not_written texts last held written (Refused why) unlike same = (unlike, same)
not_written texts last held written (OldRefused why) unlike same = (unlike, same)
not_written texts last held written (OtherFares day key last_alike) unlike same = (unlike, same)
not_written texts last held written Output (inl not_read) same = absurd not_read
not_written texts last held written Output (inr other) same = absurd other.3

pub against_ends : {T E : Type 0} (r : Result T E) (texts : TwoTexts) (last : ℕ) (held written : Option (List ℕ)) → AreAlike texts last → OnOk r (Appends held written (codes "OK\n")) → OnOk r (AgainstEnds texts last held written)
against_ends (Ok x) texts last held written alike h = (alike, h)
against_ends (Err e) texts last held written alike h = tt

pub against_fails : {T : Type 0} (r : Result T CheckFault) (texts : TwoTexts) (last : ℕ) (held written : Option (List ℕ)) → AreAlike texts last
    → OnErr r (AppendsFront held written (codes "OK\n")) → IfErr r (λ fault. fault ≡ Output) → IfErr r (λ fault. AgainstFails fault texts last (held, written))
against_fails (Ok x) texts last held written alike h e = tt
against_fails (Err fault) texts last held written alike h e = rw e (alike, h)

pub alike_of : {T E : Type 0} (r : Result T E) (texts : TwoTexts) (fares old : FareEditions) (last : ℕ) → AreRead texts fares old → OnOk r (AgreeThrough fares old last) → OnOk r (AreAlike texts last)
alike_of (Ok x) texts fares old last read agree = (fares, old, read, agree)
alike_of (Err e) texts fares old last read agree = tt

pub unlike_of : {T : Type 0} (r : Result T CheckFault) (texts : TwoTexts) (fares old : FareEditions) (last : ℕ) → AreRead texts fares old → IfErr r (IsOther fares old last) → IfErr r (AreUnlike texts last)
unlike_of (Ok x) texts fares old last read other = tt
unlike_of (Err fault) texts fares old last read other = inr (fares, old, read, other)
