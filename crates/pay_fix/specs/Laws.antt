-- What is so of every account's taps and corrections.
use Rattle.std.specs.Prelude.{◌≡◌, ◌≤◌, ℕ, false, None, length}
use Rattle.std.specs.FinMap.{get, insert, values}
use Rattle.pay_rules.specs.Numbers.{IsNumbered}
use Rattle.pay_rules.specs.declared.limits.TheConstants.{MOST_TAPS, MOST_FIXES, MOST_TOUCHES}
use Rattle.pay_rules.specs.declared.tap.Tap.{Tap}
use Rattle.pay_rules.specs.Taps.{Taps, number as tap_number}
use Rattle.pay_rules.specs.Order.{HaveOwnNumbers, IsInOrder}
use Rattle.pay_rules.specs.declared.fix.Fix.{Fix}
use Rattle.pay_rules.specs.declared.fix.What.TheVariants.{Void, Credit, Drop}
use Rattle.pay_rules.specs.Credits.{CreditOf}
use Rattle.pay_rules.specs.Fixes.{Fixes, number, is_dropped}
use Rattle.pay_rules.specs.Effective.{effective}
use Rattle.pay_fix.specs.Changes.{IsChanged, change_by_tap, change_by_fix}

-- corrections with one more
abbrev pub with_fix : Fixes → Fix → Fixes
with_fix fixes fix = insert fixes (number fix) fix

-- a Void of a tap leaves the effective taps that there are without the two, unless a Drop has named it before
abbrev pub VoidTakesOut : Type 0
VoidTakesOut = (taps : Taps) (fixes : Fixes) (tap : Tap) (void : Fix) → IsNumbered tap_number MOST_TAPS taps
    → get taps (tap_number tap) ≡ None → get fixes (number void) ≡ None
    → void.what ≡ Void tap.reader tap.seq → is_dropped (values fixes) (number void) ≡ false
    → effective (insert taps (tap_number tap) tap) (with_fix fixes void) ≡ effective taps fixes

-- a Drop of a Void leaves the effective taps that there were before the Void
abbrev pub DropRestores : Type 0
DropRestores = (taps : Taps) (fixes : Fixes) (void drop : Fix) (reader seq : ℕ) → IsNumbered number MOST_FIXES fixes
    → get fixes (number void) ≡ None → get (with_fix fixes void) (number drop) ≡ None
    → void.what ≡ Void reader seq → drop.what ≡ Drop void.staff void.seq
    → effective taps (with_fix (with_fix fixes void) drop) ≡ effective taps fixes

-- a Credit changes no effective tap
abbrev pub CreditChangesNoTap : Type 0
CreditChangesNoTap = (taps : Taps) (fixes : Fixes) (fix : Fix) (credit : CreditOf) → get fixes (number fix) ≡ None → fix.what ≡ Credit credit
    → effective taps (with_fix fixes fix) ≡ effective taps fixes

-- effective taps have numbers of their own
abbrev pub EffectiveHaveOwnNumbers : Type 0
EffectiveHaveOwnNumbers = (taps : Taps) (fixes : Fixes) → IsNumbered tap_number MOST_TAPS taps → IsNumbered number MOST_FIXES fixes
    → HaveOwnNumbers (effective taps fixes)

-- and are in order
abbrev pub EffectiveAreInOrder : Type 0
EffectiveAreInOrder = (taps : Taps) (fixes : Fixes) → IsInOrder (effective taps fixes)

-- and there are never too many
abbrev pub EffectiveAreFew : Type 0
EffectiveAreFew = (taps : Taps) (fixes : Fixes) → IsNumbered tap_number MOST_TAPS taps → IsNumbered number MOST_FIXES fixes
    → length (effective taps fixes) ≤ MOST_TOUCHES

-- a further tap changes the effective taps as `change_by_tap` says
abbrev pub TapChanges : Type 0
TapChanges = (taps : Taps) (fixes : Fixes) (tap : Tap) → IsNumbered tap_number MOST_TAPS taps → IsNumbered number MOST_FIXES fixes
    → get taps (tap_number tap) ≡ None
    → IsChanged (change_by_tap fixes tap) (effective taps fixes) (effective (insert taps (tap_number tap) tap) fixes)

-- and a further correction as `change_by_fix` says
abbrev pub FixChanges : Type 0
FixChanges = (taps : Taps) (fixes : Fixes) (fix : Fix) → IsNumbered tap_number MOST_TAPS taps → IsNumbered number MOST_FIXES fixes
    → get fixes (number fix) ≡ None
    → IsChanged (change_by_fix taps fixes fix) (effective taps fixes) (effective taps (with_fix fixes fix))
