-- The tap or the correction that a command asks for, and those of a list that are an account's.
use Rattle.std.proofs.Common.{◌≡◌, inl, inr, ◌↔◌, ℕ, true, false, List, [], ◌∷◌, Option, Some, None, Result, Ok, Err, if◌then◌else◌, refl, sym, ap, ◌∙◌, subst}
use Rattle.std.specs.List.{cons_option, filter_map}
use Rattle.std.specs.Ordering.{nat_cmp, eq_by_cmp}
use Rattle.pay_rules.specs.InTurn.{IsIn}
use Rattle.pay_tables.specs.Words.{FareEditions}
use Rattle.pay_rules.specs.declared.tap.Tap.{Tap}
use Rattle.pay_rules.specs.declared.fix.Fix.{Fix}
use Rattle.pay_rules.specs.Changes.{Change, Tapped, Fixed}
use Rattle.pay_rules.specs.TapResults.{tap_result}
use Rattle.pay_rules.specs.FixResults.{fix_result}
use Rattle.pay_rules.specs.declared.priced.Priced.{Priced}
use Rattle.pay_rules.specs.declared.fares.TapFault.{TapFault}
use Rattle.pay_rules.specs.declared.fares.FixFault.{FixFault}
use Rattle.pay_shard.specs.Changes.{is_priced}
use Rattle.pay_shard.specs.Machine.{Step, step_tap_result, step_fix_result, step}
use Rattle.pay_rules.specs.State.{State, accepted_of}
use Rattle.pay_shard.specs.declared.asked.Asked.{Asked}
use Rattle.pay_shard.specs.declared.asked.Asked.TheVariants as asked

-- whose it is
abbrev pub account_of : Change → ℕ
account_of (Tapped tap) = tap.account
account_of (Fixed fix) = fix.account

-- the tap or the correction that is asked for, if one is
abbrev pub change_of : Asked → Option Change
change_of (asked.Tap tap) = Some (Tapped tap)
change_of (asked.Fix fix) = Some (Fixed fix)
change_of _ = None

-- the step of a tap or a correction
abbrev pub step_change : FareEditions → State → Change → Step
step_change editions state (Tapped tap) = step_tap_result state tap (tap_result editions (accepted_of state tap.account) tap)
step_change editions state (Fixed fix) = step_fix_result state fix (fix_result editions (accepted_of state fix.account) fix)

-- only what asks for a tap or a correction is answered by prices
pub asks : (editions : FareEditions) (state : State) (a : Asked) → is_priced (step editions state a).reply ≡ true → (change : Change) × (change_of a ≡ Some change)
asks editions state (asked.Tap tap) is = (Tapped tap, refl)
asks editions state (asked.Fix fix) is = (Fixed fix, refl)
asks editions state (asked.Due account day) is = absurd (cc)
asks editions state (asked.Show account day) is = absurd (cc)
asks editions state (asked.Quotes day shard of) is = absurd (cc)

same_change : (change other : Change) → Some change ≡ Some other → change ≡ other
same_change change other e = ap (λ (o : Option Change). elim o [ Some x ↦ x | None ↦ change ]) e

-- and what asks for one takes its step
pub step_is : (editions : FareEditions) (state : State) (a : Asked) (change : Change) → change_of a ≡ Some change → step editions state a ≡ step_change editions state change
step_is editions state (asked.Tap tap) change e = ap (step_change editions state) (same_change (Tapped tap) change e)
step_is editions state (asked.Fix fix) change e = ap (step_change editions state) (same_change (Fixed fix) change e)
step_is editions state (asked.Due account day) change e = absurd (cc)
step_is editions state (asked.Show account day) change e = absurd (cc)
step_is editions state (asked.Quotes day shard of) change e = absurd (cc)

unchanged_by_tap : (state : State) (tap : Tap) (r : Result Priced TapFault) → is_priced (step_tap_result state tap r).reply ≡ false → (step_tap_result state tap r).after ≡ state
unchanged_by_tap state tap (Err fault) is = refl
unchanged_by_tap state tap (Ok priced) is = absurd (cc)

unchanged_by_fix : (state : State) (fix : Fix) (r : Result Priced FixFault) → is_priced (step_fix_result state fix r).reply ≡ false → (step_fix_result state fix r).after ≡ state
unchanged_by_fix state fix (Err fault) is = refl
unchanged_by_fix state fix (Ok priced) is = absurd (cc)

-- what is not answered by prices changes nothing
pub unchanged : (editions : FareEditions) (state : State) (a : Asked) → is_priced (step editions state a).reply ≡ false → (step editions state a).after ≡ state
unchanged editions state (asked.Tap tap) is = unchanged_by_tap state tap (tap_result editions (accepted_of state tap.account) tap) is
unchanged editions state (asked.Fix fix) is = unchanged_by_fix state fix (fix_result editions (accepted_of state fix.account) fix) is
unchanged editions state (asked.Due account day) is = refl
unchanged editions state (asked.Show account day) is = refl
unchanged editions state (asked.Quotes day shard of) is = refl

-- it, if it is this account's
abbrev pub if_own : ℕ → Option Change → Option Change
if_own account None = None
if_own account (Some change) = if eq_by_cmp nat_cmp account (account_of change) then Some change else None

-- the taps and corrections of an account that a list asks for, in their order
abbrev pub changes_of : ℕ → List Asked → List Change
changes_of account = filter_map (λ a. if_own account (change_of a))

-- ---- which ones a list asks for

module _ {X Y : Type 0} (f : X → Option Y) where
  -- what it comes from
  abbrev From : List X → Y → Type 0
  From list y = (x : X) × IsIn list x × (f x ≡ Some y)

  at_front : (x : X) (list : List X) (y : Y) (o : Option Y) → f x ≡ o → (IsIn (filter_map f list) y → From list y) → IsIn (cons_option o (filter_map f list)) y → From (x ∷ list) y
  at_front x list y None e later h = let from = later h in (from.0, inr from.1, from.2)
  at_front x list y (Some z) e later h = elim h [
    | inl is ↦ (x, inl refl, e ∙ ap Some is)
    | inr beyond ↦ let from = later beyond in (from.0, inr from.1, from.2)
  ]

  from_one : (list : List X) (y : Y) → IsIn (filter_map f list) y → From list y
  from_one [] y h = absurd h
  from_one (x ∷ list) y h = at_front x list y (f x) refl (from_one list y) h

  not_lost : (o : Option Y) (list : List Y) (y : Y) → IsIn list y → IsIn (cons_option o list) y
  not_lost None list y h = h
  not_lost (Some z) list y h = inr h

  given : (list : List X) (x : X) (y : Y) → IsIn list x → f x ≡ Some y → IsIn (filter_map f list) y
  given [] x y h e = absurd h
  given (w ∷ list) x y h e = elim h [
    | inl is ↦ subst (λ o. IsIn (cons_option o (filter_map f list)) y) (sym (ap f is ∙ e)) (inl refl)
    | inr later ↦ not_lost (f w) (filter_map f list) y (given list x y later e)
  ]

  all_given : (list other : List X) → ((x : X) → IsIn list x → IsIn other x) → (y : Y) → IsIn (filter_map f list) y → IsIn (filter_map f other) y
  all_given list other there y h = let from = from_one list y h in given other from.0 y (there from.0 from.1) from.2

-- lists that ask the same ask for the same ones
pub same_changes : (account : ℕ) (list other : List Asked) → ((a : Asked) → IsIn list a ↔ IsIn other a)
    → (change : Change) → IsIn (changes_of account list) change ↔ IsIn (changes_of account other) change
same_changes account list other alike change =
    let own : Asked → Option Change = λ a. if_own account (change_of a) in
    (all_given own list other (λ a. (alike a).0) change, all_given own other list (λ a. (alike a).1) change)
