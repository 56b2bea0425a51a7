-- A change of the effective taps before they are put in order, and after.
use Rattle.std.proofs.Common.{◌≡◌, ℕ, Bool, true, false, not, ◌&&◌, ◌||◌, List, ◌∷◌, ◌++◌, map, filter, IsPermutation, refl, sym, ap, ◌∙◌, subst}
use Rattle.std.specs.List.{AllByRecursion}
use Rattle.std.proofs.lemmas.List.Sorted.{IsPermutation-middle, IsPermutation-cons, IsPermutation-trans}
use Rattle.pay_rules.specs.declared.tap.Tap.{Tap}
use Rattle.pay_rules.specs.declared.tap.Touch.{Touch}
use Rattle.pay_rules.specs.Order.{touch_of, in_order, HaveOwnNumbers}
use Rattle.pay_rules.specs.Taps.{number as tap_number}
use Rattle.pay_fix.specs.declared.change.Change.{Change}
use Rattle.pay_fix.specs.declared.change.Change.TheVariants.{Nothing, Enters, Leaves}
use Rattle.pay_rules.specs.declared.fix.Fix.{Fix}
use Rattle.pay_rules.specs.Fixes.{is_number}
use Rattle.pay_rules.specs.Effective.{is_voided}
use Rattle.pay_fix.specs.Changes.{IsOneMore, IsChanged}
use Rattle.pay_rules.specs.SameFix.{number_from_same}
use Rattle.pay_fix.proofs.AmongFixes.{filter_same}
use Rattle.pay_fix.proofs.OneMore.{HasOneMore, more_after, more_before, more_mapped, more_pass}
use Rattle.pay_fix.proofs.OwnTouches.{own_numbers_moved}

-- ---- of touches in whatever arrangement

-- a change of touches that are not in order yet
abbrev pub Becomes : Change → List Touch → List Touch → Type 0
Becomes Nothing before after = after ≡ before
Becomes (Enters touch) before after = HasOneMore touch before after
Becomes (Leaves touch) before after = HasOneMore touch after before

-- what is known of the order of touches
abbrev pub OrderForgets : Type 0
OrderForgets = (list other : List Touch) → HaveOwnNumbers list → IsPermutation list other → in_order list ≡ in_order other

abbrev pub OrderMoves : Type 0
OrderMoves = (list : List Touch) → IsPermutation list (in_order list)

one_more_in_order : OrderForgets → OrderMoves → (touch : Touch) (fewer more : List Touch) → HaveOwnNumbers more → HasOneMore touch fewer more → IsOneMore touch (in_order fewer) (in_order more)
one_more_in_order forgets moves touch fewer more own h =
    let among : IsPermutation more (touch ∷ (h.before ++ h.after)) = subst (λ l. IsPermutation l (touch ∷ (h.before ++ h.after))) (sym h.is_more) (IsPermutation-middle h.before touch h.after) in
    let first : IsPermutation more (touch ∷ fewer) = subst (λ l. IsPermutation more (touch ∷ l)) (sym h.is_fewer) among in
    record {
      in_place = forgets more (touch ∷ fewer) own first;
      own_numbers = own_numbers_moved more (touch ∷ in_order fewer) (IsPermutation-trans _ _ _ first (IsPermutation-cons touch _ _ (moves fewer))) own;
    }

pub changed_in_order : OrderForgets → OrderMoves → (change : Change) (before after : List Touch) → HaveOwnNumbers before → HaveOwnNumbers after → Becomes change before after → IsChanged change (in_order before) (in_order after)
changed_in_order forgets moves Nothing before after own_before own_after h = ap in_order h
changed_in_order forgets moves (Enters touch) before after own_before own_after h = one_more_in_order forgets moves touch before after own_after h
changed_in_order forgets moves (Leaves touch) before after own_before own_after h = one_more_in_order forgets moves touch after before own_before h

-- ---- of accepted and of filled taps

-- whether no standing Void names a tap
abbrev pub kept_by : List Fix → Tap → Bool
kept_by fixes tap = not (is_voided fixes (tap_number tap))

-- the same taps are kept, and the same are filled
pub same_touches : (taps : List Tap) (p q : Tap → Bool) (fills others : List Touch) → AllByRecursion (λ t. p t ≡ q t) taps → fills ≡ others → map touch_of (filter p taps) ++ fills ≡ map touch_of (filter q taps) ++ others
same_touches taps p q fills others agree same = ap (λ l. map touch_of l ++ fills) (filter_same p q taps agree) ∙ ap (λ l. map touch_of (filter q taps) ++ l) same

-- one accepted tap is kept that was not
pub one_more_tap : (taps low : List Tap) (tap : Tap) (high : List Tap) (p q : Tap → Bool) (fills others : List Touch) → taps ≡ low ++ tap ∷ high → AllByRecursion (λ t. p t ≡ q t) (low ++ high) → p tap ≡ false → q tap ≡ true → fills ≡ others
    → HasOneMore (touch_of tap) (map touch_of (filter p taps) ++ fills) (map touch_of (filter q taps) ++ others)
one_more_tap taps low tap high p q fills others is agree fails passes same =
    let kept : HasOneMore tap (filter p taps) (filter q taps) = subst (λ l. HasOneMore tap (filter p l) (filter q l)) (sym is) (more_pass p q low tap high agree fails passes) in
    subst (λ l. HasOneMore (touch_of tap) (map touch_of (filter p taps) ++ fills) (map touch_of (filter q taps) ++ l)) same
    (more_before fills (touch_of tap) (map touch_of (filter p taps)) (map touch_of (filter q taps)) (more_mapped touch_of tap (filter p taps) (filter q taps) kept))

-- one more is filled
pub one_more_fill : (taps : List Tap) (p q : Tap → Bool) (touch : Touch) (fewer more : List Touch) → AllByRecursion (λ t. p t ≡ q t) taps → HasOneMore touch fewer more
    → HasOneMore touch (map touch_of (filter p taps) ++ fewer) (map touch_of (filter q taps) ++ more)
one_more_fill taps p q touch fewer more agree h =
    subst (λ l. HasOneMore touch (map touch_of (filter p taps) ++ fewer) (map touch_of l ++ more)) (filter_same p q taps agree) (more_after (map touch_of (filter p taps)) touch fewer more h)

-- ---- tests

pub and_true : (b : Bool) → (b && true) ≡ b
and_true true = refl
and_true false = refl

pub or_false : (b : Bool) → (b || false) ≡ b
or_false true = refl
or_false false = refl

-- where the tap of a number is out, that it is named again says no more
pub already : (named n : ℕ × ℕ) (out : ℕ × ℕ → Bool) → out named ≡ true → (is_number named n || out n) ≡ out n
already named n out is =
    elim (is_number named n) as (λ b. is_number named n ≡ b → (b || out n) ≡ out n) [
      | true ↦ λ same. sym is ∙ ap out (number_from_same named n same)
      | false ↦ λ _. refl
    ] refl
