-- The taps of a timeline without one that is there, and what stands where among them.
use Rattle.std.proofs.Common.{◌≡◌, ℕ, zero, suc, ◌+◌, ◌<◌, ◌≤◌, Bool, true, false, List, [], length, ◌∷◌, slice_get, Option, Some, None, refl, ◌∙◌, arith}
use Rattle.std.specs.List.{remove}
use mathlib.Core.Logic.{⊎_elim}
use Rattle.std.proofs.lemmas.Bool.{cases_lt}
use Rattle.std.proofs.lemmas.Option.{slice_get_past}
use Rattle.pay_taps.specs.Words.{counted}
use Rattle.pay_rules.specs.declared.tap.Touch.{Touch}
use Rattle.pay_book.specs.Fewer.{fewer_of}

removed_before : (taps : List Touch) (place other : ℕ) → other < place → slice_get (remove taps place) other ≡ slice_get taps other
removed_before [] zero other lt = refl
removed_before [] (suc place) other lt = refl
removed_before (tap ∷ taps) zero other lt = absurd (omega arith)
removed_before (tap ∷ taps) (suc place) zero lt = refl
removed_before (tap ∷ taps) (suc place) (suc other) lt = removed_before taps place other (omega arith)

removed_after : (taps : List Touch) (place other : ℕ) → place ≤ other → slice_get (remove taps place) other ≡ slice_get taps (suc other)
removed_after [] zero other le = refl
removed_after [] (suc place) other le = refl
removed_after (tap ∷ taps) zero other le = refl
removed_after (tap ∷ taps) (suc place) zero le = absurd (omega arith)
removed_after (tap ∷ taps) (suc place) (suc other) le = removed_after taps place other (omega arith)

pub get_fewer_before : (is_there : Bool) (taps : List Touch) (place other : ℕ) → other < place → slice_get (fewer_of is_there place taps) other ≡ slice_get taps other
get_fewer_before true taps place other lt = removed_before taps place other lt
get_fewer_before false taps place other lt = refl

pub get_fewer_after : (taps : List Touch) (place other : ℕ) → place ≤ other → slice_get (fewer_of true place taps) other ≡ slice_get taps (suc other)
get_fewer_after taps place other le = removed_after taps place other le

-- after the last of a timeline there is none of these either
pub none_so_far_on : (is_there : Bool) (taps : List Touch) (place other : ℕ) → length taps ≤ other → slice_get (fewer_of is_there place taps) other ≡ None
none_so_far_on true taps place other le = ⊎_elim
    (λ before. removed_before taps place other before ∙ slice_get_past taps other le)
    (λ beyond. removed_after taps place other beyond ∙ slice_get_past taps (suc other) (omega arith))
    (cases_lt other place)
none_so_far_on false taps place other le = slice_get_past taps other le

-- at most one tap is counted
pub at_most_one_read : (found : Option Touch) (steps : ℕ) → counted found steps ≤ steps + 1
at_most_one_read None steps = omega arith
at_most_one_read (Some touch) steps = omega arith
