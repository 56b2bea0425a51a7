-- All boardings of the taps that are kept, one after another.
use Rattle.std.proofs.Common.{◌≡◌, ℕ, suc, ◌+◌, Bool, List, [], ◌∷◌, ◌++◌, map, drop, slice_get, Some, sym, ap, ◌∙◌, append_assoc, arith}
use Rattle.std.specs.List.{zip}
use Rattle.pay_rules.specs.declared.tap.Touch.{Touch}
use Rattle.pay_rules.specs.declared.journey.Journey.{Journey}
use Rattle.pay_rules.specs.declared.journey.Journey.TheVariants as journey
use Rattle.pay_rules.specs.Journeys.{boarding}
use Rattle.pay_book.proofs.Boarded.{at_place}

-- the boardings from a place on
abbrev pub rest_boarded : List Touch → List Bool → ℕ → List Journey
rest_boarded buses pays place = map boarding (zip (drop place buses) (drop place pays))

-- one boarding more, of those from a place on
pub one_boarded : (buses : List Touch) (pays : List Bool) (place : ℕ) (tap : Touch) (mark : Bool) (list more all : List Journey) → slice_get buses place ≡ Some tap → slice_get pays place ≡ Some mark
    → more ≡ list ++ journey.Bus tap mark ∷ [] → list ++ rest_boarded buses pays place ≡ all → more ++ rest_boarded buses pays (place + 1) ≡ all
one_boarded buses pays place tap mark list more all at marked is whole =
    let next : suc place ≡ place + 1 = omega arith in
    let rest : List Journey = rest_boarded buses pays (suc place) in
    let first : rest_boarded buses pays place ≡ journey.Bus tap mark ∷ rest =
    ap (λ (l : List Touch). map boarding (zip l (drop place pays))) (at_place buses place tap at) ∙ ap (λ (l : List Bool). map boarding (zip (tap ∷ drop (suc place) buses) l)) (at_place pays place mark marked) in
    ap (λ (n : ℕ). more ++ rest_boarded buses pays n) (sym next) ∙ ap (λ (l : List Journey). l ++ rest) is ∙ append_assoc list (journey.Bus tap mark ∷ []) rest
    ∙ ap (λ (l : List Journey). list ++ l) (sym first) ∙ whole
