-- Marks that are written one after another.
use Rattle.std.proofs.Common.{◌≡◌, ℕ, zero, suc, ◌+◌, ◌<◌, ◌≤◌, Bool, List, [], ◌∷◌, ◌++◌, length, take, drop, set, get_or, refl, sym, ap, ◌∙◌, arith}
use Rattle.std.proofs.Math.Seq.{take-suc}
use Rattle.std.proofs.lemmas.List.{map-append, length-map, length-take}
use Rattle.pay_rules.specs.declared.journey.Journey.{Journey}
use Rattle.pay_book.specs.Boardings.{is_paying, marks_of}

written_at : {X : Type 0} (old : List X) (place : ℕ) (done : List X) (x : X) (n : ℕ) → n ≡ place + length done → n < length old
    → set (take place old ++ done ++ drop n old) n x ≡ take place old ++ (done ++ x ∷ []) ++ drop (suc n) old
written_at [] place done x n e few = absurd (omega arith)
written_at (o ∷ os) zero [] x zero e few = refl
written_at (o ∷ os) zero [] x (suc n) e few = absurd (omega arith)
written_at (o ∷ os) zero (d ∷ done) x zero e few = absurd (omega arith)
written_at {X = X} (o ∷ os) zero (d ∷ done) x (suc n) e few = ap (λ (l : List X). d ∷ l) (written_at os zero done x n (omega arith) (omega arith))
written_at (o ∷ os) (suc place) done x zero e few = absurd (omega arith)
written_at {X = X} (o ∷ os) (suc place) done x (suc n) e few = ap (λ (l : List X). o ∷ l) (written_at os place done x n (omega arith) (omega arith))

-- one more mark
pub one_written : (old now : List Bool) (place index : ℕ) (boardings : List Journey) (journey : Journey) (mark : Bool)
    → now ≡ take place old ++ marks_of (take index boardings) ++ drop (place + index) old → place + length boardings ≤ length old → index < length boardings
    → journey ≡ get_or boardings index journey → mark ≡ is_paying journey
    → set now (place + index) mark ≡ take place old ++ marks_of (take (index + 1) boardings) ++ drop (place + (index + 1)) old
one_written old now place index boardings journey mark so_far room few its value =
    let done : length (marks_of (take index boardings)) ≡ index = omega (arith, length-map (take index boardings) is_paying, length-take index boardings) in
    let next : index + 1 ≡ suc index = omega arith in
    let beyond : suc (place + index) ≡ place + (index + 1) = omega arith in
    let last : is_paying (get_or boardings index journey) ≡ mark = ap is_paying (sym its) ∙ sym value in
    let more : marks_of (take index boardings) ++ mark ∷ [] ≡ marks_of (take (index + 1) boardings) =
    ap (λ (b : Bool). marks_of (take index boardings) ++ b ∷ []) (sym last)
    ∙ sym (map-append is_paying (take index boardings) (get_or boardings index journey ∷ []))
    ∙ ap marks_of (sym (take-suc boardings index journey few)) ∙ ap (λ (n : ℕ). marks_of (take n boardings)) (sym next) in
    ap (λ (l : List Bool). set l (place + index) mark) so_far
    ∙ written_at old place (marks_of (take index boardings)) mark (place + index) (omega arith) (omega arith)
    ∙ ap (λ (l : List Bool). take place old ++ l ++ drop (suc (place + index)) old) more
    ∙ ap (λ (n : ℕ). take place old ++ marks_of (take (index + 1) boardings) ++ drop n old) beyond
