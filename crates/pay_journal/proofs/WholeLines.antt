-- Where the last newline stands, the whole lines of a text end.
use Rattle.std.proofs.Common.{◌≡◌, ℕ, ◌+◌, ◌<◌, zero, suc, Bool, true, false, ◌||◌, eqb, cond, List, [], ◌∷◌, length, ap, ◌∙◌, refl, arith}
use Rattle.std.specs.Prelude.{slice_index}
use Rattle.std.proofs.lemmas.Bool.{false_from_ne_true}
use Rattle.memchr.specs.Find.{is_byte}
use Rattle.pay_session.specs.Words.{rest_of, has_newline}

none_in : (xs : List ℕ) → ((k : ℕ) → k < length xs → is_byte 10 (slice_index xs k) ≡ true → ⊥) → has_newline xs ≡ false
none_in [] never = refl
none_in (x ∷ xs) never =
    ap (λ b. b || has_newline xs) (false_from_ne_true (eqb x 10) (never zero (omega arith))) ∙ none_in xs (λ k lt. never (suc k) (omega (arith, lt)))

rest_is_all : (xs : List ℕ) → has_newline xs ≡ false → rest_of xs ≡ xs
rest_is_all [] none = refl
rest_is_all (x ∷ xs) none = ap (λ b. cond b (rest_of xs) (x ∷ xs)) none

pub all_rest : (xs : List ℕ) → ((k : ℕ) → k < length xs → is_byte 10 (slice_index xs k) ≡ true → ⊥) → length (rest_of xs) ≡ length xs
all_rest xs never = ap length (rest_is_all xs (none_in xs never))

or_true : (c : Bool) → (c || true) ≡ true
or_true true = refl
or_true false = refl

pub last_at : (xs : List ℕ) (k : ℕ) → k < length xs → is_byte 10 (slice_index xs k) ≡ true → ((j : ℕ) → k < j → j < length xs → is_byte 10 (slice_index xs j) ≡ true → ⊥)
    → (has_newline xs ≡ true) × (suc k + length (rest_of xs) ≡ length xs)
last_at [] k less is never = absurd (omega (arith, less))
last_at (x ∷ xs) zero less is never =
    let here : has_newline (x ∷ xs) ≡ true = ap (λ b. b || has_newline xs) is in
    let rest : rest_of (x ∷ xs) ≡ rest_of xs = ap (λ b. cond b (rest_of xs) (x ∷ xs)) here in
    let long = ap length rest ∙ all_rest xs (λ j lt. never (suc j) (omega arith) (omega (arith, lt))) in
    (here, omega (arith, long))
last_at (x ∷ xs) (suc k) less is never =
    let later = last_at xs k (omega (arith, less)) is (λ j more lt. never (suc j) (omega (arith, more)) (omega (arith, lt))) in
    let here : has_newline (x ∷ xs) ≡ true = ap (λ b. eqb x 10 || b) later.0 ∙ or_true (eqb x 10) in
    let rest : length (rest_of (x ∷ xs)) ≡ length (rest_of xs) = ap (λ b. length (cond b (rest_of xs) (x ∷ xs))) here in
    let long = later.1 in
    (here, omega (arith, rest, long))
