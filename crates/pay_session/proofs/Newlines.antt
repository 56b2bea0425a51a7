-- Where the first newline stands.
use Rattle.std.proofs.Common.{◌≡◌, ℕ, ◌<◌, ◌≤◌, zero, suc, true, false, ◌||◌, eqb, List, [], ◌∷◌, length, take, ap, ◌∙◌, refl, arith}
use Rattle.std.specs.Prelude.{slice_index}
use Rattle.std.proofs.lemmas.Bool.{false_from_ne_true}
use Rattle.memchr.specs.Find.{is_byte}
use Rattle.pay_session.specs.Requests.{has_newline}

pub no_newline_before : (xs : List ℕ) (n : ℕ) → n ≤ length xs → ((k : ℕ) → k < n → is_byte 10 (slice_index xs k) ≡ true → ⊥) → has_newline (take n xs) ≡ false
no_newline_before [] zero l f = refl
no_newline_before [] (suc n) l f = refl
no_newline_before (x ∷ xs) zero l f = refl
no_newline_before (x ∷ xs) (suc n) l f =
    ap (λ b. b || has_newline (take n xs)) (false_from_ne_true (eqb x 10) (f zero (omega arith)))
    ∙ no_newline_before xs n (omega (arith, l)) (λ k lt. f (suc k) (omega (arith, lt)))
