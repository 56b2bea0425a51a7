-- Whole numbers in ranges, as rows have them.
use Rattle.std.specs.Prelude.{◌≡◌, ℕ, ◌≤◌, ◌&&◌, nat_le, Bool, if◌then◌else◌, ℤ, pos, negsuc, Option, Some, None, refl}
use Rattle.std.proofs.Common.{ap}
use Rattle.std.proofs.lemmas.Bool.{and_from, le-leb}

infixl 10 ◌>>=◌
-- what follows a value, where there is one
abbrev pub ◌>>=◌ : {A B : Type 0} → Option A → (A → Option B) → Option B
(Some x) >>= f = f x
None >>= f = None

-- a number that is not below one bound nor above another
abbrev pub ranged : ℕ → ℕ → ℤ → Option ℕ
ranged least most (pos n) = if nat_le least n && nat_le n most then Some n else None
ranged least most (negsuc n) = None

-- one that is within them comes back
pub number_back : (least most n : ℕ) → least ≤ n → n ≤ most → ranged least most (pos n) ≡ Some n
number_back least most n low high = ap (λ (b : Bool). if b then Some n else None) (and_from _ _ (le-leb least n low) (le-leb n most high))

least_of_three : ranged 3 5 (pos 3) ≡ Some 3
least_of_three = refl

beyond_most : ranged 3 5 (pos 6) ≡ None
beyond_most = refl

below_zero : ranged 0 5 (negsuc 0) ≡ None
below_zero = refl
