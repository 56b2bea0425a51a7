-- Sums over lists, and over those items that pass a test.
use Rattle.std.proofs.Common.{◌≡◌, ℕ, ◌+◌, ◌≤◌, Bool, true, false, ◌&&◌, if◌then◌else◌, List, [], ◌∷◌, ◌++◌, map, filter, sum_by, refl, ap, ◌∙◌, arith}
use Rattle.std.proofs.lemmas.List.Sums.{sum_by-cons, sum_by-append}

-- a fare, where a test passes
abbrev pub if_passed : Bool → ℕ → ℕ
if_passed b n = if b then n else 0

pub sum_kept : {X : Type 0} (f : X → ℕ) (b : Bool) (x : X) (xs : List X) → sum_by f (if b then x ∷ xs else xs) ≡ sum_by f xs + if_passed b (f x)
sum_kept f true x xs = omega (arith, sum_by-cons f x xs)
sum_kept f false x xs = omega arith

-- the sum of what passes is the sum of all, where what does not pass counts nothing
pub sum_passed : {X : Type 0} (f : X → ℕ) (p : X → Bool) (xs : List X) → sum_by f (filter p xs) ≡ sum_by (λ x. if_passed (p x) (f x)) xs
sum_passed f p [] = refl
sum_passed f p (x ∷ xs) = omega (arith, sum_kept f (p x) x (filter p xs), sum_passed f p xs, sum_by-cons (λ y. if_passed (p y) (f y)) x xs)

pub sum_same : {X : Type 0} (f g : X → ℕ) → ((x : X) → f x ≡ g x) → (xs : List X) → sum_by f xs ≡ sum_by g xs
sum_same f g h [] = refl
sum_same f g h (x ∷ xs) = omega (arith, sum_by-cons f x xs, sum_by-cons g x xs, h x, sum_same f g h xs)

pub sum_passed_both : {X : Type 0} (f : X → ℕ) (p q : X → Bool) (xs : List X) → sum_by f (filter p (filter q xs)) ≡ sum_by (λ x. if_passed (q x && p x) (f x)) xs
sum_passed_both f p q xs = sum_passed f p (filter q xs) ∙ sum_passed (λ x. if_passed (p x) (f x)) q xs ∙ sum_same _ _ (λ x. nested (q x) (p x) (f x)) xs
  where
    nested : (a b : Bool) (n : ℕ) → if_passed a (if_passed b n) ≡ if_passed (a && b) n
    nested true b n = refl
    nested false b n = refl

pub sum_none : {X : Type 0} (f : X → ℕ) → ((x : X) → f x ≡ 0) → (xs : List X) → sum_by f xs ≡ 0
sum_none f h [] = refl
sum_none f h (x ∷ xs) = omega (arith, sum_by-cons f x xs, h x, sum_none f h xs)

-- one item more is not less
pub sum_grows : {X : Type 0} (f : X → ℕ) (before : List X) (x : X) (after : List X) → sum_by f (before ++ after) ≤ sum_by f (before ++ x ∷ after)
sum_grows f before x after = omega (arith, sum_by-append f before after, sum_by-append f before (x ∷ after), sum_by-cons f x after)

pub map_same : {X Y : Type 0} (f g : X → Y) → ((x : X) → f x ≡ g x) → (xs : List X) → map f xs ≡ map g xs
map_same f g h [] = refl
map_same f g h (x ∷ xs) = ap (λ y. y ∷ map f xs) (h x) ∙ ap (λ ys. g x ∷ ys) (map_same f g h xs)
