-- Lanes in order of their numbers.
use Rattle.std.proofs.Common.{◌≡◌, ℕ, zero, suc, ◌+◌, ◌-◌, ◌<◌, ◌≤◌, ◌≢◌, List, [], ◌∷◌, length, get_or, sum_by, IsPermutation, refl, sym, ap, ◌∙◌, subst, arith}
use Rattle.std.proofs.lemmas.List.Sums.{sum_by-cons}
use Rattle.std.specs.List.{range_with_len}
use Rattle.std.specs.List.Sorted.{IsNonDecreasingBy}
use Rattle.std.proofs.lemmas.List.Sorted.{IsPermutation-map, IsPermutation-sym, IsPermutation-trans, sum_by-IsPermutation}
use Rattle.pay_lanes.specs.Parts.{LaneParts, WorkerParts}
use Rattle.pay_lanes.proofs.Exchanges.{numbered_at, same_item}
use Rattle.pay_lanes.specs.Ends.{lanes_of, numbers}

abbrev total : (ℕ → ℕ) → List ℕ → ℕ
total f [] = 0
total f (x ∷ xs) = f x + total f xs

total_is : (f : ℕ → ℕ) (xs : List ℕ) → total f xs ≡ sum_by f xs
total_is f [] = refl
total_is f (x ∷ xs) = ap (λ n. f x + n) (total_is f xs) ∙ sym (sum_by-cons f x xs)

-- what m is above each, where it is above none
none_above : (m a n : ℕ) → m ≤ a → total (λ z. m - z) (range_with_len a n) ≡ 0
none_above m a zero h = refl
none_above m a (suc n) h = let e : total (λ z. m - z) (range_with_len (a + 1) n) ≡ 0 = none_above m (a + 1) n (omega arith) in omega arith

least : (m : ℕ) (ls : List LaneParts) → ((k : ℕ) (d : LaneParts) → k < length ls → m ≤ (get_or ls k d).number) → total (λ z. m - z) (numbers ls) ≡ 0
least m [] h = refl
least m (l ∷ ls) h =
    let e : total (λ z. m - z) (numbers ls) ≡ 0 = least m ls (λ k d lt. h (suc k) d (omega arith)) in
    let f : m ≤ l.number = h 0 l (omega arith) in omega arith

-- numbers that do not fall and sum up as those of a range do are the range
ordered : (ls : List LaneParts) (a n : ℕ) → IsNonDecreasingBy (λ (l : LaneParts). l.number) ls → ((f : ℕ → ℕ) → total f (numbers ls) ≡ total f (range_with_len a n)) → numbers ls ≡ range_with_len a n
ordered [] a zero up same = refl
ordered [] a (suc n) up same = let e : 0 ≡ 1 + total (λ _. 1) (range_with_len (a + 1) n) = same (λ _. 1) in let no : ⊥ = omega arith in absurd no
ordered (l ∷ ls) a zero up same = let e : 1 + total (λ _. 1) (numbers ls) ≡ 0 = same (λ _. 1) in let no : ⊥ = omega arith in absurd no
ordered (l ∷ ls) a (suc n) up same =
    let low : (a - l.number) + total (λ z. a - z) (numbers ls) ≡ 0 = same (λ z. a - z) ∙ none_above a a (suc n) (omega arith) in
    let high : (l.number - a) + total (λ z. l.number - z) (range_with_len (a + 1) n) ≡ 0 = sym (same (λ z. l.number - z)) ∙ least l.number (l ∷ ls) (λ k d lt. up 0 k d (omega arith) lt) in
    let first : l.number ≡ a = omega arith in
    let rest : numbers ls ≡ range_with_len (a + 1) n =
    ordered ls (a + 1) n (λ i j d le lt. up (suc i) (suc j) d (omega arith) (omega arith))
    (λ f. let e : f l.number + total f (numbers ls) ≡ f a + total f (range_with_len (a + 1) n) = same f in let g : f l.number ≡ f a = ap f first in omega arith) in
    cc

-- so many lanes, once they are sorted, stand in order
pub sorted_all : (n : ℕ) (ls sorted : List LaneParts) → IsPermutation ls sorted → IsNonDecreasingBy (λ (l : LaneParts). l.number) sorted → IsPermutation (range_with_len 0 n) (numbers ls) → numbers sorted ≡ range_with_len 0 n
sorted_all n ls sorted moved up all = ordered sorted 0 n up same
  where
    all_there : IsPermutation (range_with_len 0 n) (numbers sorted)
    all_there = IsPermutation-trans _ _ _ all (IsPermutation-map (λ (l : LaneParts). l.number) ls sorted moved)

    same : (f : ℕ → ℕ) → total f (numbers sorted) ≡ total f (range_with_len 0 n)
    same f = total_is f (numbers sorted) ∙ (sum_by-IsPermutation f _ _ all_there ∙ sym (total_is f (range_with_len 0 n)))

pub in_order_all : (n : ℕ) (ls sorted : List LaneParts) → IsPermutation ls sorted → numbers sorted ≡ range_with_len 0 n → IsPermutation (range_with_len 0 n) (numbers ls)
in_order_all n ls sorted moved same =
    subst (λ ns. IsPermutation ns (numbers ls)) same (IsPermutation-map (λ (l : LaneParts). l.number) sorted ls (IsPermutation-sym ls sorted moved))

-- lanes of which each stands at the place of its number
pub in_place : (a : ℕ) (ls : List LaneParts) → ((k : ℕ) → k < length ls → (d : LaneParts) → (get_or ls k d).number ≡ a + k) → numbers ls ≡ range_with_len a (length ls)
in_place a [] each = refl
in_place a (l ∷ ls) each =
    let first : l.number ≡ a = let e : l.number ≡ a + 0 = each 0 (omega arith) l in omega arith in
    let rest : numbers ls ≡ range_with_len (a + 1) (length ls) = in_place (a + 1) ls (λ k lt d. let e : (get_or ls k d).number ≡ a + suc k = each (suc k) (omega arith) d in omega arith) in cc

pub range_length : (ls : List LaneParts) (a n : ℕ) → numbers ls ≡ range_with_len a n → length ls ≡ n
range_length [] a zero e = refl
range_length [] a (suc n) e = cc
range_length (l ∷ ls) a zero e = cc
range_length (l ∷ ls) a (suc n) e = ap suc (range_length ls (a + 1) n (cc))

-- ---- what the loop over lanes says of them

pub not_there : (ls : List LaneParts) (n k : ℕ) (l : LaneParts) → k < length ls → l ≡ get_or ls k l → l.number ≢ k → numbers ls ≡ range_with_len 0 n → ⊥
not_there ls n k l lt is other e = other (ap (λ (x : LaneParts). x.number) is ∙ omega (arith, numbered_at 0 ls n k l e lt))

pub all_in_place : (ls : List LaneParts) (n place : ℕ) → length ls ≤ place → ((k : ℕ) → k < place → (d : LaneParts) → (get_or ls k d).number ≡ k) → length ls ≡ n → numbers ls ≡ range_with_len 0 n
all_in_place ls n place le each same =
    in_place 0 ls (λ k lt d. let e : (get_or ls k d).number ≡ k = each k (omega arith) d in omega arith) ∙ ap (λ k. range_with_len 0 k) same

pub here_too : (ls : List LaneParts) (k : ℕ) (l : LaneParts) → k < length ls → l ≡ get_or ls k l → l.number ≡ k → (d : LaneParts) → (get_or ls k d).number ≡ k
here_too ls k l lt is own d = ap (λ (x : LaneParts). x.number) (same_item ls k d l lt ∙ sym is) ∙ own

-- how many lanes workers have, as it was counted
pub count : (those ws : List WorkerParts) (n : ℕ) → those ≡ ws → n ≡ lanes_of those → n ≡ lanes_of ws
count those ws n alike is = is ∙ ap lanes_of alike

pub order_at : (ls : List LaneParts) (those ws : List WorkerParts) (n : ℕ) → those ≡ ws → n ≡ lanes_of those → numbers ls ≡ range_with_len 0 n → numbers ls ≡ range_with_len 0 (lanes_of ws)
order_at ls those ws n alike is e = e ∙ ap (λ k. range_with_len 0 k) (count those ws n alike is)
