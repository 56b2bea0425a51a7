-- Sums of spans, where that of one is changed.
use Rattle.std.proofs.Common.{◌≡◌, ℕ, ◌+◌, ◌≤◌, ◌<◌, zero, suc, Bool, true, false, not, if◌then◌else◌, List, [], ◌∷◌, map, length, set, get_or, sum_by, refl, ap, ◌∙◌, arith}
use Rattle.std.specs.Prelude.{sum}
use Rattle.std.specs.List.{list_all, zip}
use Rattle.std.proofs.lemmas.List.Sums.{sum_by-cons}
use Rattle.pay_caps.proofs.Bools.{and_both, not_true}
use Rattle.pay_caps.proofs.Sums.{if_passed}
use Rattle.pay_caps.proofs.AllSpans.{only_at}

-- numbers beside items, where those whose items pass are changed
abbrev pub changed_where : {X : Type 0} → (X → Bool) → (ℕ → ℕ) → List X → List ℕ → List ℕ
changed_where {X} p f xs ns = map (λ (one : X × ℕ). if p one.0 then f one.1 else one.1) (zip xs ns)

-- the sum of the numbers whose items pass
abbrev pub weighed : {X : Type 0} → (X → Bool) → List X → List ℕ → ℕ
weighed {X} g xs ns = sum_by (λ (one : X × ℕ). if g one.0 then one.1 else 0) (zip xs ns)

unchanged : {X : Type 0} (p : X → Bool) (f : ℕ → ℕ) (xs : List X) (ns : List ℕ) → list_all not (map p xs) ≡ true → length ns ≡ length xs → changed_where p f xs ns ≡ ns
unchanged p f [] [] h len = refl
unchanged p f [] (n ∷ ns) h len = absurd (omega (arith, len))
unchanged p f (x ∷ xs) [] h len = absurd (omega (arith, len))
unchanged p f (x ∷ xs) (n ∷ ns) h len =
    let both = and_both (not (p x)) (list_all not (map p xs)) h in
    rw (not_true (p x) both.0) (ap (λ (rest : List ℕ). n ∷ rest) (unchanged p f xs ns both.1 (omega (arith, len))))

-- where one passes, at a place, the number at that place is changed
pub changed_is_set : {X : Type 0} (p : X → Bool) (f : ℕ → ℕ) (i : ℕ) (xs : List X) (ns : List ℕ) → only_at i (map p xs) ≡ true → length ns ≡ length xs
    → changed_where p f xs ns ≡ set ns i (f (get_or ns i 0))
changed_is_set p f i [] ns h len = absurd cc
changed_is_set p f i (x ∷ xs) [] h len = absurd (omega (arith, len))
changed_is_set p f zero (x ∷ xs) (n ∷ ns) h len =
    let both = and_both (p x) (list_all not (map p xs)) h in
    rw both.0 (ap (λ (rest : List ℕ). f n ∷ rest) (unchanged p f xs ns both.1 (omega (arith, len))))
changed_is_set p f (suc i) (x ∷ xs) (n ∷ ns) h len =
    let both = and_both (not (p x)) (only_at i (map p xs)) h in
    rw (not_true (p x) both.0) (ap (λ (rest : List ℕ). n ∷ rest) (changed_is_set p f i xs ns both.1 (omega (arith, len))))

pub place_below : (i : ℕ) (bs : List Bool) → only_at i bs ≡ true → i < length bs
place_below i [] h = absurd cc
place_below zero (b ∷ bs) h = omega arith
place_below (suc i) (b ∷ bs) h = omega (arith, place_below i bs (and_both (not b) (only_at i bs) h).1)

none_weighs : {X : Type 0} (p : X → Bool) (xs : List X) (ns : List ℕ) → list_all not (map p xs) ≡ true → weighed p xs ns ≡ 0
none_weighs p [] ns h = refl
none_weighs p (x ∷ xs) [] h = refl
none_weighs {X} p (x ∷ xs) (n ∷ ns) h =
    let both = and_both (not (p x)) (list_all not (map p xs)) h in
    omega (arith, sum_by-cons (λ (one : X × ℕ). if p one.0 then one.1 else 0) (x, n) (zip xs ns), ap (λ b. if_passed b n) (not_true (p x) both.0), none_weighs p xs ns both.1)

-- what weighs where one alone passes is the number at its place
pub weighed_at : {X : Type 0} (p : X → Bool) (i : ℕ) (xs : List X) (ns : List ℕ) → only_at i (map p xs) ≡ true → length ns ≡ length xs → weighed p xs ns ≡ get_or ns i 0
weighed_at p i [] ns h len = absurd cc
weighed_at p i (x ∷ xs) [] h len = absurd (omega (arith, len))
weighed_at {X} p zero (x ∷ xs) (n ∷ ns) h len =
    let both = and_both (p x) (list_all not (map p xs)) h in
    omega (arith, sum_by-cons (λ (one : X × ℕ). if p one.0 then one.1 else 0) (x, n) (zip xs ns), ap (λ b. if_passed b n) both.0, none_weighs p xs ns both.1)
weighed_at {X} p (suc i) (x ∷ xs) (n ∷ ns) h len =
    let both = and_both (not (p x)) (only_at i (map p xs)) h in
    omega (arith, sum_by-cons (λ (one : X × ℕ). if p one.0 then one.1 else 0) (x, n) (zip xs ns), ap (λ b. if_passed b n) (not_true (p x) both.0), weighed_at p i xs ns both.1 (omega (arith, len)))

pub weighs_all : {X : Type 0} (xs : List X) (ns : List ℕ) → length ns ≡ length xs → weighed (λ _. true) xs ns ≡ sum ns
weighs_all [] [] len = refl
weighs_all [] (n ∷ ns) len = absurd (omega (arith, len))
weighs_all (x ∷ xs) [] len = absurd (omega (arith, len))
weighs_all {X} (x ∷ xs) (n ∷ ns) len =
    omega (arith, sum_by-cons (λ (one : X × ℕ). one.1) (x, n) (zip xs ns), sum_by-cons (λ (m : ℕ). m) n ns, weighs_all xs ns (omega (arith, len)))

pub weighs_at_most : {X : Type 0} (g : X → Bool) (xs : List X) (ns : List ℕ) → weighed g xs ns ≤ sum ns
weighs_at_most g [] ns = omega arith
weighs_at_most g (x ∷ xs) [] = omega arith
weighs_at_most {X} g (x ∷ xs) (n ∷ ns) =
    omega (arith, sum_by-cons (λ (one : X × ℕ). if g one.0 then one.1 else 0) (x, n) (zip xs ns), sum_by-cons (λ (m : ℕ). m) n ns, passed (g x) n, weighs_at_most g xs ns)
  where
    passed : (b : Bool) (n : ℕ) → (if b then n else 0) ≤ n
    passed true n = omega arith
    passed false n = omega arith

-- one number grows: what weighs grows as much, if it counts
pub weighs_more : {X : Type 0} (g p : X → Bool) (k : ℕ) (counts : Bool) → ((x : X) → p x ≡ true → g x ≡ counts) → (i : ℕ) (xs : List X) (ns : List ℕ) → only_at i (map p xs) ≡ true
    → length ns ≡ length xs → weighed g xs (changed_where p (λ n. n + k) xs ns) ≡ weighed g xs ns + if_passed counts k
weighs_more g p k counts same i [] ns h len = absurd cc
weighs_more g p k counts same i (x ∷ xs) [] h len = absurd (omega (arith, len))
weighs_more {X} g p k counts same zero (x ∷ xs) (n ∷ ns) h len =
    let both = and_both (p x) (list_all not (map p xs)) h in
    let f : X × ℕ → ℕ = λ one. if g one.0 then one.1 else 0 in
    let rest = unchanged p (λ m. m + k) xs ns both.1 (omega (arith, len)) in
    let all : changed_where p (λ m. m + k) (x ∷ xs) (n ∷ ns) ≡ (n + k) ∷ ns = rw both.0 (ap (λ (t : List ℕ). (n + k) ∷ t) rest) in
    ap (λ (t : List ℕ). weighed g (x ∷ xs) t) all
    ∙ omega (arith, sum_by-cons f (x, n + k) (zip xs ns), sum_by-cons f (x, n) (zip xs ns), ap (λ b. if_passed b (n + k)) (same x both.0), ap (λ b. if_passed b n) (same x both.0), grown counts n k)
  where
    grown : (b : Bool) (n k : ℕ) → if_passed b (n + k) ≡ if_passed b n + if_passed b k
    grown true n k = refl
    grown false n k = refl
weighs_more {X} g p k counts same (suc i) (x ∷ xs) (n ∷ ns) h len =
    let both = and_both (not (p x)) (only_at i (map p xs)) h in
    let f : X × ℕ → ℕ = λ one. if g one.0 then one.1 else 0 in
    let later : List ℕ = changed_where p (λ m. m + k) xs ns in
    let all : changed_where p (λ m. m + k) (x ∷ xs) (n ∷ ns) ≡ n ∷ later = rw (not_true (p x) both.0) refl in
    ap (λ (t : List ℕ). weighed g (x ∷ xs) t) all
    ∙ omega (arith, sum_by-cons f (x, n) (zip xs later), sum_by-cons f (x, n) (zip xs ns), weighs_more g p k counts same i xs ns both.1 (omega (arith, len)))
