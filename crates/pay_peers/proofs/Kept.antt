-- What is kept of a line: its first bytes.
use Rattle.std.proofs.Common.{◌≡◌, ℕ, ◌+◌, ◌<◌, ◌≤◌, zero, suc, List, [], ◌∷◌, ◌++◌, length, take, take_all, get_or, set, length-append, ap, sym, ◌∙◌, refl, arith, append_assoc}
use Rattle.std.proofs.lemmas.List.{length-take-le, take_more, take_more_set}

-- more beside what is kept is kept as beside all
pub kept_more : (n : ℕ) (xs ys : List ℕ) → take n (take n xs ++ ys) ≡ take n (xs ++ ys)
kept_more zero xs ys = refl
kept_more (suc n) [] ys = refl
kept_more (suc n) (x ∷ xs) ys = ap (λ l. x ∷ l) (kept_more n xs ys)

-- and so is a front of it
pub front_alone : (n k : ℕ) (ys : List ℕ) → n ≤ k → take n (take k ys) ≡ take n ys
front_alone zero k ys l = refl
front_alone (suc n) zero ys l = absurd (omega (arith, l))
front_alone (suc n) (suc k) [] l = refl
front_alone (suc n) (suc k) (y ∷ ys) l = ap (λ rest. y ∷ rest) (front_alone n k ys (omega (arith, l)))

pub kept_front : (n k : ℕ) (xs ys : List ℕ) → n ≤ k → take n (xs ++ take k ys) ≡ take n (xs ++ ys)
kept_front n k [] ys l = front_alone n k ys l
kept_front zero k (x ∷ xs) ys l = refl
kept_front (suc n) k (x ∷ xs) ys l = ap (λ rest. x ∷ rest) (kept_front n k xs ys (omega (arith, l)))

-- what stands behind a front is kept as behind all of it, as far as that is no more
pub kept_before : (n k : ℕ) (xs ys : List ℕ) → n ≤ k → take n (take k xs ++ ys) ≡ take n (xs ++ ys)
kept_before zero k xs ys l = refl
kept_before (suc n) zero xs ys l = absurd (omega (arith, l))
kept_before (suc n) (suc k) [] ys l = refl
kept_before (suc n) (suc k) (x ∷ xs) ys l = ap (λ rest. x ∷ rest) (kept_before n k xs ys (omega (arith, l)))

-- a line that is no longer than a line may be is kept whole
pub kept_whole : (line : List ℕ) → length line ≤ 128 → take 129 ([] ++ line) ≡ line
kept_whole line short = take_all 129 line (omega (arith, short))

-- a byte more of some others
pub kept_next : (n i : ℕ) (first items now : List ℕ) → now ≡ take n (first ++ take i items) → i < length items
    → take n (now ++ get_or items i 0 ∷ []) ≡ take n (first ++ take (i + 1) items)
kept_next n i first items now is l =
    ap (λ before. take n (before ++ get_or items i 0 ∷ [])) is
    ∙ kept_more n (first ++ take i items) (get_or items i 0 ∷ [])
    ∙ ap (take n) (append_assoc first (take i items) (get_or items i 0 ∷ []) ∙ ap (λ l. first ++ l) (sym (take_more items i 0 l)))

-- behind a front that is kept whole nothing more is kept
kept_full : (n : ℕ) (line more : List ℕ) → n ≤ length line → take n (line ++ more) ≡ take n line
kept_full zero line more l = refl
kept_full (suc n) [] more l = absurd (omega (arith, l))
kept_full (suc n) (x ∷ xs) more l = ap (λ rest. x ∷ rest) (kept_full n xs more (omega (arith, l)))

-- a byte is put behind the line that some room has, where there is some left
pub byte_added : (n count byte : ℕ) (room line : List ℕ) → take count room ≡ line → count < n → length room ≡ n
    → take (count + 1) (set room count byte) ≡ take n (line ++ byte ∷ [])
byte_added n count byte room line is left size =
    let here : count < length room = omega (arith, left, size) in
    let within : count ≤ length room = omega (arith, here) in
    let short : length (take count room ++ byte ∷ []) ≤ n = omega (arith, length-append (take count room) (byte ∷ []), length-take-le count room within, left) in
    take_more_set room count byte here ∙ sym (take_all n (take count room ++ byte ∷ []) short) ∙ ap (λ (l : List ℕ). take n (l ++ byte ∷ [])) is

pub byte_left_out : (n count byte : ℕ) (room line : List ℕ) → take count room ≡ line → n ≤ count → length room ≡ n → line ≡ take n (line ++ byte ∷ [])
byte_left_out n count byte room line is full size =
    let whole : room ≡ line = sym (take_all count room (omega (arith, size, full))) ∙ is in
    let long : length line ≡ n = sym (ap length whole) ∙ size in
    sym (kept_full n line (byte ∷ []) (omega (arith, long)) ∙ take_all n line (omega (arith, long)))
