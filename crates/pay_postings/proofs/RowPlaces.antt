-- Lists of amounts, place by place.
use Rattle.std.proofs.Common.{◌≡◌, ℕ, ◌+◌, ◌<◌, List, [], ◌∷◌, length, get_or, map, zero, suc, refl, sym, ap, ◌∙◌, subst, arith, ◌≤◌, ◌++◌, drop, Bool, true, false, if◌then◌else◌, Option, Some, None, append-nil}
use Rattle.std.specs.Prelude.{ℤ, pos, ◌+ℤ◌, unsigned_abs, find, All, IfSome}
use Rattle.std.specs.List.{list_all, range_with_len}
use Rattle.std.proofs.lemmas.Bool.{and_parts, leb-true}
use Rattle.std.proofs.lemmas.List.Elements.{All-from_get_or}
use Rattle.std.proofs.lemmas.List.{drop_all}
use Rattle.pay_postings.specs.Amounts.{IsMoney, added}
use Rattle.pay_rows.specs.declared.row.ShareRow.{ShareRow}
use Rattle.pay_postings.specs.PostingRows.{is_money, is_share_row, amount_or_none, amount_of, is_share_of, share_rows_from}
use Rattle.std.proofs.lemmas.List.FromFn.{fill_by_all}

-- the sum at a place
abbrev pub sum_at : List ℕ → List ℤ → ℕ → ℤ
sum_at posted amounts k = pos (get_or posted k 0) +ℤ get_or amounts k (pos 0)

added_at : (posted : List ℕ) (amounts : List ℤ) (k : ℕ) → k < length posted → k < length amounts → get_or (added (map pos posted) amounts) k (pos 0) ≡ sum_at posted amounts k
added_at [] amounts k h h' = absurd (omega arith)
added_at (share ∷ posted) [] k h h' = absurd (omega arith)
added_at (share ∷ posted) (amount ∷ amounts) zero h h' = refl
added_at (share ∷ posted) (amount ∷ amounts) (suc k) h h' = added_at posted amounts k (omega arith) (omega arith)

added_long : (posted : List ℕ) (amounts : List ℤ) → length posted ≡ length amounts → length (added (map pos posted) amounts) ≡ length posted
added_long [] amounts e = refl
added_long (share ∷ posted) [] e = absurd (omega (arith, e))
added_long (share ∷ posted) (amount ∷ amounts) e = omega (arith, added_long posted amounts (omega (arith, e)))

-- a list that has the sum at each place is the sums
pub sums_are : (posted : List ℕ) (amounts sums : List ℤ) (n : ℕ) → length posted ≡ n → length amounts ≡ n → length sums ≡ n → ((k : ℕ) → k < n → get_or sums k (pos 0) ≡ sum_at posted amounts k)
    → sums ≡ added (map pos posted) amounts
sums_are posted amounts sums n a b c each =
    fill_by_all (sum_at posted amounts) sums n (pos 0) c each
    ∙ sym (fill_by_all (sum_at posted amounts) (added (map pos posted) amounts) n (pos 0) (added_long posted amounts (a ∙ sym b) ∙ a) (λ k h. added_at posted amounts k (omega (arith, a, h)) (omega (arith, b, h))))

-- the magnitude at a place
abbrev pub magnitude_at : List ℤ → ℕ → ℕ
magnitude_at amounts k = unsigned_abs (get_or amounts k (pos 0))

map_at : (amounts : List ℤ) (k : ℕ) → k < length amounts → get_or (map unsigned_abs amounts) k 0 ≡ magnitude_at amounts k
map_at [] k h = absurd (omega arith)
map_at (amount ∷ amounts) zero h = refl
map_at (amount ∷ amounts) (suc k) h = map_at amounts k (omega arith)

map_long : (amounts : List ℤ) → length (map unsigned_abs amounts) ≡ length amounts
map_long [] = refl
map_long (amount ∷ amounts) = omega (arith, map_long amounts)

-- a list that has the magnitude at each place is the magnitudes
pub magnitudes_are : (amounts : List ℤ) (magnitudes : List ℕ) (n : ℕ) → length amounts ≡ n → length magnitudes ≡ n → ((k : ℕ) → k < n → get_or magnitudes k 0 ≡ magnitude_at amounts k)
    → magnitudes ≡ map unsigned_abs amounts
magnitudes_are amounts magnitudes n a b each =
    fill_by_all (magnitude_at amounts) magnitudes n 0 b each
    ∙ sym (fill_by_all (magnitude_at amounts) (map unsigned_abs amounts) n 0 (map_long amounts ∙ a) (λ k h. map_at amounts k (omega (arith, a, h))))

-- ---- rows of shares

-- a list that has the amount of each operator is the amounts
pub amounts_are : (shares : List ShareRow) (id number : ℤ) (amounts : List ℤ) (n : ℕ) → number ≡ id → length amounts ≡ n → ((k : ℕ) → k < n → get_or amounts k (pos 0) ≡ amount_of shares number (k + 1))
    → amounts ≡ map (λ (k : ℕ). amount_of shares id (k + 1)) (range_with_len 0 n)
amounts_are shares id number amounts n e all each = fill_by_all (λ (k : ℕ). amount_of shares id (k + 1)) amounts n (pos 0) all (λ k h. each k h ∙ ap (λ (m : ℤ). amount_of shares m (k + 1)) e)

-- where no row is before a place, those from it on are all
pub from_first : (shares : List ShareRow) (number : ℤ) (amounts : List ℤ) (n place : ℕ) → place ≡ 0 → ((k : ℕ) → k < n → get_or amounts k (pos 0) ≡ amount_of (drop place shares) number (k + 1))
    → (k : ℕ) → k < n → get_or amounts k (pos 0) ≡ amount_of shares number (k + 1)
from_first shares number amounts n place first each k below = each k below ∙ ap (λ (m : ℕ). amount_of (drop m shares) number (k + 1)) first

amount_in_range : (row : Option ShareRow) → IfSome row (λ (r : ShareRow). is_money r.amount ≡ true) → IsMoney (amount_or_none row)
amount_in_range None is = omega arith
amount_in_range (Some row) is = leb-true _ _ is

found_here : (row : ShareRow) (found : Option ShareRow) (b : Bool) → is_money row.amount ≡ true → IfSome found (λ (r : ShareRow). is_money r.amount ≡ true) → IfSome (if b then Some row else found) (λ (r : ShareRow). is_money r.amount ≡ true)
found_here row found true is others = is
found_here row found false is others = others

found_in_range : (shares : List ShareRow) (test : ShareRow → Bool) → list_all is_share_row shares ≡ true → IfSome (find test shares) (λ (r : ShareRow). is_money r.amount ≡ true)
found_in_range [] test are = tt
found_in_range (row ∷ shares) test are =
    let parts = and_parts _ _ are in
    found_here row (find test shares) (test row) (and_parts _ _ parts.0).1 (found_in_range shares test parts.1)

pub amounts_in_range : (shares : List ShareRow) (number : ℤ) (amounts : List ℤ) (n : ℕ) → list_all is_share_row shares ≡ true → length amounts ≡ n → ((k : ℕ) → k < n → get_or amounts k (pos 0) ≡ amount_of shares number (k + 1))
    → All IsMoney amounts
amounts_in_range shares number amounts n are all each =
    All-from_get_or IsMoney amounts (pos 0)
    (λ k below. subst IsMoney (sym (each k (omega (arith, below, all)))) (amount_in_range (find (is_share_of number (k + 1)) shares) (found_in_range shares (is_share_of number (k + 1)) are)))

-- nothing is left after the last operator
pub rows_are : (id number : ℤ) (place : ℕ) (amounts : List ℤ) (rows : List ShareRow) → number ≡ id → length amounts ≡ 16 → 16 ≤ place
    → rows ++ share_rows_from number (place + 1) (drop place amounts) ≡ share_rows_from number 1 amounts → rows ≡ share_rows_from id 1 amounts
rows_are id number place amounts rows is long past e =
    let none : rows ++ share_rows_from number (place + 1) (drop place amounts) ≡ rows =
    ap (λ (l : List ℤ). rows ++ share_rows_from number (place + 1) l) (drop_all place amounts (omega (arith, long, past))) ∙ append-nil rows in
    sym none ∙ e ∙ ap (λ (n : ℤ). share_rows_from n 1 amounts) is
