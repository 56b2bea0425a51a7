-- Lists of amounts, place by place.
use Rattle.std.proofs.Common.{◌≡◌, ℕ, ◌<◌, List, [], ◌∷◌, length, get_or, map, zero, suc, refl, sym, ◌∙◌, arith}
use Rattle.std.specs.Prelude.{ℤ, pos, ◌-ℤ◌}
use Rattle.std.proofs.lemmas.List.FromFn.{fill_by_all}
use Rattle.pay_postings.specs.Amounts.{less}

-- what is left of the share at a place
abbrev pub left_at : List ℕ → List ℕ → ℕ → ℤ
left_at shares posted k = pos (get_or shares k 0) -ℤ pos (get_or posted k 0)

less_at : (shares posted : List ℕ) (k : ℕ) → k < length shares → k < length posted → get_or (less shares (map pos posted)) k (pos 0) ≡ left_at shares posted k
less_at [] posted k h h' = absurd (omega arith)
less_at (share ∷ shares) [] k h h' = absurd (omega arith)
less_at (share ∷ shares) (other ∷ posted) zero h h' = refl
less_at (share ∷ shares) (other ∷ posted) (suc k) h h' = less_at shares posted k (omega arith) (omega arith)

less_long : (shares posted : List ℕ) → length shares ≡ length posted → length (less shares (map pos posted)) ≡ length shares
less_long [] posted e = refl
less_long (share ∷ shares) [] e = absurd (omega (arith, e))
less_long (share ∷ shares) (other ∷ posted) e = omega (arith, less_long shares posted (omega (arith, e)))

-- a list that has what is left at each place is what is left
pub left_is : (shares posted : List ℕ) (left : List ℤ) (n : ℕ) → length shares ≡ n → length posted ≡ n → length left ≡ n → ((k : ℕ) → k < n → get_or left k (pos 0) ≡ left_at shares posted k)
    → left ≡ less shares (map pos posted)
left_is shares posted left n a b c each =
    fill_by_all (left_at shares posted) left n (pos 0) c each
    ∙ sym (fill_by_all (left_at shares posted) (less shares (map pos posted)) n (pos 0) (less_long shares posted (a ∙ sym b) ∙ a) (λ k h. less_at shares posted k (omega (arith, a, h)) (omega (arith, b, h))))
