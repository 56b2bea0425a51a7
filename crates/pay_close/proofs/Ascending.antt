-- What a finite map's entries give is in ascending order of their numbers.
use Rattle.std.proofs.Common.{◌≡◌, ℕ, Bool, true, false, cond, ◌&&◌, List, [], ◌∷◌, map, filter, is_lt, T, refl, ap, ◌∙◌}
use Rattle.std.specs.Ordering.{nat_cmp}
use Rattle.std.specs.FinMap.Entries.{below_all, is_sorted}
use Rattle.std.specs.List.{AllByRecursion}
use Rattle.pay_close.proofs.Sorting.{Rises, ranked}

pub so : (a : Bool) → T a → a ≡ true
so true h = refl
so false h = absurd h

pub parts : (a b : Bool) → T (a && b) → T a × T b
parts true b h = (tt, h)
parts false b h = absurd h

module _ {X Y : Type 0} (account : Y → ℕ) (p : ℕ × X → Bool) (f : ℕ × X → Y) (same : (e : ℕ × X) → account (f e) ≡ e.0) where
  abbrev before : Y → Y → Bool
  before a b = is_lt (nat_cmp (account a) (account b))

  not_before : (x : Y) (n : ℕ) (e : ℕ × X) → account x ≡ n → is_lt (nat_cmp n e.0) ≡ true → before (f e) x ≡ false
  not_before x n e is h = (ranked account).one_way x (f e) (ap (λ m. is_lt (nat_cmp m (account (f e)))) is ∙ ap (λ m. is_lt (nat_cmp n m)) (same e) ∙ h)

  all_after : (x : Y) (n : ℕ) (es : List (ℕ × X)) → account x ≡ n → T (below_all nat_cmp n es) → AllByRecursion (λ y. before y x ≡ false) (map f (filter p es))
  all_after x n [] is h = tt
  all_after x n (e ∷ es) is h =
      let both = parts (is_lt (nat_cmp n e.0)) (below_all nat_cmp n es) h in
      let rest = all_after x n es is both.1 in
      elim (p e) as (λ b. AllByRecursion (λ y. before y x ≡ false) (map f (cond b (e ∷ filter p es) (filter p es)))) [
        | true ↦ (not_before x n e is (so _ both.0), rest)
        | false ↦ rest
      ]

  -- what some entries in order give, each with the number of its entry, is in order
  pub rises : (es : List (ℕ × X)) → T (is_sorted nat_cmp es) → Rises before (map f (filter p es))
  rises [] h = tt
  rises (e ∷ es) h =
      let both = parts (below_all nat_cmp e.0 es) (is_sorted nat_cmp es) h in
      let rest = rises es both.1 in
      elim (p e) as (λ b. Rises before (map f (cond b (e ∷ filter p es) (filter p es)))) [
        | true ↦ (all_after (f e) e.0 es (same e) both.0, rest)
        | false ↦ rest
      ]
