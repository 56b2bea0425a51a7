-- As many accounts as numbers whose places are known.
use Rattle.std.proofs.Common.{◌≡◌, ℕ, Bool, ◌&&◌, true, false, T, List, [], ◌∷◌, map, length, is_some, nat_eq, Ordering, Less, Equal, Greater, refl, sym, ap, ◌∙◌}
use Rattle.std.specs.Cmp.{nat_eq_equiv}
use Rattle.std.specs.FinMap as finite
use Rattle.std.specs.FinMap.{is_sorted, entries_sorted, contains_key-keys, len-entries}
use Rattle.std.specs.FinMap.Entries.{below_all}
use Rattle.std.specs.List.{AllByRecursion, IsDistinct, list_any}
use Rattle.std.specs.Map.{keys_of}
use Rattle.std.specs.Ordering.{nat_cmp, is_eq, is_lt}
use Rattle.std.proofs.lemmas.List.{length-map}
use Rattle.std.proofs.lemmas.Map.Entries.{length-keys_of}
use Rattle.std.proofs.lemmas.Map.Made.{is_some-lookup, length-from_same_keys}
use Rattle.pay_rules.specs.Accepted.{Accepted}
use Rattle.pay_rules.specs.State.{State}
use Rattle.pay_shard.specs.Held.{ArePlaces, state_of}
use Rattle.pay_shard.proofs.Places.{equal_to, alike}

first : (a b : Bool) → T (a && b) → T a
first true b p = tt
first false b p = p

second : (a b : Bool) → T (a && b) → T b
second true b p = p
second false b p = absurd p

not_equal : (o : Ordering) → T (is_lt o) → is_eq o ≡ false
not_equal Less p = refl
not_equal Equal p = absurd p
not_equal Greater p = absurd p

-- the keys of a map rise, so no two are equal
others : (k : ℕ) (es : List (ℕ × Accepted)) → T (below_all nat_cmp k es) → AllByRecursion (λ m. nat_eq k m ≡ false) (map (λ e. e.0) es)
others k [] p = tt
others k (e ∷ es) p = (
  equal_to k e.0 ∙ not_equal (nat_cmp k e.0) (first (is_lt (nat_cmp k e.0)) (below_all nat_cmp k es) p),
  others k es (second (is_lt (nat_cmp k e.0)) (below_all nat_cmp k es) p),
)

apart : (es : List (ℕ × Accepted)) → T (is_sorted nat_cmp es) → IsDistinct nat_eq (map (λ e. e.0) es)
unfolding IsDistinct
apart [] p = tt
apart (e ∷ es) p = (
  others e.0 es (first (below_all nat_cmp e.0 es) (is_sorted nat_cmp es) p),
  apart es (second (below_all nat_cmp e.0 es) (is_sorted nat_cmp es) p),
)

has : (now : State) (q : ℕ) → is_some (finite.get now q) ≡ list_any (nat_eq q) (finite.keys now)
has now q = contains_key-keys now q ∙ ap (λ (test : ℕ → Bool). list_any test (finite.keys now)) (λ i k. sym (equal_to q k) i)

pub counted : {F : Type 0} (account : F → ℕ) (accepted : F → Accepted) (list : List F) (places : List (ℕ × ℕ)) (now : State) → state_of account accepted list ≡ now → ArePlaces places (map account list)
    → IsDistinct nat_eq (keys_of places) → length places ≡ finite.len now
counted account accepted list places now v are once =
    sym (length-keys_of places)
    ∙ length-from_same_keys nat_eq_equiv (keys_of places) (finite.keys now) once (apart (finite.entries now) (entries_sorted now)) (λ q.
    sym (is_some-lookup (nat_eq q) places) ∙ ap is_some (are q) ∙ sym (alike account accepted list q) ∙ ap (λ s. is_some (finite.get s q)) v ∙ has now q)
    ∙ length-map (finite.entries now) (λ e. e.0)
    ∙ sym (len-entries now)
