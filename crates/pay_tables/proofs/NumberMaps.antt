-- A `BTreeMap` from numbers, as the finite map of its entries.
use Rattle.std.proofs.Common.{◌≡◌, ℕ, true, false, cond, ◌&&◌, Bool, T, List, [], ◌∷◌, length, Some, Less, is_lt, refl, sym, ap, ◌∙◌, subst}
use Rattle.std.specs.Ordering.{nat_cmp, eq_by_cmp}
use Rattle.std.specs.Cmp.{nat_cmp_total, eq_by_cmp_equiv}
use Rattle.std.specs.List.{AllByRecursion}
use Rattle.std.specs.List.Sorted.{IsStrictlySortedBy}
use Rattle.std.specs.Map.{lookup, keys_of}
use Rattle.std.specs.BTreeMap.{is_at}
use Rattle.std.specs.FinMap.{get, insert, find, len, entries, is_sorted, from_entries, from_sorted, get-from_entries, get-from_sorted, get-insert, len-entries, entries-from_sorted, same_map, nat_cmp-IsAntisymmetric}
use Rattle.std.specs.FinMap.Entries.{below_all}

find-lookup : {X : Type 0} (es : List (ℕ × X)) (q : ℕ) → find nat_cmp q es ≡ lookup (is_at (nat_cmp q)) es
find-lookup [] q = refl
find-lookup (e ∷ es) q = ap (cond (is_at (nat_cmp q) e.0) (Some e.1)) (find-lookup es q)

-- what the finite map has at a number is what the entries have there
pub get-lookup : {X : Type 0} (es : List (ℕ × X)) (q : ℕ) → get (from_entries {R = nat_cmp} es) q ≡ lookup (is_at (nat_cmp q)) es
get-lookup es q = get-from_entries nat_cmp_total es q ∙ find-lookup es q

-- entries that differ at one number make maps that differ there
pub from_entries-updated : {X : Type 0} (es fs : List (ℕ × X)) (n : ℕ) (x : X)
    → ((q : ℕ) → lookup (is_at (nat_cmp q)) fs ≡ cond (is_at (nat_cmp n) q) (Some x) (lookup (is_at (nat_cmp q)) es))
    → from_entries {R = nat_cmp} fs ≡ insert (from_entries es) n x
from_entries-updated es fs n x h = same_map nat_cmp_total nat_cmp-IsAntisymmetric _ _ (λ q.
    get-lookup fs q ∙ h q ∙ ap (λ b. cond b (Some x) (lookup (is_at (nat_cmp q)) es)) ((eq_by_cmp_equiv nat_cmp_total).symm n q)
    ∙ sym (get-insert nat_cmp_total (from_entries es) n x q ∙ ap (cond (eq_by_cmp nat_cmp q n) (Some x)) (get-lookup es q)))

-- ---- how many there are

both : (a b : Bool) → T a → T b → T (a && b)
both true b p q = q
both false b p q = p

below : {X : Type 0} (n : ℕ) (es : List (ℕ × X)) → AllByRecursion (λ y. nat_cmp n y ≡ Less) (keys_of es) → T (below_all nat_cmp n es)
below n [] h = tt
below n (e ∷ es) h = both _ _ (subst (λ r. T (is_lt r)) (sym h.0) tt) (below n es h.1)

sorted : {X : Type 0} (es : List (ℕ × X)) → IsStrictlySortedBy nat_cmp (keys_of es) → T (is_sorted nat_cmp es)
unfolding IsStrictlySortedBy
sorted [] h = tt
sorted (e ∷ es) h = both _ _ (below e.0 es h.0) (sorted es h.1)

-- entries in order are those of the map that they make
entries_made : {X : Type 0} (es : List (ℕ × X)) → IsStrictlySortedBy nat_cmp (keys_of es) → entries (from_entries {R = nat_cmp} es) ≡ es
entries_made es h =
    let one : from_entries {R = nat_cmp} es ≡ from_sorted es = same_map nat_cmp_total nat_cmp-IsAntisymmetric _ _ (λ q.
    get-from_entries nat_cmp_total es q ∙ sym (get-from_sorted nat_cmp es q (sorted es h))) in
    ap entries one ∙ entries-from_sorted nat_cmp es (sorted es h)

-- so the map has as many
pub len-made : {X : Type 0} (es : List (ℕ × X)) → IsStrictlySortedBy nat_cmp (keys_of es) → len (from_entries {R = nat_cmp} es) ≡ length es
len-made es h = len-entries _ ∙ ap length (entries_made es h)
