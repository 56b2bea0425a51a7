-- A set with one more, and one with fewer.
use Rattle.std.proofs.Common.{◌≡◌, ℕ, zero, suc, ◌-◌, ◌<◌, ◌≤◌, Bool, true, false, cond, List, [], ◌∷◌, ◌++◌, length, map, Option, Some, None, is_some, Less, Equal, Greater, is_eq, refl, sym, ap, ◌∙◌, arith}
use Rattle.std.specs.Ordering.{eq_by_cmp}
use Rattle.std.specs.FinMap.{get, len, insert, remove, entries, values, find, put, same_map, get-entries, get-insert, get-remove, len-remove, len-entries, entries-insert, empty_of_len, get-empty}
use Rattle.std.specs.FinMap.Entries.{by_order}
use Rattle.std.proofs.lemmas.Cmp.{tied_itself}
use Rattle.std.proofs.lemmas.Option.{none-some}
use Rattle.pay_rules.specs.Numbers.{ByNumber, number_cmp}
use Rattle.pay_rules.specs.NumberOrder.{number_total, exact_numbers, same_number, same_without}

module _ {X : Type 0} where
  -- where a further one stands
  pub record Among (k : ℕ × ℕ) (x : X) (es after : List ((ℕ × ℕ) × X)) : Type 0 where
    pub low : List ((ℕ × ℕ) × X)
    pub high : List ((ℕ × ℕ) × X)
    pub old : es ≡ low ++ high
    pub new : after ≡ low ++ (k, x) ∷ high

  put_among : (es : List ((ℕ × ℕ) × X)) (k : ℕ × ℕ) (x : X) → find number_cmp k es ≡ None → Among k x es (put number_cmp k x es)
  put_among [] k x none = record { low = []; high = []; old = refl; new = refl }
  put_among (e ∷ es) k x none =
      elim (number_cmp k e.0) as (λ r. number_cmp k e.0 ≡ r → Among k x (e ∷ es) (by_order r ((k, x) ∷ e ∷ es) ((e.0, x) ∷ es) (e ∷ put number_cmp k x es))) [
        | Less ↦ λ p. record { low = []; high = e ∷ es; old = refl; new = refl }
        | Equal ↦ λ p. absurd (none-some e.1 (sym none ∙ ap (λ r. cond (is_eq r) (Some e.1) (find number_cmp k es)) p))
        | Greater ↦ λ p.
            let rest = put_among es k x (sym (ap (λ r. cond (is_eq r) (Some e.1) (find number_cmp k es)) p) ∙ none) in
            record { low = e ∷ rest.low; high = rest.high; old = ap (λ l. e ∷ l) rest.old; new = ap (λ l. e ∷ l) rest.new }
      ] refl

  values_of : (low high : List ((ℕ × ℕ) × X)) → map (λ (e : (ℕ × ℕ) × X). e.1) (low ++ high) ≡ map (λ (e : (ℕ × ℕ) × X). e.1) low ++ map (λ (e : (ℕ × ℕ) × X). e.1) high
  values_of [] high = refl
  values_of (e ∷ low) high = ap (λ l. e.1 ∷ l) (values_of low high)

  -- one more stands among the others
  pub among : (set : ByNumber X) (k : ℕ × ℕ) (x : X) → get set k ≡ None
      → (before : List X) × (after : List X) × (values set ≡ before ++ after) × (values (insert set k x) ≡ before ++ x ∷ after)
  among set k x none =
      let is = put_among (entries set) k x (sym (get-entries set k) ∙ none) in (
        map (λ (e : (ℕ × ℕ) × X). e.1) is.low,
        map (λ (e : (ℕ × ℕ) × X). e.1) is.high,
        ap (map (λ (e : (ℕ × ℕ) × X). e.1)) is.old ∙ values_of is.low is.high,
        ap (map (λ (e : (ℕ × ℕ) × X). e.1)) (entries-insert number_total set k x ∙ is.new) ∙ values_of is.low ((k, x) ∷ is.high),
      )

  absent : (b : Bool) (o : Option X) (x : X) → (b ≡ true → o ≡ None) → cond b None (cond b (Some x) o) ≡ o
  absent true o x none = sym (none refl)
  absent false o x none = refl

  -- and taken out again it leaves them as they were
  pub taken_out : (set : ByNumber X) (k : ℕ × ℕ) (x : X) → get set k ≡ None → remove (insert set k x) k ≡ set
  taken_out set k x none = same_map number_total exact_numbers _ _ (λ q.
      get-remove number_total (insert set k x) k q
      ∙ ap (cond (eq_by_cmp number_cmp q k) None) (get-insert number_total set k x q)
      ∙ absent (eq_by_cmp number_cmp q k) (get set q) x (λ e. ap (get set) (same_number q k e) ∙ none))

  -- ---- a set that has all of another

  abbrev pub IsPart : ByNumber X → ByNumber X → Type 0
  IsPart small large = (n : ℕ × ℕ) (x : X) → get small n ≡ Some x → get large n ≡ Some x

  there_or_not : (b : Bool) (o p : Option X) (x : X) → ((x : X) → o ≡ Some x → p ≡ Some x) → cond b None o ≡ Some x → cond b None p ≡ Some x
  there_or_not true o p x h e = e
  there_or_not false o p x h e = h x e

  part_without : (small large : ByNumber X) (k : ℕ × ℕ) → IsPart small large → IsPart (remove small k) (remove large k)
  part_without small large k h n x e =
      get-remove number_total large k n ∙ there_or_not (eq_by_cmp number_cmp n k) (get small n) (get large n) x (h n) (sym (get-remove number_total small k n) ∙ e)

  first_found : (es : List ((ℕ × ℕ) × X)) (n : ℕ) → length es ≡ suc n → (k : ℕ × ℕ) × (x : X) × (find number_cmp k es ≡ Some x)
  first_found [] n e = absurd (omega (arith, e))
  first_found (e ∷ es) n is = (e.0, e.1, ap (λ r. cond (is_eq r) (Some e.1) (find number_cmp e.0 es)) (tied_itself number_total e.0))

  one_there : (set : ByNumber X) (n : ℕ) → len set ≡ suc n → (k : ℕ × ℕ) × (x : X) × (get set k ≡ Some x)
  one_there set n e =
      let is = first_found (entries set) n (sym (len-entries set) ∙ e) in
      (is.0, is.1, get-entries set is.0 ∙ is.2)

  one_less : (set : ByNumber X) (k : ℕ × ℕ) (x : X) → get set k ≡ Some x → len (remove set k) ≡ len set - 1
  one_less set k x e = len-remove number_total set k ∙ ap (λ (o : Option X). cond (is_some o) (len set - 1) (len set)) e

  some_there : (set : ByNumber X) (k : ℕ × ℕ) (x : X) → get set k ≡ Some x → 1 ≤ len set
  some_there set k x e =
      elim (len set) as (λ n. len set ≡ n → 1 ≤ n) [
        | zero ↦ λ none. absurd (none-some x (sym (get-empty number_cmp k) ∙ ap (λ m. get m k) (sym (empty_of_len set none)) ∙ e))
        | suc n ↦ λ is. omega arith
      ] refl

  fewer : (n : ℕ) (small large : ByNumber X) → len small ≡ n → IsPart small large → len small ≤ len large
  fewer zero small large e h = omega (arith, e)
  fewer (suc n) small large e h =
      let is = one_there small n e in
      let there = h is.0 is.1 is.2 in
      let fewer_small = one_less small is.0 is.1 is.2 in
      let fewer_large = one_less large is.0 is.1 there in
      let rest = fewer n (remove small is.0) (remove large is.0) (omega (arith, fewer_small, e)) (part_without small large is.0 h) in
      omega (arith, rest, fewer_small, fewer_large, e, some_there large is.0 is.1 there)

  pub as_many : (small large : ByNumber X) → IsPart small large → len small ≤ len large
  as_many small large h = fewer (len small) small large refl h

  pub more : (small large : ByNumber X) (k : ℕ × ℕ) (x : X) → IsPart small large → get small k ≡ None → get large k ≡ Some x → len small < len large
  more small large k x h none there =
      let rest = as_many (remove small k) (remove large k) (part_without small large k h) in
      omega (arith, rest, ap len (same_without small k none), one_less large k x there, some_there large k x there)
