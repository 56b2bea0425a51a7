-- The accounts of a part, and what a close gets of them.
use Rattle.std.proofs.Common.{◌≡◌, ℕ, ◌&&◌, Bool, true, false, cond, List, [], ◌∷◌, map, filter, Option, Some, None, unwrap_or, Ordering, Less, Equal, Greater, is_eq, refl, sym, ap, ◌∙◌}
use Rattle.std.proofs.lemmas.Bool.{true≢false}
use Rattle.std.specs.Cmp.{nat_cmp_total}
use Rattle.std.specs.FinMap.{get, insert, empty, entries, entries_sorted, get-entries, get-empty, get-insert, get-retain_keys, same_map, nat_cmp-IsAntisymmetric}
use Rattle.std.specs.FinMap.Entries.{find-where_key, is_sorted-where_key, same_entries}
use Rattle.std.specs.Ordering.{nat_cmp, eq_by_cmp}
use Rattle.pay_tables.specs.Words.{FareEditions}
use Rattle.pay_rules.specs.Accepted.{Accepted, nothing}
use Rattle.pay_rules.specs.QuoteParts.{QuoteParts}
use Rattle.pay_rules.specs.Quotes.{quote}
use Rattle.pay_rules.specs.SetsParts.{SetsParts, sets}
use Rattle.pay_rules.specs.State.{State, accepted_of}
use Rattle.pay_shard.specs.BatchParts.{batch_of}
use Rattle.pay_shard.specs.Selection.{is_of, is_quoted, quoted}
use Rattle.pay_shard.specs.State.{kept}
use Rattle.pay_partitions.specs.Laws.{BatchesAreParts}
use Rattle.pay_partitions.specs.Parts.{accounts_in, batch_in}

-- ---- filters

one_more : {X : Type 0} (p q : X → Bool) (x : X) (xs : List X) → filter p (filter q xs) ≡ filter q (filter p xs) → (a b : Bool) → p x ≡ a → q x ≡ b
    → filter p (cond b (x ∷ filter q xs) (filter q xs)) ≡ filter q (cond a (x ∷ filter p xs) (filter p xs))
one_more p q x xs rest true true e f = ap (λ c. cond c (x ∷ filter p (filter q xs)) (filter p (filter q xs))) e ∙ ap (λ l. x ∷ l) rest ∙ sym (ap (λ c. cond c (x ∷ filter q (filter p xs)) (filter q (filter p xs))) f)
one_more p q x xs rest true false e f = rest ∙ sym (ap (λ c. cond c (x ∷ filter q (filter p xs)) (filter q (filter p xs))) f)
one_more p q x xs rest false true e f = ap (λ c. cond c (x ∷ filter p (filter q xs)) (filter p (filter q xs))) e ∙ rest
one_more p q x xs rest false false e f = rest

-- two tests may be asked in any order
filters_swap : {X : Type 0} (p q : X → Bool) (xs : List X) → filter p (filter q xs) ≡ filter q (filter p xs)
filters_swap p q [] = refl
filters_swap p q (x ∷ xs) = one_more p q x xs (filters_swap p q xs) (p x) (q x) refl refl

map_first : {X Y : Type 0} (f : X → Y) (x : X) (xs : List X) (b : Bool) → cond b (f x ∷ map f xs) (map f xs) ≡ map f (cond b (x ∷ xs) xs)
map_first f x xs true = refl
map_first f x xs false = refl

filter_of_map : {X Y : Type 0} (f : X → Y) (p : Y → Bool) (xs : List X) → filter p (map f xs) ≡ map f (filter (λ x. p (f x)) xs)
filter_of_map f p [] = refl
filter_of_map f p (x ∷ xs) = ap (λ l. cond (p (f x)) (f x ∷ l) l) (filter_of_map f p xs) ∙ map_first f x (filter (λ x. p (f x)) xs) (p (f x))

-- ---- numbers

equal : (r : Ordering) → is_eq r ≡ true → r ≡ Equal
equal Less e = absurd (true≢false (sym e))
equal Equal e = refl
equal Greater e = absurd (true≢false (sym e))

one_number : (p q : ℕ) → eq_by_cmp nat_cmp p q ≡ true → p ≡ q
one_number p q e = nat_cmp-IsAntisymmetric p q (equal (nat_cmp p q) e)

-- ---- the accounts

module _ (own : ℕ → Bool) where
  alike : (q x : ℕ) → nat_cmp q x ≡ Equal → own x ≡ own q
  alike q x e = ap own (sym (nat_cmp-IsAntisymmetric q x e))

  got_in : (state : State) (q : ℕ) → get (accounts_in own state) q ≡ cond (own q) (get state q) None
  got_in state q = get-retain_keys state own q (alike q)

  entries_in : (state : State) → entries (accounts_in own state) ≡ filter (λ e. own e.0) (entries state)
  entries_in state = same_entries nat_cmp nat_cmp_total nat_cmp-IsAntisymmetric _ _ (entries_sorted (accounts_in own state)) (is_sorted-where_key nat_cmp own (entries state) (entries_sorted state))
      (λ q. sym (get-entries (accounts_in own state) q) ∙ got_in state q ∙ ap (λ (o : Option Accepted). cond (own q) o None) (get-entries state q) ∙ sym (find-where_key nat_cmp own q (alike q) (entries state)))

  pub accepted_in : (state : State) (account : ℕ) → own account ≡ true → accepted_of (accounts_in own state) account ≡ accepted_of state account
  accepted_in state account is = ap (λ (o : Option Accepted). unwrap_or o nothing) (got_in state account ∙ ap (λ b. cond b (get state account) None) is)

  none : (b : Bool) → ◌≡◌ {A = Option Accepted} (cond b None None) None
  none true = refl
  none false = refl

  -- of none it is none
  pub none_in : accounts_in own empty ≡ empty
  none_in = same_map nat_cmp_total nat_cmp-IsAntisymmetric (accounts_in own empty) empty (λ q.
      got_in empty q ∙ ap (λ (o : Option Accepted). cond (own q) o None) (get-empty nat_cmp q) ∙ none (own q) ∙ sym (get-empty nat_cmp q))

  -- ---- a change of one

  chosen : (o e : Bool) (x y : Option Accepted) → (e ≡ true → o ≡ true) → cond o (cond e x y) None ≡ cond e x (cond o y None)
  chosen true e x y is = refl
  chosen false true x y is = absurd (true≢false (sym (is refl)))
  chosen false false x y is = refl

  passed : (o e : Bool) (x y : Option Accepted) → (e ≡ true → o ≡ false) → cond o (cond e x y) None ≡ cond o y None
  passed true true x y isnt = absurd (true≢false (isnt refl))
  passed true false x y isnt = refl
  passed false e x y isnt = refl

  got_after : (state : State) (account : ℕ) (x : Accepted) (q : ℕ) → get (accounts_in own (insert state account x)) q ≡ cond (own q) (cond (eq_by_cmp nat_cmp q account) (Some x) (get state q)) None
  got_after state account x q = got_in (insert state account x) q ∙ ap (λ (o : Option Accepted). cond (own q) o None) (get-insert nat_cmp_total state account x q)

  -- the same change of one of them
  pub kept_own : (new : Bool) (state : State) (account : ℕ) (x : Accepted) → own account ≡ true → kept new (accounts_in own state) account x ≡ accounts_in own (kept new state account x)
  kept_own true state account x is = same_map nat_cmp_total nat_cmp-IsAntisymmetric (insert (accounts_in own state) account x) (accounts_in own (insert state account x)) (λ q.
      get-insert nat_cmp_total (accounts_in own state) account x q ∙ ap (λ (o : Option Accepted). cond (eq_by_cmp nat_cmp q account) (Some x) o) (got_in state q)
      ∙ sym (got_after state account x q ∙ chosen (own q) (eq_by_cmp nat_cmp q account) (Some x) (get state q) (λ e. ap own (one_number q account e) ∙ is)))
  kept_own false state account x is = refl

  -- and a change of another
  pub kept_other : (new : Bool) (state : State) (account : ℕ) (x : Accepted) → own account ≡ false → accounts_in own (kept new state account x) ≡ accounts_in own state
  kept_other true state account x isnt = same_map nat_cmp_total nat_cmp-IsAntisymmetric (accounts_in own (insert state account x)) (accounts_in own state) (λ q.
      got_after state account x q ∙ passed (own q) (eq_by_cmp nat_cmp q account) (Some x) (get state q) (λ e. ap own (one_number q account e) ∙ isnt) ∙ sym (got_in state q))
  kept_other false state account x isnt = refl

-- ---- a batch

quoted_in : (own : ℕ → Bool) (state : State) (day : ℕ) → quoted (accounts_in own state) day 0 1 ≡ filter (λ e. own e.0) (quoted state day 0 1)
quoted_in own state day =
    let test = λ (e : ℕ × Accepted). is_of 0 1 e.0 && is_quoted day (sets e.0 e.1) in
    ap (filter test) (entries_in own state) ∙ filters_swap test (λ e. own e.0) (entries state)

batch_of_own : (own : ℕ → Bool) (editions : FareEditions) (day : ℕ) (list : List (ℕ × Accepted)) → batch_of editions day (filter (λ e. own e.0) list) ≡ batch_in own (batch_of editions day list)
batch_of_own own editions day list =
    let quotes = filter_of_map (λ (e : ℕ × Accepted). quote editions e.0 e.1 day) (λ (q : QuoteParts). own q.account) list in
    let of_sets = filter_of_map (λ (e : ℕ × Accepted). sets e.0 e.1) (λ (s : SetsParts). own s.account) list in
    λ i. record { quotes = sym quotes i; sets = sym of_sets i }

pub batches : BatchesAreParts
batches own editions accounts day = ap (batch_of editions day) (quoted_in own accounts day) ∙ batch_of_own own editions day (quoted accounts day 0 1)
