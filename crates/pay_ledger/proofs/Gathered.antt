-- Accounts that are read of a ledger agree with it.
use Rattle.std.proofs.Common.{arith, ◌≡◌, ℕ, Bool, true, false, cond, List, [], ◌∷◌, take, get_or, length, ◌<◌, ◌+◌, Some, is_some, refl, sym, ap, subst, ◌∙◌}
use Rattle.std.specs.List.{AllByRecursion}
use Rattle.std.specs.Cmp.{nat_cmp_total}
use Rattle.std.specs.FinMap.{empty, get, insert, get-empty, get-insert, nat_cmp-IsAntisymmetric}
use Rattle.std.specs.Ordering.{nat_cmp, eq_by_cmp, is_eq}
use Rattle.std.specs.declared.cmp.Ordering.{Ordering}
use Rattle.std.specs.declared.cmp.Ordering.TheVariants.{Less, Equal, Greater}
use Rattle.std.proofs.lemmas.List.{take_more}
use Rattle.std.proofs.lemmas.Bool.Decides.{nat_tests}
use Rattle.sqlite_keyed.proofs.ListLemmas.{all-append, all_weaker}
use Rattle.sqlite.specs.State.{State, HasCleanDisk}
use Rattle.pay_postings.specs.Words.{ArchivedParts, AccountsParts, IsThere}
use Rattle.pay_records.specs.Words.{LedgerRows, HoldsRows}
use Rattle.pay_ledger.specs.BadRows.{IsReadFrom, WereRead}
use Rattle.pay_ledger.specs.Steps.{FindsRows, ReadsInto}

equal : (o : Ordering) → is_eq o ≡ true → o ≡ Equal
equal Less e = absurd (cc)
equal Equal e = refl
equal Greater e = absurd (cc)

itself : (q : ℕ) → eq_by_cmp nat_cmp q q ≡ true
itself q = grind (arith, nat_tests)

module _ (before after : AccountsParts) (account : ℕ) (p : ArchivedParts) (is : after ≡ insert before account p) where
  got : (q : ℕ) → get after q ≡ cond (eq_by_cmp nat_cmp q account) (Some p) (get before q)
  got q = ap (λ m. get m q) is ∙ get-insert nat_cmp_total before account p q

  pub there : IsThere after account
  there = ap is_some (got account) ∙ ap (λ b. is_some (cond b (Some p) (get before account))) (itself account)

  still_there : (q : ℕ) → IsThere before q → IsThere after q
  still_there q h = ap is_some (got q) ∙ go (eq_by_cmp nat_cmp q account)
    where
      go : (b : Bool) → is_some (cond b (Some p) (get before q)) ≡ true
      go true = refl
      go false = h

  read_more : (rows : LedgerRows) → IsReadFrom rows account p → WereRead rows before → WereRead rows after
  read_more rows own were q read h = go (eq_by_cmp nat_cmp q account) refl
    where
      go : (b : Bool) → eq_by_cmp nat_cmp q account ≡ b → IsReadFrom rows q read
      go true e =
          let held : Some p ≡ Some read = ap (λ b. cond b (Some p) (get before q)) (sym e) ∙ sym (got q) ∙ h in
          let same : p ≡ read = cc in
          let number : account ≡ q = sym (nat_cmp-IsAntisymmetric q account (equal (nat_cmp q account) e)) in
          subst (λ a. IsReadFrom rows a read) number (subst (IsReadFrom rows account) same own)
      go false e = were q read (ap (λ b. cond b (Some p) (get before q)) (sym e) ∙ sym (got q) ∙ h)

  pub read_one : (old new : State) → (HasCleanDisk new → FindsRows old new (λ rows. IsReadFrom rows account p)) → ReadsInto old new before after
  read_one old new found = record {
    rows = λ clean rows k. let it = found clean rows k in (read_more rows it.0, it.1);
    stay = still_there;
  }

pub reads_none : (s : State) (accounts : AccountsParts) → ReadsInto s s accounts accounts
reads_none s accounts = record { rows = λ clean rows k. ((λ read. read), refl); stay = λ account h. h }

pub reads_then : (a b c : State) (one two three : AccountsParts) → (HasCleanDisk c → HasCleanDisk b) → ReadsInto a b one two → ReadsInto b c two three → ReadsInto a c one three
reads_then a b c one two three was first second = record {
  rows = λ clean rows k.
      let begun = first.rows (was clean) rows k in
      let gone = second.rows clean rows (subst (λ db. HoldsRows db rows) (sym begun.1) k) in
      ((λ read. gone.0 (begun.0 read)), gone.1 ∙ begun.1);
  stay = λ account h. second.stay account (first.stay account h);
}

-- nothing is read yet
pub none_read : (rows : LedgerRows) (none : AccountsParts) → none ≡ empty → WereRead rows none
none_read rows none is account read there = absurd (let e = sym (get-empty nat_cmp account) ∙ ap (λ m. get m account) (sym is) ∙ there in cc)

-- the accounts of some, and of one more
pub all_there : {X : Type 0} (account : X → ℕ) (before after : AccountsParts) (xs : List X) (i : ℕ) (d : X) → i < length xs → ((a : ℕ) → IsThere before a → IsThere after a)
    → AllByRecursion (λ x. IsThere before (account x)) (take i xs) → IsThere after (account (get_or xs i d)) → AllByRecursion (λ x. IsThere after (account x)) (take (i + 1) xs)
all_there account before after xs i d below stay all last =
    subst (AllByRecursion (λ x. IsThere after (account x))) (sym (take_more xs i d below))
    (all-append (λ x. IsThere after (account x)) (take i xs) (get_or xs i d ∷ []) (all_weaker (λ x. IsThere before (account x)) (λ x. IsThere after (account x)) (λ x h. stay (account x) h) (take i xs) all) (last, tt))
