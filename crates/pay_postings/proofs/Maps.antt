-- Accounts by their numbers: what is there, and what is when one is put in the place of what was taken out.
use Rattle.std.proofs.Common.{◌≡◌, ℕ, Bool, true, false, cond, List, [], ◌∷◌, map, Option, Some, None, is_some, refl, sym, ap, ◌∙◌}
use Rattle.std.specs.BTreeMap.{is_at}
use Rattle.std.specs.Cmp.{nat_cmp_total, eq_by_cmp_equiv}
use Rattle.std.specs.FinMap.{find, get, contains_key, insert, remove, empty, get-from_entries, get-insert, get-remove, same_map, nat_cmp-IsAntisymmetric}
use Rattle.std.specs.Map.{lookup}
use Rattle.std.proofs.Common.{Bor}
use Rattle.std.specs.Option.{option_map, option_copied, IfSome, IfNone}
use Rattle.std.specs.Ordering.{nat_cmp, eq_by_cmp, is_eq}
use Rattle.std.specs.declared.cmp.Ordering.{Ordering}
use Rattle.std.specs.declared.cmp.Ordering.TheVariants.{Less, Equal, Greater}
use Rattle.pay_postings.specs.Ledger.{LedgerParts}
use Rattle.pay_postings.specs.Archived.{ArchivedParts, AccountsParts, parts, accounts_of}
use Rattle.pay_postings.specs.Batches.{archived_of, Agrees, IsThere, AreThere}
use Rattle.pay_postings.specs.declared.archived.Archived.{Archived}

equal : (o : Ordering) → is_eq o ≡ true → o ≡ Equal
equal Less e = absurd (cc)
equal Equal e = refl
equal Greater e = absurd (cc)

pub one_number : (p q : ℕ) → eq_by_cmp nat_cmp p q ≡ true → p ≡ q
one_number p q e = nat_cmp-IsAntisymmetric p q (equal (nat_cmp p q) e)

-- ---- accounts of entries

abbrev at : ℕ → List (ℕ × Archived) → Option Archived
at q es = lookup (is_at (nat_cmp q)) es

one_mapped : (b : Bool) (v : Archived) (o : Option Archived) → cond b (Some (parts v)) (option_map parts o) ≡ option_map parts (cond b (Some v) o)
one_mapped true v o = refl
one_mapped false v o = refl

found : (es : List (ℕ × Archived)) (q : ℕ) → find nat_cmp q (map (λ (e : ℕ × Archived). (e.0, parts e.1)) es) ≡ option_map parts (at q es)
found [] q = refl
found (e ∷ es) q = ap (cond (eq_by_cmp nat_cmp q e.0) (Some (parts e.1))) (found es q) ∙ one_mapped (eq_by_cmp nat_cmp q e.0) e.1 (at q es)

pub there_is : (es : List (ℕ × Archived)) (q : ℕ) → get (accounts_of es) q ≡ option_map parts (at q es)
unfolding accounts_of
there_is es q = get-from_entries nat_cmp_total (map (λ (e : ℕ × Archived). (e.0, parts e.1)) es) q ∙ found es q

pub none_there : accounts_of [] ≡ empty
unfolding accounts_of
none_there = refl

some_mapped : (o : Option Archived) → is_some (option_map parts o) ≡ is_some o
some_mapped None = refl
some_mapped (Some v) = refl

-- an account is there where its entry is
pub is_there : (es : List (ℕ × Archived)) (accounts : AccountsParts) (q : ℕ) (answer : Bool) → accounts_of es ≡ accounts → answer ≡ is_some (at q es) → answer ≡ contains_key accounts q
is_there es accounts q answer is e = e ∙ sym (some_mapped (at q es)) ∙ sym (ap is_some (there_is es q)) ∙ ap (λ m. contains_key m q) is

pub taken : (o : Option Archived) (es : List (ℕ × Archived)) (accounts : AccountsParts) (q : ℕ) → accounts_of es ≡ accounts → o ≡ at q es → IfSome o (λ archived. get accounts q ≡ Some (parts archived))
taken None es accounts q is e = tt
taken (Some archived) es accounts q is e = ap (λ m. get m q) (sym is) ∙ there_is es q ∙ ap (option_map parts) (sym e)

pub not_taken : (o : Option Archived) (es : List (ℕ × Archived)) (accounts : AccountsParts) (q : ℕ) → accounts_of es ≡ accounts → o ≡ at q es → IfNone o (get accounts q ≡ None)
not_taken None es accounts q is e = ap (λ m. get m q) (sym is) ∙ there_is es q ∙ ap (option_map parts) (sym e)
not_taken (Some archived) es accounts q is e = tt

as_lent : (o : Option (Bor Archived)) → option_map (λ a. parts a.now) o ≡ option_map parts (option_copied o)
as_lent None = refl
as_lent (Some a) = refl

-- what is lent of an entry is what is there
pub lent : (o : Option (Bor Archived)) (es : List (ℕ × Archived)) (accounts : AccountsParts) (q : ℕ) → accounts_of es ≡ accounts → option_copied o ≡ at q es → option_map (λ a. parts a.now) o ≡ get accounts q
lent o es accounts q is e = as_lent o ∙ ap (option_map parts) e ∙ sym (there_is es q) ∙ ap (λ m. get m q) is

pub inserted : (es fs : List (ℕ × Archived)) (accounts : AccountsParts) (k : ℕ) (v : Archived) → accounts_of es ≡ accounts
    → ((q : ℕ) → at q fs ≡ cond (is_at (nat_cmp k) q) (Some v) (at q es)) → accounts_of fs ≡ insert accounts k (parts v)
inserted es fs accounts k v is h =
    same_map nat_cmp_total nat_cmp-IsAntisymmetric _ _ (λ q.
    there_is fs q ∙ ap (option_map parts) (h q) ∙ sym (one_mapped (is_at (nat_cmp k) q) v (at q es))
    ∙ ap (λ b. cond b (Some (parts v)) (option_map parts (at q es))) ((eq_by_cmp_equiv nat_cmp_total).symm k q)
    ∙ sym (get-insert nat_cmp_total (accounts_of es) k (parts v) q ∙ ap (cond (eq_by_cmp nat_cmp q k) (Some (parts v))) (there_is es q)))
    ∙ ap (λ m. insert m k (parts v)) is

none_mapped : (b : Bool) (o : Option Archived) → cond b None (option_map parts o) ≡ option_map parts (cond b None o)
none_mapped true o = refl
none_mapped false o = refl

pub removed : (es fs : List (ℕ × Archived)) (accounts : AccountsParts) (k : ℕ) → accounts_of es ≡ accounts
    → ((q : ℕ) → at q fs ≡ cond (is_at (nat_cmp k) q) None (at q es)) → accounts_of fs ≡ remove accounts k
removed es fs accounts k is h =
    same_map nat_cmp_total nat_cmp-IsAntisymmetric _ _ (λ q.
    there_is fs q ∙ ap (option_map parts) (h q) ∙ sym (none_mapped (is_at (nat_cmp k) q) (at q es))
    ∙ ap (λ b. cond b None (option_map parts (at q es))) ((eq_by_cmp_equiv nat_cmp_total).symm k q)
    ∙ sym (get-remove nat_cmp_total (accounts_of es) k q ∙ ap (cond (eq_by_cmp nat_cmp q k) None) (there_is es q)))
    ∙ ap (λ m. remove m k) is

-- ---- one put back

-- accounts where one was taken out, and put back as it is now
abbrev pub put_back : AccountsParts → ℕ → ArchivedParts → AccountsParts
put_back accounts account archived = insert (remove accounts account) account archived

put_there : (accounts : AccountsParts) (account : ℕ) (archived : ArchivedParts) (q : ℕ) → get (put_back accounts account archived) q ≡ cond (eq_by_cmp nat_cmp q account) (Some archived) (cond (eq_by_cmp nat_cmp q account) None (get accounts q))
put_there accounts account archived q = get-insert nat_cmp_total (remove accounts account) account archived q ∙ ap (cond (eq_by_cmp nat_cmp q account) (Some archived)) (get-remove nat_cmp_total accounts account q)

still_there : (accounts : AccountsParts) (account : ℕ) (archived : ArchivedParts) (q : ℕ) (b : Bool) → eq_by_cmp nat_cmp q account ≡ b → IsThere accounts account → is_some (cond b (Some archived) (cond b None (get accounts q))) ≡ is_some (get accounts q)
still_there accounts account archived q true same there = sym there ∙ ap (λ k. is_some (get accounts k)) (sym (one_number q account same))
still_there accounts account archived q false off there = refl

-- the same accounts are there
pub same_there : (accounts : AccountsParts) (account : ℕ) (archived : ArchivedParts) → IsThere accounts account → (q : ℕ) → contains_key (put_back accounts account archived) q ≡ contains_key accounts q
same_there accounts account archived there q = ap is_some (put_there accounts account archived q) ∙ still_there accounts account archived q (eq_by_cmp nat_cmp q account) refl there

agrees_at : (accounts : AccountsParts) (account : ℕ) (archived : ArchivedParts) (before now : LedgerParts) (q : ℕ) (there : ArchivedParts) (b : Bool) → eq_by_cmp nat_cmp q account ≡ b → Agrees accounts before → archived ≡ archived_of account now
    → ((other : ℕ) → (other ≡ account → ⊥) → archived_of other now ≡ archived_of other before) → cond b (Some archived) (cond b None (get accounts q)) ≡ Some there → there ≡ archived_of q now
agrees_at accounts account archived before now q there true same agrees is others e =
    let one : archived ≡ there = cc in
    sym one ∙ is ∙ ap (λ k. archived_of k now) (sym (one_number q account same))
agrees_at accounts account archived before now q there false off agrees is others e =
    agrees q there e ∙ sym (others q (λ same. let itself = (eq_by_cmp_equiv nat_cmp_total).refl account in let here = ap (λ k. eq_by_cmp nat_cmp k account) same in absurd (cc)))

-- they agree with a ledger in which nothing is new but of the one account
pub agrees_now : (accounts : AccountsParts) (account : ℕ) (archived : ArchivedParts) (before now : LedgerParts) → Agrees accounts before → archived ≡ archived_of account now
    → ((other : ℕ) → (other ≡ account → ⊥) → archived_of other now ≡ archived_of other before) → Agrees (put_back accounts account archived) now
agrees_now accounts account archived before now agrees is others q there e =
    agrees_at accounts account archived before now q there (eq_by_cmp nat_cmp q account) refl agrees is others (sym (put_there accounts account archived q) ∙ e)

-- what was taken out is there
pub was_there : (accounts : AccountsParts) (account : ℕ) (archived : ArchivedParts) → get accounts account ≡ Some archived → IsThere accounts account
was_there accounts account archived e = ap is_some e

pub not_both : (accounts : AccountsParts) (account : ℕ) → get accounts account ≡ None → IsThere accounts account → ⊥
not_both accounts account none there = let missing : contains_key accounts account ≡ false = ap is_some none in absurd (cc)

-- where one that was there is put back as it is now, the same ones are there
pub same_put : (old new : AccountsParts) (account : ℕ) (was now : ArchivedParts) → get old account ≡ Some was → new ≡ put_back old account now → AreThere old new
same_put old new account was now there is q = ap (λ m. contains_key m q) is ∙ same_there old account now (was_there old account was there) q
