-- In which ledgers accounts stand, with one account more.
use Rattle.std.proofs.Common.{◌≡◌, ◌∙◌, ◌≤◌, ◌<◌, ℕ, zero, suc, Bool, true, false, cond, List, [], ◌∷◌, ◌++◌, length, get_or, Option, Some, None, inl, inr, ⊎_elim, ltb-true, ltb-false, eqb-true, eq-eqb, refl, sym, ap, arith}
use Rattle.std.specs.Prelude.{◌⊎◌, ◌==◌, ◌||◌, nat_lt}
use Rattle.std.proofs.lemmas.Bool.{cases_eq}
use Rattle.std.specs.BTreeMap as tree
use Rattle.std.specs.BTreeMap.{is_at}
use Rattle.std.specs.Cmp.{unsigned_tied}
use Rattle.std.specs.Ordering.{nat_cmp}
use Rattle.std.proofs.lemmas.List.Folds.{list_any-append}
use Rattle.pay_settle.specs.declared.fault.SettleFault.{SettleFault}
use Rattle.pay_settle.specs.declared.fault.SettleFault.TheVariants.{Shared, Shares, TooLarge, Memory}
use Rattle.pay_settle.specs.declared.homes.Homes.{Homes}
use Rattle.pay_settle.specs.Standing.{has, stands_in, AreHomesOf}
use Rattle.pay_settle.specs.Refused.{IsElsewhere, IsWhyShared}
use Rattle.pay_settle.proofs.Adding.{or_true, or_false}

-- ---- one ledger more

at_last : (ledgers : List (List ℕ)) (xs : List ℕ) (p : ℕ) → p ≡ length ledgers → get_or (ledgers ++ xs ∷ []) p [] ≡ xs
at_last [] xs zero e = refl
at_last [] xs (suc p) e = absurd (omega (arith, e))
at_last (one ∷ ledgers) xs zero e = absurd (omega (arith, e))
at_last (one ∷ ledgers) xs (suc p) e = at_last ledgers xs p (omega (arith, e))

before_last : (ledgers : List (List ℕ)) (xs : List ℕ) (p : ℕ) → (p ≡ length ledgers → ⊥) → get_or (ledgers ++ xs ∷ []) p [] ≡ get_or ledgers p []
before_last [] xs zero apart = absurd (apart refl)
before_last [] xs (suc p) apart = refl
before_last (one ∷ ledgers) xs zero apart = refl
before_last (one ∷ ledgers) xs (suc p) apart = before_last ledgers xs p (λ e. apart (omega (arith, e)))

past : (ledgers : List (List ℕ)) (p : ℕ) → length ledgers ≤ p → get_or ledgers p [] ≡ []
past [] p h = refl
past (one ∷ ledgers) zero h = absurd (omega (arith, h))
past (one ∷ ledgers) (suc p) h = past ledgers p (omega (arith, h))

within : (ledgers : List (List ℕ)) (p account : ℕ) → stands_in ledgers p account ≡ true → p < length ledgers
within ledgers p account stands = by (nat_lt p (length ledgers)) refl
  where
    by : (b : Bool) → nat_lt p (length ledgers) ≡ b → p < length ledgers
    by true is = ltb-true p (length ledgers) is
    by false is =
        let none : stands_in ledgers p account ≡ false = ap (has account) (past ledgers p (ltb-false p (length ledgers) is)) in
        absurd cc

never : (b : Bool) → (b ≡ true → ⊥) → b ≡ false
never true h = absurd (h refl)
never false h = refl

same_some : (p q : ℕ) → ◌≡◌ {A = Option ℕ} (Some p) (Some q) → p ≡ q
same_some p q e = cc

has_at : (accounts : List ℕ) (k account : ℕ) → k < length accounts → get_or accounts k 0 ≡ account → has account accounts ≡ true
has_at [] k account below is = absurd (omega (arith, below))
has_at (one ∷ accounts) zero account below is = ap (λ (b : Bool). b || has account accounts) (eq-eqb one account is)
has_at (one ∷ accounts) (suc k) account below is = ap (λ (b : Bool). (one == account) || b) (has_at accounts k account (omega (arith, below)) is) ∙ or_true (one == account)

-- nothing of one more ledger yet
pub none_yet : (ledgers : List (List ℕ)) (homes : Homes) → AreHomesOf ledgers homes → AreHomesOf (ledgers ++ [] ∷ []) homes
none_yet ledgers homes are = record {
  there = λ account place stands. are.there account place (sym (same account place) ∙ stands);
  only = λ account place is. same account place ∙ are.only account place is;
}
  where
    same : (account place : ℕ) → stands_in (ledgers ++ [] ∷ []) place account ≡ stands_in ledgers place account
    same account place =
        ⊎_elim
        (λ (e : place ≡ length ledgers). ap (has account) (at_last ledgers [] place e ∙ sym (past ledgers place (omega (arith, e)))))
        (λ (apart : place ≡ length ledgers → ⊥). ap (has account) (before_last ledgers [] place apart))
        (cases_eq place (length ledgers))

-- ---- one account more of the last ledger

module _ (ledgers : List (List ℕ)) (xs : List ℕ) (account place : ℕ) (old new : Homes) (last : place ≡ length ledgers) (are : AreHomesOf (ledgers ++ xs ∷ []) old)
    (alone : (tree.get nat_cmp old.places account ≡ None) ⊎ (tree.get nat_cmp old.places account ≡ Some place))
    (put : (q : ℕ) → tree.get nat_cmp new.places q ≡ cond (is_at (nat_cmp account) q) (Some place) (tree.get nat_cmp old.places q))
  where
    abbrev more : List ℕ
    more = xs ++ account ∷ []

    has_more : (a : ℕ) → has a more ≡ (has a xs || ((account == a) || false))
    has_more a = list_any-append (λ (b : ℕ). b == a) xs (account ∷ [])

    own : (a : ℕ) → account ≡ a → tree.get nat_cmp new.places a ≡ Some place
    own a e = put a ∙ ap (λ (b : Bool). cond b (Some place) (tree.get nat_cmp old.places a)) (unsigned_tied account a ∙ eq-eqb account a e)

    apart_from : (a : ℕ) → (account ≡ a → ⊥) → (account == a) ≡ false
    apart_from a ne = never (account == a) (λ e. ne (eqb-true account a e))

    others : (a : ℕ) → (account ≡ a → ⊥) → tree.get nat_cmp new.places a ≡ tree.get nat_cmp old.places a
    others a ne = put a ∙ ap (λ (b : Bool). cond b (Some place) (tree.get nat_cmp old.places a)) (unsigned_tied account a ∙ apart_from a ne)

    -- the ledgers before the last are as they were
    before_it : (a p : ℕ) → (p ≡ length ledgers → ⊥) → stands_in (ledgers ++ more ∷ []) p a ≡ stands_in (ledgers ++ xs ∷ []) p a
    before_it a p ne = ap (has a) (before_last ledgers more p ne ∙ sym (before_last ledgers xs p ne))

    -- and the last has nothing else that is new
    others_of_it : (a p : ℕ) → (account ≡ a → ⊥) → p ≡ length ledgers → stands_in (ledgers ++ more ∷ []) p a ≡ stands_in (ledgers ++ xs ∷ []) p a
    others_of_it a p ne e =
        ap (has a) (at_last ledgers more p e) ∙ has_more a ∙ ap (λ (b : Bool). has a xs || (b || false)) (apart_from a ne) ∙ or_false (has a xs) ∙ sym (ap (has a) (at_last ledgers xs p e))

    others_stand : (a p : ℕ) → (account ≡ a → ⊥) → stands_in (ledgers ++ more ∷ []) p a ≡ stands_in (ledgers ++ xs ∷ []) p a
    others_stand a p ne = ⊎_elim (λ (e : p ≡ length ledgers). others_of_it a p ne e) (λ (apart : p ≡ length ledgers → ⊥). before_it a p apart) (cases_eq p (length ledgers))

    own_place : (p : ℕ) → tree.get nat_cmp old.places account ≡ Some p → place ≡ p
    own_place p is = by alone
      where
        by : (tree.get nat_cmp old.places account ≡ None) ⊎ (tree.get nat_cmp old.places account ≡ Some place) → place ≡ p
        by (inl none) = absurd cc
        by (inr its) = same_some place p (sym its ∙ is)

    there_now : (a p : ℕ) → stands_in (ledgers ++ more ∷ []) p a ≡ true → tree.get nat_cmp new.places a ≡ Some p
    there_now a p stands = ⊎_elim (λ (e : account ≡ a). at_own e) (λ (ne : account ≡ a → ⊥). others a ne ∙ are.there a p (sym (others_stand a p ne) ∙ stands)) (cases_eq account a)
      where
        at_own : account ≡ a → tree.get nat_cmp new.places a ≡ Some p
        at_own e =
            own a e
            ∙ ap Some
            (⊎_elim (λ (is : p ≡ length ledgers). last ∙ sym is)
            (λ (ne : p ≡ length ledgers → ⊥). own_place p (ap (λ (b : ℕ). tree.get nat_cmp old.places b) e ∙ are.there a p (sym (before_it a p ne) ∙ stands)))
            (cases_eq p (length ledgers)))

    only_now : (a p : ℕ) → tree.get nat_cmp new.places a ≡ Some p → stands_in (ledgers ++ more ∷ []) p a ≡ true
    only_now a p is = ⊎_elim (λ (e : account ≡ a). at_own e) (λ (ne : account ≡ a → ⊥). others_stand a p ne ∙ are.only a p (sym (others a ne) ∙ is)) (cases_eq account a)
      where
        at_own : account ≡ a → stands_in (ledgers ++ more ∷ []) p a ≡ true
        at_own e =
            let its : p ≡ length ledgers = sym (same_some place p (sym (own a e) ∙ is)) ∙ last in
            ap (has a) (at_last ledgers more p its) ∙ has_more a ∙ ap (λ (b : Bool). has a xs || (b || false)) (eq-eqb account a e) ∙ or_true (has a xs)

    pub one_more : AreHomesOf (ledgers ++ more ∷ []) new
    one_more = record { there = there_now; only = only_now }

-- ---- an account that stands elsewhere

pub stands_twice : (ledgers : List (List ℕ)) (so_far accounts : List ℕ) (k account place : ℕ) (homes : Homes) (fault : SettleFault) → place ≡ length ledgers → AreHomesOf (ledgers ++ so_far ∷ []) homes
    → k < length accounts → get_or accounts k 0 ≡ account → IsElsewhere fault account place (tree.get nat_cmp homes.places account) → IsWhyShared (ledgers ++ accounts ∷ []) fault
stands_twice ledgers so_far accounts k account place homes (Shared named first second) last are below is elsewhere =
    let ne : first ≡ length ledgers → ⊥ = λ e. elsewhere.3 (e ∙ sym last) in
    let there : stands_in ledgers first account ≡ true = ap (has account) (sym (before_last ledgers so_far first ne)) ∙ are.only account first elsewhere.2 in
    let in_first : stands_in (ledgers ++ accounts ∷ []) first account ≡ true = ap (has account) (before_last ledgers accounts first ne) ∙ there in
    let in_last : stands_in (ledgers ++ accounts ∷ []) second account ≡ true = ap (has account) (at_last ledgers accounts second (elsewhere.1 ∙ last)) ∙ has_at accounts k account below is in
    record {
      in_order = omega (arith, within ledgers first account there, elsewhere.1, last);
      in_first = ap (λ (a : ℕ). stands_in (ledgers ++ accounts ∷ []) first a) elsewhere.0 ∙ in_first;
      in_second = ap (λ (a : ℕ). stands_in (ledgers ++ accounts ∷ []) second a) elsewhere.0 ∙ in_last;
    }
stands_twice ledgers so_far accounts k account place homes (Shares named week) last are below is elsewhere = absurd elsewhere
stands_twice ledgers so_far accounts k account place homes TooLarge last are below is elsewhere = absurd elsewhere
stands_twice ledgers so_far accounts k account place homes Memory last are below is elsewhere = tt
