-- What archiving sets does to an archive: no two of it have one number of one account, nothing of it is lost, and it has all of the sets.
use Rattle.std.proofs.Common.{◌≡◌, inl, inr, ℕ, zero, suc, ◌≤◌, Bool, true, false, cond, if◌then◌else◌, List, [], ◌∷◌, ◌++◌, length, filter, find, Option, Some, None, is_some, Result, Ok, Err, eqb-true, eq-eqb, refl, sym, ap, ◌∙◌, subst, arith}
use Rattle.std.specs.Prelude.{◌==◌, ◌-◌, ⊤}
use Rattle.std.specs.FinMap.{get, len, remove, get-empty, get-remove, len-remove, empty_of_len}
use Rattle.std.specs.List.{AllByRecursion}
use Rattle.std.specs.Ordering.{eq_by_cmp}
use Rattle.std.proofs.lemmas.Bool.{and_from}
use Rattle.std.proofs.lemmas.Option.{none-some}
use Rattle.pay_rules.specs.Numbers.{number_cmp, ByNumber}
use Rattle.pay_rules.specs.InTurn.{IsIn}
use Rattle.pay_rules.specs.declared.tap.Tap.{Tap}
use Rattle.pay_rules.specs.SameTap.{tap_from_same}
use Rattle.pay_rules.specs.Taps.{same_tap, number as tap_number}
use Rattle.pay_rules.specs.declared.fix.Fix.{Fix}
use Rattle.pay_rules.specs.SameFix.{same_is_one}
use Rattle.pay_rules.specs.Fixes.{same_fix, number as fix_number}
use Rattle.pay_rules.specs.declared.posting.Posting.{Posting}
use Rattle.pay_rules.specs.QuoteParts.{QuoteParts}
use Rattle.pay_rules.specs.SetsParts.{SetsParts}
use Rattle.pay_postings.specs.Archive.{is_numbered_as, is_fix_numbered_as, archived_beside, archived_tap, archived_fix, archived_each, archived_set, archived_sets}
use Rattle.pay_postings.specs.Faults.{◌>>=◌}
use Rattle.pay_postings.specs.Ledger.{LedgerParts, posted}
use Rattle.pay_postings.specs.Postings.{post_each}
use Rattle.pay_rules.specs.declared.post_fault.PostFault.{PostFault}
use Rattle.pay_rules.specs.declared.post_fault.PostFault.TheVariants as fault
use Rattle.pay_restore.specs.Words.{tap_account, fix_account, AreTogether}
use Rattle.pay_histories.proofs.Agreeing.{Archives}
use Rattle.pay_histories.proofs.Answering.{Comes, comes_then, comes_weaker, Any, Whatever, whatever_comes}
use Rattle.pay_histories.proofs.Entries.{all_of, all_weaker, all_with, one_of_all, IfFound, found_among}
use Rattle.pay_histories.proofs.Growing.{number_total, same_number}

-- ---- lists

in_front : {X : Type 0} (list more : List X) (x : X) → IsIn list x → IsIn (list ++ more) x
in_front [] more x is = absurd is
in_front (y ∷ list) more x is = elim is [ inl here ↦ inl here | inr later ↦ inr (in_front list more x later) ]

at_the_end : {X : Type 0} (list : List X) (x : X) → IsIn (list ++ x ∷ []) x
at_the_end [] x = inl refl
at_the_end (y ∷ list) x = inr (at_the_end list x)

-- ---- no two of one number

-- a set that has something is not empty
has_some : {X : Type 0} (set : ByNumber X) (n : ℕ × ℕ) (x : X) → get set n ≡ Some x → 1 ≤ len set
has_some set n x e = by (len set) refl
  where
    by : (many : ℕ) → len set ≡ many → 1 ≤ many
    by zero none = absurd (none-some x (sym (ap (λ s. get s n) (empty_of_len set none) ∙ get-empty number_cmp n) ∙ e))
    by (suc many) some = omega arith

module _ {X : Type 0} (account : X → ℕ) (number : X → ℕ × ℕ) where
  -- two have not one number of one account
  abbrev pub Differ : X → X → Type 0
  Differ x y = account x ≡ account y → number x ≡ number y → ⊥

  -- no two of a list have
  abbrev pub AreApart : List X → Type 0
  AreApart [] = ⊤
  AreApart (x ∷ list) = AllByRecursion (Differ x) list × AreApart list

  apart_with : (list : List X) (x : X) → AllByRecursion (Differ x) list → AreApart list → AreApart (list ++ x ∷ [])
  apart_with [] x differ apart = (tt, tt)
  apart_with (y ∷ list) x differ apart = (all_with (Differ y) list x apart.0 (λ own at. differ.0 (sym own) (sym at)), apart_with list x differ.1 apart.1)

  -- those of an account that a set has at their numbers
  abbrev AreAt : ℕ → ByNumber X → List X → Type 0
  AreAt a set = AllByRecursion (λ (x : X). account x ≡ a → get set (number x) ≡ Some x)

  not_removed : (b : Bool) (there : Option X) (y : X) → (b ≡ true → ⊥) → there ≡ Some y → cond b None there ≡ Some y
  not_removed true there y other e = absurd (other refl)
  not_removed false there y other e = e

  without : (a : ℕ) (set : ByNumber X) (x : X) (list : List X) → account x ≡ a → AllByRecursion (Differ x) list → AreAt a set list → AreAt a (remove set (number x)) list
  without a set x [] own differ at = tt
  without a set x (y ∷ list) own differ at = (
    λ his.
        get-remove number_total set (number x) (number y)
        ∙ not_removed (eq_by_cmp number_cmp (number y) (number x)) (get set (number y)) y (λ is. differ.0 (own ∙ sym his) (sym (same_number (number y) (number x) is))) (at.0 his),
    without a set x list own differ.1 at.1,
  )

  abbrev those_of : ℕ → List X → List X
  those_of a list = filter (λ (x : X). account x == a) list

  -- so there are no more of them than the set has
  few_of : (a : ℕ) (set : ByNumber X) (list : List X) → AreApart list → AreAt a set list → length (those_of a list) ≤ len set
  few_of a set [] apart at = omega arith
  few_of a set (x ∷ list) apart at =
      by (account x == a) refl (few_of a set list apart.1 at.1) (λ own. few_of a (remove set (number x)) list apart.1 (without a set x list own apart.0 at.1)) at.0
    where
      by : (b : Bool) → (account x == a) ≡ b → length (those_of a list) ≤ len set → (account x ≡ a → length (those_of a list) ≤ len (remove set (number x))) → (account x ≡ a → get set (number x) ≡ Some x)
          → length (cond b (x ∷ those_of a list) (those_of a list)) ≤ len set
      by true is as_before fewer here =
          let own : account x ≡ a = eqb-true (account x) a is in
          let there : get set (number x) ≡ Some x = here own in
          let less : len (remove set (number x)) ≡ len set - 1 = len-remove number_total set (number x) ∙ ap (λ (o : Option X). cond (is_some o) (len set - 1) (len set)) there in
          omega (arith, less, fewer own, has_some set (number x) x there)
      by false is as_before fewer here = as_before

  -- what the sets of their accounts have at their numbers is an archive of accounts that have few
  pub are_together : (most : ℕ) (sets : ℕ → ByNumber X) (list : List X) → AllByRecursion (λ (x : X). get (sets (account x)) (number x) ≡ Some x) list → AreApart list → ((a : ℕ) → len (sets a) ≤ most) → AreTogether account number most list
  are_together most sets list at apart few = record {
    own_numbers = λ x other is there own same.
        let here : get (sets (account x)) (number x) ≡ Some x = one_of_all (λ (y : X). get (sets (account y)) (number y) ≡ Some y) list x at is in
        let beside : get (sets (account other)) (number other) ≡ Some other = one_of_all (λ (y : X). get (sets (account y)) (number y) ≡ Some y) list other at there in
        let one : Some x ≡ Some other = sym here ∙ (λ i. get (sets (own i)) (same i)) ∙ beside in
        cc;
    few = λ a.
        let within = few_of a (sets a) list apart (all_weaker (λ (x : X). get (sets (account x)) (number x) ≡ Some x) (λ (x : X). account x ≡ a → get (sets a) (number x) ≡ Some x) list (λ x is own. ap (λ k. get (sets k) (number x)) (sym own) ∙ is) at) in
        omega (arith, within, few a);
  }

  module _ (same : X → X → Bool) (is_as : X → X → Bool) (as_one : (x y : X) → account x ≡ account y → number x ≡ number y → is_as x y ≡ true) where
    all_differ : (x : X) (list : List X) → find (is_as x) list ≡ None → AllByRecursion (Differ x) list
    all_differ x [] e = tt
    all_differ x (y ∷ list) e = by (is_as x y) refl (all_differ x list) e
      where
        by : (b : Bool) → is_as x y ≡ b → (find (is_as x) list ≡ None → AllByRecursion (Differ x) list) → cond b (Some y) (find (is_as x) list) ≡ None → Differ x y × AllByRecursion (Differ x) list
        by true is later f = absurd (none-some y (sym f))
        by false is later f = (λ own at. let one = as_one x y own at in absurd (cc), later f)

    -- one that is archived is the only one of its number
    apart_beside : (list : List X) (x : X) → AreApart list → Comes AreApart Any (archived_beside same list x (find (is_as x) list))
    apart_beside list x apart = by (find (is_as x) list) refl
      where
        as_there : (b : Bool) → Comes AreApart Any (if b then Ok list else Err fault.ArchiveConflict)
        as_there true = apart
        as_there false = tt

        by : (there : Option X) → find (is_as x) list ≡ there → Comes AreApart Any (archived_beside same list x there)
        by None none = apart_with list x (all_differ x list none) apart
        by (Some y) found = as_there (same y x)

-- ---- nothing is lost

-- what is of a list is of another too
abbrev pub AreAmong : {X : Type 0} → List X → List X → Type 0
AreAmong {X} list other = (x : X) → IsIn list x → IsIn other x

-- it has what was there, and what came
abbrev Gained : {X : Type 0} → List X → List X → List X → Type 0
Gained list more now = AreAmong list now × AreAmong more now

module _ {X : Type 0} (same : X → X → Bool) (from_same : (x y : X) → same x y ≡ true → x ≡ y) (is_as : X → X → Bool) where
  -- one that is archived is there
  in_beside : (list : List X) (x : X) → Comes (λ now. AreAmong list now × IsIn now x) Any (archived_beside same list x (find (is_as x) list))
  in_beside list x = by (find (is_as x) list) (found_among (IsIn list) (is_as x) list (all_of (IsIn list) list (λ y is. is)))
    where
      as_there : (y : X) (b : Bool) → same y x ≡ b → IsIn list y → Comes (λ now. AreAmong list now × IsIn now x) Any (if b then Ok list else Err fault.ArchiveConflict)
      as_there y true is there = (λ z at. at, subst (IsIn list) (from_same y x is) there)
      as_there y false is there = tt

      by : (there : Option X) → IfFound (λ y. IsIn list y × (is_as x y ≡ true)) there → Comes (λ now. AreAmong list now × IsIn now x) Any (archived_beside same list x there)
      by None none = (in_front list (x ∷ []), at_the_end list x)
      by (Some y) found = as_there y (same y x) refl found.0

module _ {X : Type 0} (with_one : List X → X → Result (List X) PostFault) where
  -- what one more keeps, several keep
  each_keeps : (P : List X → Type 0) → ((list : List X) (x : X) → P list → Comes P Any (with_one list x)) → (list more : List X) → P list → Comes P Any (archived_each with_one list more)
  each_keeps P one list [] is = is
  each_keeps P one list (x ∷ more) is = comes_then P P Any (with_one list x) (λ now. archived_each with_one now more) (one list x is) (λ now still. each_keeps P one now more still)

  each_gained : ((list : List X) (x : X) → Comes (λ now. AreAmong list now × IsIn now x) Any (with_one list x)) → (list more : List X) → Comes (Gained list more) Any (archived_each with_one list more)
  each_gained one list [] = (λ x is. is, λ x none. absurd none)
  each_gained one list (x ∷ more) =
      comes_then (λ now. AreAmong list now × IsIn now x) (Gained list (x ∷ more)) Any (with_one list x) (λ now. archived_each with_one now more) (one list x)
      (λ now here.
      comes_weaker (Gained now more) (Gained list (x ∷ more)) Any (archived_each with_one now more)
      (λ last is. (λ y there. is.0 y (here.0 y there), λ y there. elim there [ inl this ↦ is.0 y (subst (IsIn now) this here.1) | inr later ↦ is.1 y later ]))
      (each_gained one now more))

-- ---- an archive

-- what comes of its taps and of its corrections comes of a set
of_set : (P : List Tap → Type 0) (Q : List Fix → Type 0) (archive : Archives) (set : SetsParts) → Comes P Any (archived_each archived_tap archive.0 set.taps) → Comes Q Any (archived_each archived_fix archive.1 set.fixes)
    → Comes (λ (now : Archives). P now.0 × Q now.1) Any (archived_set archive set)
of_set P Q archive set taps fixes =
    comes_then P (λ (now : Archives). P now.0 × Q now.1) Any (archived_each archived_tap archive.0 set.taps) (λ all_taps. archived_each archived_fix archive.1 set.fixes >>= (λ all_fixes. Ok (all_taps, all_fixes))) taps
    (λ all_taps of_taps. comes_then Q (λ (now : Archives). P now.0 × Q now.1) Any (archived_each archived_fix archive.1 set.fixes) (λ all_fixes. Ok (all_taps, all_fixes)) fixes (λ all_fixes of_fixes. (of_taps, of_fixes)))

-- and what comes of archiving sets comes of the ledger, whatever is posted
pub of_archive : (P : Archives → Type 0) (ledger : LedgerParts) (quotes : List QuoteParts) (sets : List SetsParts) → Comes P Any (archived_sets (ledger.taps, ledger.fixes) sets)
    → Comes {A = List Posting × LedgerParts} (λ answer. P (answer.1.taps, answer.1.fixes)) Any (posted ledger quotes sets)
of_archive P ledger quotes sets archived =
    comes_then Whatever (λ answer. P (answer.1.taps, answer.1.fixes)) Any (post_each ledger.postings quotes)
    (λ given. archived_sets (ledger.taps, ledger.fixes) sets >>= (λ archive. Ok (given.0, record { postings = given.1; taps = archive.0; fixes = archive.1 })))
    (whatever_comes (post_each ledger.postings quotes))
    (λ given any.
    comes_then P (λ answer. P (answer.1.taps, answer.1.fixes)) Any (archived_sets (ledger.taps, ledger.fixes) sets) (λ archive. Ok (given.0, record { postings = given.1; taps = archive.0; fixes = archive.1 })) archived
    (λ archive is. is))

taps_as_one : (x y : Tap) → tap_account x ≡ tap_account y → tap_number x ≡ tap_number y → is_numbered_as x y ≡ true
taps_as_one x y own at =
    and_from _ _ (and_from _ _ (eq-eqb y.account x.account (sym own)) (eq-eqb y.reader x.reader (ap (λ (n : ℕ × ℕ). n.0) (sym at)))) (eq-eqb y.seq x.seq (ap (λ (n : ℕ × ℕ). n.1) (sym at)))

fixes_as_one : (x y : Fix) → fix_account x ≡ fix_account y → fix_number x ≡ fix_number y → is_fix_numbered_as x y ≡ true
fixes_as_one x y own at =
    and_from _ _ (and_from _ _ (eq-eqb y.account x.account (sym own)) (eq-eqb y.staff x.staff (ap (λ (n : ℕ × ℕ). n.0) (sym at)))) (eq-eqb y.seq x.seq (ap (λ (n : ℕ × ℕ). n.1) (sym at)))

-- no two of it have one number of one account
abbrev pub IsApart : Archives → Type 0
IsApart archive = AreApart tap_account tap_number archive.0 × AreApart fix_account fix_number archive.1

set_apart : (archive : Archives) (set : SetsParts) → IsApart archive → Comes IsApart Any (archived_set archive set)
set_apart archive set apart =
    of_set (AreApart tap_account tap_number) (AreApart fix_account fix_number) archive set
    (each_keeps archived_tap (AreApart tap_account tap_number) (apart_beside tap_account tap_number same_tap is_numbered_as taps_as_one) archive.0 set.taps apart.0)
    (each_keeps archived_fix (AreApart fix_account fix_number) (apart_beside fix_account fix_number same_fix is_fix_numbered_as fixes_as_one) archive.1 set.fixes apart.1)

pub sets_apart : (archive : Archives) (sets : List SetsParts) → IsApart archive → Comes IsApart Any (archived_sets archive sets)
sets_apart archive [] apart = apart
sets_apart archive (set ∷ sets) apart = comes_then IsApart IsApart Any (archived_set archive set) (λ now. archived_sets now sets) (set_apart archive set apart) (λ now still. sets_apart now sets still)

-- it has all of a set
abbrev pub HasSet : SetsParts → Archives → Type 0
HasSet set archive = AreAmong set.taps archive.0 × AreAmong set.fixes archive.1

-- it has all that another had, and all of each of some sets
abbrev pub HasSets : Archives → List SetsParts → Archives → Type 0
HasSets before sets now = (AreAmong before.0 now.0 × AreAmong before.1 now.1) × ((set : SetsParts) → IsIn sets set → HasSet set now)

set_gained : (archive : Archives) (set : SetsParts) → Comes (λ (now : Archives). Gained archive.0 set.taps now.0 × Gained archive.1 set.fixes now.1) Any (archived_set archive set)
set_gained archive set =
    of_set (Gained archive.0 set.taps) (Gained archive.1 set.fixes) archive set
    (each_gained archived_tap (in_beside same_tap tap_from_same is_numbered_as) archive.0 set.taps)
    (each_gained archived_fix (in_beside same_fix same_is_one is_fix_numbered_as) archive.1 set.fixes)

pub sets_there : (archive : Archives) (sets : List SetsParts) → Comes (HasSets archive sets) Any (archived_sets archive sets)
sets_there archive [] = ((λ x is. is, λ x is. is), λ set none. absurd none)
sets_there archive (set ∷ sets) =
    comes_then (λ (now : Archives). Gained archive.0 set.taps now.0 × Gained archive.1 set.fixes now.1) (HasSets archive (set ∷ sets)) Any (archived_set archive set) (λ now. archived_sets now sets) (set_gained archive set)
    (λ now here.
    comes_weaker (HasSets now sets) (HasSets archive (set ∷ sets)) Any (archived_sets now sets)
    (λ last is. (
      (λ x there. is.0.0 x (here.0.0 x there), λ x there. is.0.1 x (here.1.0 x there)),
      λ one there. elim there [
        | inl this ↦ subst (λ s. HasSet s last) this (λ x of. is.0.0 x (here.0.1 x of), λ x of. is.0.1 x (here.1.1 x of))
        | inr later ↦ is.1 one later
      ],
    ))
    (sets_there now sets))
