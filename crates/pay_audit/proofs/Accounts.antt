-- Accounts beside what a ledger has of them.
use Rattle.std.proofs.Common.{◌≡◌, ◌∙◌, ℕ, ◌+◌, ◌==◌, true, if◌then◌else◌, nat_lt, ◌<◌, List, [], ◌++◌, map, filter, length, Option, Some, None, IfNone, IfSome, eq-eqb, sym, ap, ap₂, subst, arith}
use Rattle.std.specs.FinMap.{entries, values, len-entries}
use Rattle.std.specs.List.{AllByRecursion}
use Rattle.std.proofs.lemmas.List.{length-map}
use Rattle.std.proofs.lemmas.List.Elements.{All-contains, All-from_recursion}
use Rattle.sqlite_keyed.proofs.ListLemmas.{all_weaker, all-append, all-slice_get}
use Rattle.pay_tables.specs.Words.{FareEditions}
use Rattle.pay_rules.specs.declared.tap.Tap.{Tap}
use Rattle.pay_rules.specs.declared.fix.Fix.{Fix}
use Rattle.pay_rules.specs.declared.posting.Posting.{Posting}
use Rattle.pay_rules.specs.Accepted.{Accepted, version}
use Rattle.pay_rules.specs.QuoteParts.{QuoteParts}
use Rattle.pay_rules.specs.SetsParts.{SetsParts, sets}
use Rattle.pay_rules.specs.State.{State, accepted_of}
use Rattle.pay_set_rows.specs.SetRows.{tap_row, fix_row}
use Rattle.pay_postings.specs.Words.{LedgerParts, ArchivedParts, archived_of, taps_of, fixes_of, of_account, is_kept, is_quoted_so, is_posted_so, IsRowOf, AccountAgrees, AgreesWith}
use Rattle.pay_ledger.specs.Words.{accounts_in, PassesIn, AllPass, IsFoundIn}
use Rattle.pay_audit.specs.declared.difference.Difference.{Difference}
use Rattle.pay_audit.specs.declared.difference.Difference.TheVariants.{Tap as OfTap, Fix as OfFix, Posting as OfPosting}
use Rattle.pay_audit.specs.Differs.{IsFirstNot, IsOtherItem, ArePostedSo, IsPostedSo, IsPostedOtherwise, Differs, DiffersIn, AgreeBefore, AgreesAbove, AgreeAfter, AgreeBetween}
use Rattle.pay_audit.proofs.Lists.{all_of_map, all_parts, each_own, own_filtered, all_to_map}

-- what was posted for the version that an account has is kept for its quote, or not
pub quoted_so : (version : ℕ) (quote posted : QuoteParts) → posted.version ≡ version → is_kept quote posted ≡ is_quoted_so version quote posted
quoted_so version quote posted same = sym (ap (λ b. if b then is_kept quote posted else nat_lt posted.version version) (eq-eqb posted.version version same))

-- as many items as the lists have are the version
pub counted : (account : ℕ) (accepted : Accepted) (its : SetsParts) (taps : List Tap) (fixes : List Fix) → its ≡ sets account accepted → taps ≡ its.taps → fixes ≡ its.fixes → length taps + length fixes ≡ version accepted
counted account accepted its taps fixes is of_taps of_fixes =
    ap₂ ◌+◌
    (ap length (of_taps ∙ ap (λ (s : SetsParts). s.taps) is) ∙ length-map (entries accepted.taps) (λ (e : (ℕ × ℕ) × Tap). e.1) ∙ sym (len-entries accepted.taps))
    (ap length (of_fixes ∙ ap (λ (s : SetsParts). s.fixes) is) ∙ length-map (entries accepted.fixes) (λ (e : (ℕ × ℕ) × Fix). e.1) ∙ sym (len-entries accepted.fixes))

module _ (editions : FareEditions) (account : ℕ) (accepted : Accepted) where
  -- an account agrees where nothing differs
  pub agrees : {X Y : Type 0} (item : Option X) (posting : Option Y) (its : SetsParts) (archived : ArchivedParts) (postings : List Posting) → its ≡ sets account accepted → postings ≡ archived.postings → item ≡ None
      → IfNone item (AllByRecursion (IsRowOf tap_row its.taps) archived.taps) → IfNone item (AllByRecursion (IsRowOf fix_row its.fixes) archived.fixes) → IfNone posting (ArePostedSo editions account accepted postings)
      → IfNone posting (AccountAgrees editions account accepted archived)
  agrees item (Some y) its archived postings is are none taps fixes posted = tt
  agrees {X} item None its archived postings is are none taps fixes posted = record {
    postings = subst (ArePostedSo editions account accepted) are posted;
    taps = subst (λ (s : SetsParts). AllByRecursion (IsRowOf tap_row s.taps) archived.taps) is (subst (λ (o : Option X). IfNone o (AllByRecursion (IsRowOf tap_row its.taps) archived.taps)) none taps);
    fixes = subst (λ (s : SetsParts). AllByRecursion (IsRowOf fix_row s.fixes) archived.fixes) is (subst (λ (o : Option X). IfNone o (AllByRecursion (IsRowOf fix_row its.fixes) archived.fixes)) none fixes);
  }

  -- what is none of its sets differs, and what differs of its postings alone
  pub item_differs : (its : SetsParts) (archived : ArchivedParts) (item : Difference) → its ≡ sets account accepted → IsOtherItem its archived item → Differs editions account accepted archived item
  item_differs its archived (OfTap tap) is other = subst (λ (s : SetsParts). IsOtherItem s archived (OfTap tap)) is other
  item_differs its archived (OfFix fix) is other = subst (λ (s : SetsParts). IsOtherItem s archived (OfFix fix)) is other
  item_differs its archived (OfPosting week through) is other = absurd other

  one_differs : (archived : ArchivedParts) (postings : List Posting) (it : Difference) → postings ≡ archived.postings
      → AllByRecursion (IsRowOf tap_row (values accepted.taps)) archived.taps → AllByRecursion (IsRowOf fix_row (values accepted.fixes)) archived.fixes
      → Differs editions account accepted (record { postings = postings; taps = []; fixes = [] }) it → Differs editions account accepted archived it
  one_differs archived postings (OfTap tap) are taps fixes other = absurd (let none = other.1.1 in cc)
  one_differs archived postings (OfFix fix) are taps fixes other = absurd (let none = other.1.1.1 in cc)
  one_differs archived postings (OfPosting week through) are taps fixes other = (taps, fixes, subst (λ (l : List Posting). IsPostedOtherwise editions account accepted l week through) are other.2)

  pub postings_differ : {X : Type 0} (item : Option X) (found : Option Difference) (its : SetsParts) (archived : ArchivedParts) (postings : List Posting) → its ≡ sets account accepted → postings ≡ archived.postings → item ≡ None
      → IfNone item (AllByRecursion (IsRowOf tap_row its.taps) archived.taps) → IfNone item (AllByRecursion (IsRowOf fix_row its.fixes) archived.fixes)
      → IfSome found (Differs editions account accepted (record { postings = postings; taps = []; fixes = [] })) → IfSome found (Differs editions account accepted archived)
  postings_differ item None its archived postings is are none taps fixes differs = tt
  postings_differ {X} item (Some it) its archived postings is are none taps fixes differs =
      one_differs archived postings it are
      (subst (λ (s : SetsParts). AllByRecursion (IsRowOf tap_row s.taps) archived.taps) is (subst (λ (o : Option X). IfNone o (AllByRecursion (IsRowOf tap_row its.taps) archived.taps)) none taps))
      (subst (λ (s : SetsParts). AllByRecursion (IsRowOf fix_row s.fixes) archived.fixes) is (subst (λ (o : Option X). IfNone o (AllByRecursion (IsRowOf fix_row its.fixes) archived.fixes)) none fixes))
      differs

  -- what differs does not agree
  not_all : {X : Type 0} (P : X → Type 0) (xs : List X) (x : X) → IsFirstNot P xs x → AllByRecursion P xs → ⊥
  not_all P xs x first all = first.3 (all-slice_get P xs first.0 x first.1 all)

  pub differs_not : (archived : ArchivedParts) → AccountAgrees editions account accepted archived → (it : Difference) → Differs editions account accepted archived it → ⊥
  differs_not archived agree (OfTap tap) other = not_all (IsRowOf tap_row (values accepted.taps)) archived.taps other.0 other.1 agree.taps
  differs_not archived agree (OfFix fix) other = not_all (IsRowOf fix_row (values accepted.fixes)) archived.fixes other.1.0 other.1.1 agree.fixes
  differs_not archived agree (OfPosting week through) other =
      not_all (λ p. is_posted_so editions account accepted p ≡ true) archived.postings other.2.0 other.2.1
      (all_weaker (IsPostedSo editions account accepted) (λ p. is_posted_so editions account accepted p ≡ true) (λ p so. so.0) archived.postings agree.postings)

-- the accounts of a ledger, by its lists and as one
module _ (Passes : ℕ → ArchivedParts → Type 0) (ledger : LedgerParts) where
  pub all_in : AllPass Passes ledger → AllByRecursion (PassesIn Passes ledger) (accounts_in ledger)
  all_in pass =
      all-append (PassesIn Passes ledger) (map (λ (p : Posting). p.quote.account) ledger.postings ++ map (λ (t : Tap). t.account) ledger.taps) (map (λ (f : Fix). f.account) ledger.fixes)
      (all-append (PassesIn Passes ledger) (map (λ (p : Posting). p.quote.account) ledger.postings) (map (λ (t : Tap). t.account) ledger.taps)
      (all_to_map (λ (p : Posting). p.quote.account) (PassesIn Passes ledger) ledger.postings pass.posted) (all_to_map (λ (t : Tap). t.account) (PassesIn Passes ledger) ledger.taps pass.tapped))
      (all_to_map (λ (f : Fix). f.account) (PassesIn Passes ledger) ledger.fixes pass.fixed)

  pub all_passed : AllByRecursion (PassesIn Passes ledger) (accounts_in ledger) → AllPass Passes ledger
  all_passed all =
      let parts = all_parts (PassesIn Passes ledger) (map (λ (p : Posting). p.quote.account) ledger.postings ++ map (λ (t : Tap). t.account) ledger.taps) (map (λ (f : Fix). f.account) ledger.fixes) all in
      let first = all_parts (PassesIn Passes ledger) (map (λ (p : Posting). p.quote.account) ledger.postings) (map (λ (t : Tap). t.account) ledger.taps) parts.0 in
      record {
        posted = all_of_map (PassesIn Passes ledger) (λ (p : Posting). p.quote.account) ledger.postings first.0;
        tapped = all_of_map (PassesIn Passes ledger) (λ (t : Tap). t.account) ledger.taps first.1;
        fixed = all_of_map (PassesIn Passes ledger) (λ (f : Fix). f.account) ledger.fixes parts.1;
      }

-- a ledger agrees where each of its accounts does
module _ (editions : FareEditions) (state : State) (ledger : LedgerParts) where
  abbrev pub Agrees : ℕ → ArchivedParts → Type 0
  Agrees account archived = AccountAgrees editions account (accepted_of state account) archived

  pub all_agree : AllPass Agrees ledger → AgreesWith editions state ledger
  all_agree pass = record {
    postings = each_own (λ (p : Posting). p.quote.account) (λ account. IsPostedSo editions account (accepted_of state account)) ledger.postings
        (all_weaker (λ (p : Posting). PassesIn Agrees ledger p.quote.account) (λ (p : Posting). AllByRecursion (IsPostedSo editions p.quote.account (accepted_of state p.quote.account)) (of_account p.quote.account ledger.postings)) (λ p h. h.1.postings) ledger.postings pass.posted);
    taps = each_own (λ (t : Tap). t.account) (λ account t. IsRowOf tap_row (values (accepted_of state account).taps) (tap_row t)) ledger.taps
        (all_weaker (λ (t : Tap). PassesIn Agrees ledger t.account) (λ (t : Tap). AllByRecursion (λ (other : Tap). IsRowOf tap_row (values (accepted_of state t.account).taps) (tap_row other)) (filter (λ (other : Tap). other.account == t.account) ledger.taps))
        (λ t h. all_of_map (IsRowOf tap_row (values (accepted_of state t.account).taps)) tap_row _ h.1.taps) ledger.taps pass.tapped);
    fixes = each_own (λ (f : Fix). f.account) (λ account f. IsRowOf fix_row (values (accepted_of state account).fixes) (fix_row f)) ledger.fixes
        (all_weaker (λ (f : Fix). PassesIn Agrees ledger f.account) (λ (f : Fix). AllByRecursion (λ (other : Fix). IsRowOf fix_row (values (accepted_of state f.account).fixes) (fix_row other)) (filter (λ (other : Fix). other.account == f.account) ledger.fixes))
        (λ f h. all_of_map (IsRowOf fix_row (values (accepted_of state f.account).fixes)) fix_row _ h.1.fixes) ledger.fixes pass.fixed);
  }

  pub none_differs : {X : Type 0} (found : Option X) → IfNone found (AgreeAfter editions state ledger 0) → IfNone found (AgreesWith editions state ledger)
  none_differs None agree = all_agree (all_passed Agrees ledger (all_weaker (PassesIn (AgreesAbove 0 editions state) ledger) (PassesIn Agrees ledger) (λ account h. (h.0, h.1 (omega (arith, h.0)))) (accounts_in ledger) agree))
  none_differs (Some x) agree = tt

  -- what differs does not agree
  one_agrees : (account : ℕ) → AgreesWith editions state ledger → AccountAgrees editions account (accepted_of state account) (archived_of account ledger)
  one_agrees account agree = record {
    postings = own_filtered (λ (p : Posting). p.quote.account) (λ a. IsPostedSo editions a (accepted_of state a)) account ledger.postings agree.postings;
    taps = all_to_map tap_row (IsRowOf tap_row (values (accepted_of state account).taps)) (taps_of account ledger.taps) (own_filtered (λ (t : Tap). t.account) (λ a t. IsRowOf tap_row (values (accepted_of state a).taps) (tap_row t)) account ledger.taps agree.taps);
    fixes = all_to_map fix_row (IsRowOf fix_row (values (accepted_of state account).fixes)) (fixes_of account ledger.fixes) (own_filtered (λ (f : Fix). f.account) (λ a f. IsRowOf fix_row (values (accepted_of state a).fixes) (fix_row f)) account ledger.fixes agree.fixes);
  }

  pub agrees_not : (found : Option (ℕ × Difference)) → IfSome found (DiffersIn editions state ledger) → IfSome found (λ _. AgreesWith editions state ledger → ⊥)
  agrees_not None differs = tt
  agrees_not (Some it) differs = λ agree. differs_not editions it.0 (accepted_of state it.0) (archived_of it.0 ledger) (one_agrees it.0 agree) it.1 differs.2

  -- before the first that differs, where all were looked at
  pub agree_before : (found : Option (ℕ × Difference)) → IfSome found (λ it. AgreeBetween editions state ledger 0 it.0) → IfSome found (λ it. AgreeBefore editions state ledger it.0)
  agree_before None agree = tt
  agree_before (Some it) agree =
      all_weaker (λ other. other < it.0 → PassesIn (AgreesAbove 0 editions state) ledger other) (λ other. other < it.0 → PassesIn Agrees ledger other) (λ other h below. let one = h below in (one.0, one.1 (omega (arith, one.0)))) (accounts_in ledger) agree

  -- those above an account
  module _ (after : ℕ) where
    pub agree_after : {X : Type 0} (it found : Option X) → it ≡ found → IfNone found (AllPass (AgreesAbove after editions state) ledger) → IfNone it (AgreeAfter editions state ledger after)
    agree_after None found is pass = all_in (AgreesAbove after editions state) ledger (of_none found is pass)
      where
        of_none : {X : Type 0} (found : Option X) → None ≡ found → IfNone found (AllPass (AgreesAbove after editions state) ledger) → AllPass (AgreesAbove after editions state) ledger
        of_none None is pass = pass
        of_none (Some x) is pass = absurd (cc)
    agree_after (Some x) found is pass = tt

    one_above : (it : ℕ × Difference) → IsFoundIn (λ account archived found. (after < account) × Differs editions account (accepted_of state account) archived found) ledger it → AgreeAfter editions state ledger after → ⊥
    one_above it found agree =
        let passes = All-contains (PassesIn (AgreesAbove after editions state) ledger) (accounts_in ledger) it.0 (All-from_recursion (PassesIn (AgreesAbove after editions state) ledger) (accounts_in ledger) agree) found.0 in
        differs_not editions it.0 (accepted_of state it.0) (archived_of it.0 ledger) (passes.1 found.2.0) it.1 found.2.1

    pub agree_after_not : (it found : Option (ℕ × Difference)) → it ≡ found → IfSome found (IsFoundIn (λ account archived found. (after < account) × Differs editions account (accepted_of state account) archived found) ledger)
        → IfSome it (λ _. AgreeAfter editions state ledger after → ⊥)
    agree_after_not None found is differs = tt
    agree_after_not (Some it) found is differs =
        one_above it (subst (λ (o : Option (ℕ × Difference)). IfSome o (IsFoundIn (λ account archived found. (after < account) × Differs editions account (accepted_of state account) archived found) ledger)) (sym is) differs)
