-- What is answered by prices was newly accepted once: a repeat repeats what stands in the sets.
use Rattle.std.proofs.Common.{◌≡◌, ◌⊎◌, inl, inr, ℕ, Bool, true, false, not, cond, List, [], ◌∷◌, Option, Some, None, Result, Ok, Err, nat_le, unwrap_or, if◌then◌else◌, refl, sym, ap, ◌∙◌, subst}
use Rattle.std.specs.Cmp.{IsTotalOrder, nat_cmp_total}
use Rattle.std.specs.FinMap.{empty, get, insert, len, get-empty, get-insert}
use Rattle.std.specs.Ordering.{nat_cmp, eq_by_cmp}
use Rattle.std.proofs.lemmas.Cmp.{on_total, then_total}
use Rattle.pay_rules.specs.InTurn.{IsIn}
use Rattle.pay_rules.specs.Numbers.{number_cmp, judgement}
use Rattle.pay_rules.specs.declared.addition.Addition.{Addition}
use Rattle.pay_rules.specs.declared.addition.Addition.TheVariants.{Added, Repeat}
use Rattle.pay_rules.specs.declared.addition.AdditionFault.{AdditionFault}
use Rattle.pay_rules.specs.declared.addition.AdditionFault.TheVariants.{Conflict, Full, Memory}
use Rattle.pay_tables.specs.Words.{FareEditions}
use Rattle.pay_rules.specs.SameTap.{tap_from_same}
use Rattle.pay_rules.specs.declared.limits.TheConstants.{MOST_TAPS, MOST_FIXES}
use Rattle.pay_rules.specs.declared.tap.Tap.{Tap}
use Rattle.pay_rules.specs.Taps.{same_tap, judged as judged_tap, number as tap_number}
use Rattle.pay_rules.specs.SameFix.{same_is_one}
use Rattle.pay_rules.specs.declared.fix.Fix.{Fix}
use Rattle.pay_rules.specs.Fixes.{same_fix, judged as judged_fix, number as fix_number}
use Rattle.pay_rules.specs.NamedDay.{day_named}
use Rattle.pay_rules.specs.declared.priced.Priced.{Priced}
use Rattle.pay_rules.specs.declared.fares.TapFault.{TapFault}
use Rattle.pay_rules.specs.declared.fares.TapFault.TheVariants as of_tap
use Rattle.pay_rules.specs.declared.fares.FixFault.{FixFault}
use Rattle.pay_rules.specs.declared.fares.FixFault.TheVariants as of_fix
use Rattle.pay_rules.specs.Accepted.{Accepted, nothing, with_tap, with_fix}
use Rattle.pay_rules.specs.TapPlaces.{is_known, is_known_fix}
use Rattle.pay_rules.specs.TapResults.{tap_added, tap_result}
use Rattle.pay_rules.specs.FixResults.{prices_on, fix_added, fix_result}
use Rattle.pay_rules.specs.State.{State, accepted_of}
use Rattle.pay_shard.specs.Changes.{is_priced, with_prices, asked_by, accepted_asked}
use Rattle.pay_shard.specs.Machine.{step_tap_result, step_fix_result, marked_step, item_step}
use Rattle.pay_shard.specs.NewItems.{is_new, new_items}
use Rattle.pay_shard.specs.Runs.{run}
use Rattle.pay_shard.specs.State.{kept}
use Rattle.pay_shard.specs.Words.{OthersChangeNothing}
use Rattle.pay_shard.specs.declared.asked.Asked.{Asked}
use Rattle.pay_shard.specs.declared.asked.Asked.TheVariants as asked
use Rattle.pay_shard.specs.declared.item.Item.{Item}
use Rattle.pay_journal_laws.specs.GivenBack.{RepeatsAreOfNew}

number_total : IsTotalOrder number_cmp
number_total = then_total (on_total (λ n. n.0) nat_cmp_total) (on_total (λ n. n.1) nat_cmp_total)

-- ---- options and sets

some_same : {X : Type 0} (x y : X) → ◌≡◌ {A = Option X} (Some x) (Some y) → x ≡ y
some_same x y e = ap (λ o. unwrap_or o x) e

none_is_some : {X : Type 0} (x : X) → ◌≡◌ {A = Option X} None (Some x) → ⊥
none_is_some x e = cc

-- it is the one that is put in, or it was there
either : {X : Type 0} (P : Type 0) (b : Bool) (x y : X) (there : Option X) → (x ≡ y → P) → (there ≡ Some y → P) → cond b (Some x) there ≡ Some y → P
either P true x y there new old e = new (some_same x y e)
either P false x y there new old e = old e

-- what is judged a repeat is there
module _ {X : Type 0} (same : X → X → Bool) (most : ℕ) (x : X) where
  is_there : (found : Option X) (count : ℕ) → judgement same most x found count ≡ Ok Repeat → (there : X) × (found ≡ Some there) × (same there x ≡ true)
  is_there (Some there) count e = by (same there x) refl e
    where
      by : (b : Bool) → same there x ≡ b → ◌≡◌ {A = Result Addition AdditionFault} (if b then Ok Repeat else Err Conflict) (Ok Repeat) → (y : X) × (Some there ≡ Some y) × (same y x ≡ true)
      by true is e = (there, refl, is)
      by false is e = absurd (cc)
  is_there None count e = by (nat_le most count) e
    where
      by : (b : Bool) → ◌≡◌ {A = Result Addition AdditionFault} (if b then Err Full else Ok Added) (Ok Repeat) → (y : X) × (None ≡ Some y) × (same y x ≡ true)
      by true e = absurd (cc)
      by false e = absurd (cc)

not_again : (editions : FareEditions) (accepted : Accepted) (named : Option ℕ) → not (prices_on editions accepted false named).again ≡ true
not_again editions accepted None = refl
not_again editions accepted (Some day) = refl

-- ---- what stands in the sets of a state

-- each tap and each correction that an account has accepted is one of those that were asked
record IsKnownBy (state : State) (list : List Asked) : Type 0 where
  taps : (q : ℕ) (n : ℕ × ℕ) (tap : Tap) → get (accepted_of state q).taps n ≡ Some tap → IsIn list (asked.Tap tap)
  fixes : (q : ℕ) (n : ℕ × ℕ) (fix : Fix) → get (accepted_of state q).fixes n ≡ Some fix → IsIn list (asked.Fix fix)

none_known : IsKnownBy empty []
none_known = record {
  taps = λ q n tap e.
      none_is_some tap (sym (get-empty number_cmp n) ∙ (sym (ap (λ (o : Option Accepted). get (unwrap_or o nothing).taps n) (get-empty nat_cmp q)) ∙ e));
  fixes = λ q n fix e.
      none_is_some fix (sym (get-empty number_cmp n) ∙ (sym (ap (λ (o : Option Accepted). get (unwrap_or o nothing).fixes n) (get-empty nat_cmp q)) ∙ e));
}

module _ (state : State) (list : List Asked) (known : IsKnownBy state list) where
  -- one account more, of which all is known
  one_known : (k : ℕ) (x : Accepted) (a : Asked) → ((n : ℕ × ℕ) (tap : Tap) → get x.taps n ≡ Some tap → IsIn (a ∷ list) (asked.Tap tap))
      → ((n : ℕ × ℕ) (fix : Fix) → get x.fixes n ≡ Some fix → IsIn (a ∷ list) (asked.Fix fix)) → IsKnownBy (insert state k x) (a ∷ list)
  one_known k x a taps fixes = record {
    taps = λ q n tap e. of_taps q n tap (eq_by_cmp nat_cmp q k) (sym (ap (λ (o : Option Accepted). get (unwrap_or o nothing).taps n) (get-insert nat_cmp_total state k x q)) ∙ e);
    fixes = λ q n fix e. of_fixes q n fix (eq_by_cmp nat_cmp q k) (sym (ap (λ (o : Option Accepted). get (unwrap_or o nothing).fixes n) (get-insert nat_cmp_total state k x q)) ∙ e);
  }
    where
      of_taps : (q : ℕ) (n : ℕ × ℕ) (tap : Tap) (b : Bool) → get (unwrap_or (cond b (Some x) (get state q)) nothing).taps n ≡ Some tap → IsIn (a ∷ list) (asked.Tap tap)
      of_taps q n tap true e = taps n tap e
      of_taps q n tap false e = inr (known.taps q n tap e)

      of_fixes : (q : ℕ) (n : ℕ × ℕ) (fix : Fix) (b : Bool) → get (unwrap_or (cond b (Some x) (get state q)) nothing).fixes n ≡ Some fix → IsIn (a ∷ list) (asked.Fix fix)
      of_fixes q n fix true e = fixes n fix e
      of_fixes q n fix false e = inr (known.fixes q n fix e)

  with_tap_known : (k : ℕ) (tap : Tap) → IsKnownBy (insert state k (with_tap (accepted_of state k) tap)) (asked.Tap tap ∷ list)
  with_tap_known k tap =
      one_known k (with_tap (accepted_of state k) tap) (asked.Tap tap)
      (λ n other e.
      either (IsIn (asked.Tap tap ∷ list) (asked.Tap other)) (eq_by_cmp number_cmp n (tap_number tap)) tap other (get (accepted_of state k).taps n)
      (λ same. inl (ap asked.Tap same)) (λ was. inr (known.taps k n other was))
      (sym (get-insert number_total (accepted_of state k).taps (tap_number tap) tap n) ∙ e))
      (λ n fix e. inr (known.fixes k n fix e))

  with_fix_known : (k : ℕ) (fix : Fix) → IsKnownBy (insert state k (with_fix (accepted_of state k) fix)) (asked.Fix fix ∷ list)
  with_fix_known k fix =
      one_known k (with_fix (accepted_of state k) fix) (asked.Fix fix)
      (λ n tap e. inr (known.taps k n tap e))
      (λ n other e.
      either (IsIn (asked.Fix fix ∷ list) (asked.Fix other)) (eq_by_cmp number_cmp n (fix_number fix)) fix other (get (accepted_of state k).fixes n)
      (λ same. inl (ap asked.Fix same)) (λ was. inr (known.fixes k n other was))
      (sym (get-insert number_total (accepted_of state k).fixes (fix_number fix) fix n) ∙ e))

  -- ---- what is newly accepted is known then

  new_tap : (tap : Tap) (r : Result Priced TapFault) → is_new (step_tap_result state tap r).reply ≡ true → IsKnownBy (step_tap_result state tap r).after (asked.Tap tap ∷ list)
  new_tap tap (Ok priced) new = by priced.again new
    where
      by : (again : Bool) → not again ≡ true
          → IsKnownBy (kept (not again) state tap.account (if again then accepted_of state tap.account else with_tap (accepted_of state tap.account) tap)) (asked.Tap tap ∷ list)
      by false is = with_tap_known tap.account tap
      by true is = absurd (cc)
  new_tap tap (Err of_tap.UnknownPlace) new = absurd (cc)
  new_tap tap (Err of_tap.Conflict) new = absurd (cc)
  new_tap tap (Err of_tap.AccountFull) new = absurd (cc)
  new_tap tap (Err of_tap.Memory) new = absurd (cc)

  new_fix : (fix : Fix) (r : Result Priced FixFault) → is_new (step_fix_result state fix r).reply ≡ true → IsKnownBy (step_fix_result state fix r).after (asked.Fix fix ∷ list)
  new_fix fix (Ok priced) new = by priced.again new
    where
      by : (again : Bool) → not again ≡ true
          → IsKnownBy (kept (not again) state fix.account (if again then accepted_of state fix.account else with_fix (accepted_of state fix.account) fix)) (asked.Fix fix ∷ list)
      by false is = with_fix_known fix.account fix
      by true is = absurd (cc)
  new_fix fix (Err of_fix.UnknownPlace) new = absurd (cc)
  new_fix fix (Err of_fix.FixConflict) new = absurd (cc)
  new_fix fix (Err of_fix.FixesFull) new = absurd (cc)
  new_fix fix (Err of_fix.Memory) new = absurd (cc)

  new_known : (mark : Bool) (editions : FareEditions) (a : Asked) → is_new (marked_step mark editions state a).reply ≡ true → IsKnownBy (marked_step mark editions state a).after (a ∷ list)
  new_known true editions a new = absurd (cc)
  new_known false editions (asked.Tap tap) new = new_tap tap (tap_result editions (accepted_of state tap.account) tap) new
  new_known false editions (asked.Fix fix) new = new_fix fix (fix_result editions (accepted_of state fix.account) fix) new
  new_known false editions (asked.Due account day) new = absurd (cc)
  new_known false editions (asked.Show account day) new = absurd (cc)
  new_known false editions (asked.Quotes day shard of) new = absurd (cc)

  -- ---- and a repeat was known

  tap_was_known : (editions : FareEditions) (tap : Tap) (place : Bool) (j : Result Addition AdditionFault) → judged_tap (accepted_of state tap.account).taps tap ≡ j
      → is_priced (step_tap_result state tap (if place then tap_added editions (accepted_of state tap.account) tap j else Err of_tap.UnknownPlace)).reply ≡ true
      → is_new (step_tap_result state tap (if place then tap_added editions (accepted_of state tap.account) tap j else Err of_tap.UnknownPlace)).reply ≡ false
      → IsIn list (asked.Tap tap)
  tap_was_known editions tap true (Ok Added) e priced old = absurd (cc)
  tap_was_known editions tap true (Ok Repeat) e priced old =
      let at = is_there same_tap MOST_TAPS tap (get (accepted_of state tap.account).taps (tap_number tap)) (len (accepted_of state tap.account).taps) e in
      subst (λ t. IsIn list (asked.Tap t)) (tap_from_same at.0 tap at.2) (known.taps tap.account (tap_number tap) at.0 at.1)
  tap_was_known editions tap true (Err Conflict) e priced old = absurd (cc)
  tap_was_known editions tap true (Err Full) e priced old = absurd (cc)
  tap_was_known editions tap true (Err Memory) e priced old = absurd (cc)
  tap_was_known editions tap false j e priced old = absurd (cc)

  fix_was_known : (editions : FareEditions) (fix : Fix) (place : Bool) (j : Result Addition AdditionFault) → judged_fix (accepted_of state fix.account).fixes fix ≡ j
      → is_priced (step_fix_result state fix (if place then fix_added editions (accepted_of state fix.account) fix j else Err of_fix.UnknownPlace)).reply ≡ true
      → is_new (step_fix_result state fix (if place then fix_added editions (accepted_of state fix.account) fix j else Err of_fix.UnknownPlace)).reply ≡ false
      → IsIn list (asked.Fix fix)
  fix_was_known editions fix true (Ok Added) e priced old =
      let more = with_fix (accepted_of state fix.account) fix in
      let new = not_again editions more (day_named more.taps more.fixes fix.what) in
      absurd (cc)
  fix_was_known editions fix true (Ok Repeat) e priced old =
      let at = is_there same_fix MOST_FIXES fix (get (accepted_of state fix.account).fixes (fix_number fix)) (len (accepted_of state fix.account).fixes) e in
      subst (λ f. IsIn list (asked.Fix f)) (same_is_one at.0 fix at.2) (known.fixes fix.account (fix_number fix) at.0 at.1)
  fix_was_known editions fix true (Err Conflict) e priced old = absurd (cc)
  fix_was_known editions fix true (Err Full) e priced old = absurd (cc)
  fix_was_known editions fix true (Err Memory) e priced old = absurd (cc)
  fix_was_known editions fix false j e priced old = absurd (cc)

  was_known : (mark : Bool) (editions : FareEditions) (a : Asked) → is_priced (marked_step mark editions state a).reply ≡ true → is_new (marked_step mark editions state a).reply ≡ false → IsIn list a
  was_known true editions a priced old = absurd (cc)
  was_known false editions (asked.Tap tap) priced old = tap_was_known editions tap (is_known editions tap.place tap.kind) (judged_tap (accepted_of state tap.account).taps tap) refl priced old
  was_known false editions (asked.Fix fix) priced old = fix_was_known editions fix (is_known_fix editions fix.what) (judged_fix (accepted_of state fix.account).fixes fix) refl priced old
  was_known false editions (asked.Due account day) priced old = absurd (cc)
  was_known false editions (asked.Show account day) priced old = absurd (cc)
  was_known false editions (asked.Quotes day shard of) priced old = absurd (cc)

-- ---- a journal

-- the first, if it is priced, or one of the others
first_or : (a x : Asked) (others : List Asked) (b : Bool) → IsIn (if b then a ∷ others else others) x → ((b ≡ true) × (a ≡ x)) ⊎ IsIn others x
first_or a x others true (inl is) = inl (refl, is)
first_or a x others true (inr later) = inr later
first_or a x others false has = inr has

module _ (stays : OthersChangeNothing) (editions : FareEditions) where
  known_or_new : (items : List Item) (state : State) (list : List Asked) → IsKnownBy state list → (a : Asked) → IsIn (accepted_asked editions state items) a
      → IsIn list a ⊎ IsIn (asked_by (new_items editions state items)) a
  known_or_new [] state list known a has = absurd has
  known_or_new (item ∷ items) state list known a has =
      by (is_new (item_step editions state item).reply) refl
      (first_or item.entry.command a (with_prices items (run editions (item_step editions state item).after items).replies) (is_priced (item_step editions state item).reply) has)
      (λ l its there. known_or_new items (item_step editions state item).after l its a there)
    where
      by : (new : Bool) → is_new (item_step editions state item).reply ≡ new
          → ((is_priced (item_step editions state item).reply ≡ true) × (item.entry.command ≡ a)) ⊎ IsIn (accepted_asked editions (item_step editions state item).after items) a
          → ((l : List Asked) → IsKnownBy (item_step editions state item).after l → IsIn (accepted_asked editions (item_step editions state item).after items) a
          → IsIn l a ⊎ IsIn (asked_by (new_items editions (item_step editions state item).after items)) a)
          → IsIn list a
          ⊎ IsIn (asked_by (if new then item ∷ new_items editions (item_step editions state item).after items else new_items editions (item_step editions state item).after items)) a
      by true new (inl here) rest = inr (inl here.1)
      by true new (inr later) rest =
          elim (rest (item.entry.command ∷ list) (new_known state list known item.refused_memory editions item.entry.command new) later) [
            | inl before ↦ elim before [ inl is ↦ inr (inl is) | inr there ↦ inl there ]
            | inr there ↦ inr (inr there)
          ]
      by false old (inl here) rest = inl (subst (IsIn list) here.1 (was_known state list known item.refused_memory editions item.entry.command here.0 old))
      by false old (inr later) rest = rest list (subst (λ s. IsKnownBy s list) (sym (stays editions state item old)) known) later

pub repeats_are_of_new : OthersChangeNothing → RepeatsAreOfNew
repeats_are_of_new stays editions items a has = elim (known_or_new stays editions items empty [] none_known a has) [
  | inl none ↦ absurd none
  | inr new ↦ new
]
