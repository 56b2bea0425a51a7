-- What accounts have accepted only grows.
use Rattle.std.proofs.Common.{◌≡◌, inl, inr, ◌⊎◌, ℕ, ◌+◌, ◌<◌, Bool, true, false, cond, not, if◌then◌else◌, Option, Some, None, Result, Ok, Err, unwrap_or, is_some, Ordering, Less, Equal, Greater, is_eq, refl, sym, ap, ◌∙◌, subst, arith}
use Rattle.std.specs.Cmp.{IsTotalOrder, nat_cmp_total}
use Rattle.std.specs.FinMap.{get, len, insert, empty, get-empty, get-insert, len-insert, nat_cmp-IsAntisymmetric}
use Rattle.std.specs.Ordering.{nat_cmp, eq_by_cmp}
use Rattle.std.proofs.lemmas.Cmp.{on_total, then_total}
use Rattle.std.proofs.lemmas.Map.Lookups.{CmpEqualImpliesEq, exact_pairs, exact_unsigned}
use Rattle.std.proofs.lemmas.Option.{none-some}
use Rattle.pay_rules.specs.Numbers.{number_cmp, ByNumber, judgement}
use Rattle.pay_rules.specs.declared.addition.Addition.{Addition}
use Rattle.pay_rules.specs.declared.addition.Addition.TheVariants.{Added, Repeat}
use Rattle.pay_rules.specs.declared.addition.AdditionFault.{AdditionFault}
use Rattle.pay_rules.specs.declared.addition.AdditionFault.TheVariants.{Conflict}
use Rattle.pay_tables.specs.Words.{FareEditions}
use Rattle.pay_rules.specs.declared.limits.TheConstants.{MOST_TAPS, MOST_FIXES}
use Rattle.pay_rules.specs.declared.tap.Tap.{Tap}
use Rattle.pay_rules.specs.Taps.{same_tap, judged, number as tap_number}
use Rattle.pay_rules.specs.declared.fix.Fix.{Fix}
use Rattle.pay_rules.specs.Fixes.{same_fix, judged as judged_fix, number as fix_number}
use Rattle.pay_rules.specs.NamedDay.{day_named}
use Rattle.pay_rules.specs.declared.priced.Priced.{Priced}
use Rattle.pay_rules.specs.declared.fares.TapFault.{TapFault}
use Rattle.pay_rules.specs.declared.fares.TapFault.TheVariants as of_tap
use Rattle.pay_rules.specs.declared.fares.FixFault.{FixFault}
use Rattle.pay_rules.specs.declared.fares.FixFault.TheVariants as of_fix
use Rattle.pay_rules.specs.Accepted.{Accepted, nothing, with_tap, with_fix, version}
use Rattle.pay_rules.specs.TapPlaces.{is_known, is_known_fix}
use Rattle.pay_rules.specs.Prices.{prices}
use Rattle.pay_rules.specs.FixResults.{prices_on, fix_added, fix_result, after_fix}
use Rattle.pay_rules.specs.TapResults.{tap_added, tap_result, after_tap}
use Rattle.pay_rules.specs.State.{State, accepted_of}
use Rattle.pay_restore.specs.Words.{tap_account, fix_account}
use Rattle.pay_shard.specs.declared.asked.Asked.{Asked}
use Rattle.pay_shard.specs.declared.asked.Asked.TheVariants as asked
use Rattle.pay_shard.specs.declared.item.Item.{Item}
use Rattle.pay_shard.specs.Machine.{step_tap_result, step_fix_result, step, marked_step, item_step}
use Rattle.pay_shard.specs.State.{kept}
use Rattle.pay_histories.specs.From.{AreOf, AreTheirs}

pub number_total : IsTotalOrder number_cmp
number_total = then_total (on_total (λ n. n.0) nat_cmp_total) (on_total (λ n. n.1) nat_cmp_total)

equal : (r : Ordering) → is_eq r ≡ true → r ≡ Equal
equal Less e = absurd (cc)
equal Equal e = refl
equal Greater e = absurd (cc)

exact_numbers : CmpEqualImpliesEq number_cmp
exact_numbers = exact_pairs nat_cmp nat_cmp exact_unsigned exact_unsigned

pub same_number : (q k : ℕ × ℕ) → eq_by_cmp number_cmp q k ≡ true → q ≡ k
same_number q k e = exact_numbers q k (equal (number_cmp q k) e)

pub one_account : (p q : ℕ) → eq_by_cmp nat_cmp p q ≡ true → p ≡ q
one_account p q e = nat_cmp-IsAntisymmetric p q (equal (nat_cmp p q) e)

-- ---- a set

module _ {X : Type 0} (number : X → ℕ × ℕ) (account : X → ℕ) where
  -- what stands in a set stands in another too
  abbrev pub IsPart : ByNumber X → ByNumber X → Type 0
  IsPart small large = (n : ℕ × ℕ) (x : X) → get small n ≡ Some x → get large n ≡ Some x

  not_lost : (b : Bool) (there : Option X) (x y : X) → (b ≡ true → there ≡ None) → there ≡ Some y → cond b (Some x) there ≡ Some y
  not_lost true there x y none e = absurd (none-some y (sym (none refl) ∙ e))
  not_lost false there x y none e = e

  part_of_more : (set : ByNumber X) (x : X) → get set (number x) ≡ None → IsPart set (insert set (number x) x)
  part_of_more set x none n y e =
      get-insert number_total set (number x) x n
      ∙ not_lost (eq_by_cmp number_cmp n (number x)) (get set n) x y (λ is. ap (get set) (same_number n (number x) is) ∙ none) e

  pub one_longer : (set : ByNumber X) (x : X) → get set (number x) ≡ None → len (insert set (number x) x) ≡ len set + 1
  one_longer set x none = len-insert number_total set (number x) x ∙ ap (λ (o : Option X). cond (is_some o) (len set) (len set + 1)) none

  either_of : (q : ℕ) (b : Bool) (there : Option X) (x y : X) (n : ℕ × ℕ) → (b ≡ true → n ≡ number x) → account x ≡ q → (there ≡ Some y → (number y ≡ n) × (account y ≡ q)) → cond b (Some x) there ≡ Some y
      → (number y ≡ n) × (account y ≡ q)
  either_of q true there x y n is own old e =
      let one : x ≡ y = cc in
      (ap number (sym one) ∙ sym (is refl), ap account (sym one) ∙ own)
  either_of q false there x y n is own old e = old e

  of_more : (q : ℕ) (set : ByNumber X) (x : X) → account x ≡ q → AreOf number account q set → AreOf number account q (insert set (number x) x)
  of_more q set x own old n y e =
      either_of q (eq_by_cmp number_cmp n (number x)) (get set n) x y n (same_number n (number x)) own (old n y) (sym (get-insert number_total set (number x) x n) ∙ e)

  of_none : (q : ℕ) → AreOf number account q empty
  of_none q n x e = absurd (none-some x (sym (get-empty number_cmp n) ∙ e))

  -- what is added is new
  pub new_if_added : (same : X → X → Bool) (most : ℕ) (x : X) (there : Option X) (count : ℕ) → judgement same most x there count ≡ Ok Added → there ≡ None
  new_if_added same most x None count e = refl
  new_if_added same most x (Some there) count e = by (same there x) e
    where
      by : (b : Bool) → ◌≡◌ {A = Result Addition AdditionFault} (if b then Ok Repeat else Err Conflict) (Ok Added) → Some there ≡ None
      by true e = absurd (cc)
      by false e = absurd (cc)

-- ---- an account

pub nothing_is_theirs : (account : ℕ) → AreTheirs account nothing
nothing_is_theirs account = record { taps = of_none tap_number tap_account account; fixes = of_none fix_number fix_account account }

-- what an account has accepted, and what it had before: the same or more, and nothing is lost
pub record Grown (account : ℕ) (before now : Accepted) : Type 0 where
  pub counted : (before ≡ now) ⊎ (version before < version now)
  pub taps : IsPart tap_number tap_account before.taps now.taps
  pub fixes : IsPart fix_number fix_account before.fixes now.fixes
  pub theirs : AreTheirs account before → AreTheirs account now

as_before : (account : ℕ) (accepted : Accepted) → Grown account accepted accepted
as_before account accepted = record { counted = inl refl; taps = λ n x e. e; fixes = λ n x e. e; theirs = λ are. are }

one_tap_more : (accepted : Accepted) (tap : Tap) → get accepted.taps (tap_number tap) ≡ None → Grown tap.account accepted (with_tap accepted tap)
one_tap_more accepted tap none = record {
  counted = inr (omega (arith, one_longer tap_number tap_account accepted.taps tap none));
  taps = part_of_more tap_number tap_account accepted.taps tap none;
  fixes = λ n x e. e;
  theirs = λ are. record { taps = of_more tap_number tap_account tap.account accepted.taps tap refl are.taps; fixes = are.fixes };
}

one_fix_more : (accepted : Accepted) (fix : Fix) → get accepted.fixes (fix_number fix) ≡ None → Grown fix.account accepted (with_fix accepted fix)
one_fix_more accepted fix none = record {
  counted = inr (omega (arith, one_longer fix_number fix_account accepted.fixes fix none));
  taps = λ n x e. e;
  fixes = part_of_more fix_number fix_account accepted.fixes fix none;
  theirs = λ are. record { taps = are.taps; fixes = of_more fix_number fix_account fix.account accepted.fixes fix refl are.fixes };
}

-- prices that are no repeat are of a further tap
pub added_tap : (editions : FareEditions) (accepted : Accepted) (tap : Tap) (is : Bool) (r : Result Addition AdditionFault) (priced : Priced) → (if is then tap_added editions accepted tap r else Err of_tap.UnknownPlace) ≡ Ok priced
    → priced.again ≡ false → r ≡ Ok Added
added_tap editions accepted tap false r priced e new = absurd (cc)
added_tap editions accepted tap true (Ok Added) priced e new = refl
added_tap editions accepted tap true (Ok Repeat) priced e new =
    let same : prices editions accepted true tap.stamp.day ≡ priced = cc in
    let again : true ≡ priced.again = ap (λ (p : Priced). p.again) same in
    absurd (cc)
added_tap editions accepted tap true (Err fault) priced e new = absurd (cc)

tap_grows : (editions : FareEditions) (accepted : Accepted) (tap : Tap) (priced : Priced) → tap_result editions accepted tap ≡ Ok priced → Grown tap.account accepted (after_tap (Ok priced) accepted tap)
tap_grows editions accepted tap priced e = by priced.again refl
  where
    by : (again : Bool) → priced.again ≡ again → Grown tap.account accepted (if again then accepted else with_tap accepted tap)
    by true is = as_before tap.account accepted
    by false is =
        one_tap_more accepted tap (new_if_added tap_number tap_account same_tap MOST_TAPS tap (get accepted.taps (tap_number tap)) (len accepted.taps)
        (added_tap editions accepted tap (is_known editions tap.place tap.kind) (judged accepted.taps tap) priced e is))

-- and of a further correction
is_repeat : (editions : FareEditions) (accepted : Accepted) (named : Option ℕ) → (prices_on editions accepted true named).again ≡ true
is_repeat editions accepted None = refl
is_repeat editions accepted (Some day) = refl

pub added_fix : (editions : FareEditions) (accepted : Accepted) (fix : Fix) (is : Bool) (r : Result Addition AdditionFault) (priced : Priced) → (if is then fix_added editions accepted fix r else Err of_fix.UnknownPlace) ≡ Ok priced
    → priced.again ≡ false → r ≡ Ok Added
added_fix editions accepted fix false r priced e new = absurd (cc)
added_fix editions accepted fix true (Ok Added) priced e new = refl
added_fix editions accepted fix true (Ok Repeat) priced e new =
    let named = day_named accepted.taps accepted.fixes fix.what in
    let same : prices_on editions accepted true named ≡ priced = cc in
    let again : true ≡ priced.again = sym (is_repeat editions accepted named) ∙ ap (λ (p : Priced). p.again) same in
    absurd (cc)
added_fix editions accepted fix true (Err fault) priced e new = absurd (cc)

fix_grows : (editions : FareEditions) (accepted : Accepted) (fix : Fix) (priced : Priced) → fix_result editions accepted fix ≡ Ok priced → Grown fix.account accepted (after_fix (Ok priced) accepted fix)
fix_grows editions accepted fix priced e = by priced.again refl
  where
    by : (again : Bool) → priced.again ≡ again → Grown fix.account accepted (if again then accepted else with_fix accepted fix)
    by true is = as_before fix.account accepted
    by false is =
        one_fix_more accepted fix (new_if_added fix_number fix_account same_fix MOST_FIXES fix (get accepted.fixes (fix_number fix)) (len accepted.fixes)
        (added_fix editions accepted fix (is_known_fix editions fix.what) (judged_fix accepted.fixes fix) priced e is))

-- ---- all accounts

-- what every account has accepted has grown
abbrev pub HaveGrown : State → State → Type 0
HaveGrown before now = (account : ℕ) → Grown account (accepted_of before account) (accepted_of now account)

chosen : (b : Bool) (x : Accepted) (there : Option Accepted) → unwrap_or (cond b (Some x) there) nothing ≡ cond b x (unwrap_or there nothing)
chosen true x there = refl
chosen false x there = refl

pub held : (state : State) (account : ℕ) (x : Accepted) (q : ℕ) → accepted_of (insert state account x) q ≡ cond (eq_by_cmp nat_cmp q account) x (accepted_of state q)
held state account x q = ap (λ (o : Option Accepted). unwrap_or o nothing) (get-insert nat_cmp_total state account x q) ∙ chosen (eq_by_cmp nat_cmp q account) x (get state q)

kept_grown : (new : Bool) (state : State) (account : ℕ) (x : Accepted) → Grown account (accepted_of state account) x → HaveGrown state (kept new state account x)
kept_grown false state account x grown q = as_before q (accepted_of state q)
kept_grown true state account x grown q = subst (Grown q (accepted_of state q)) (sym (held state account x q)) (by (eq_by_cmp nat_cmp q account) (one_account q account))
  where
    by : (b : Bool) → (b ≡ true → q ≡ account) → Grown q (accepted_of state q) (cond b x (accepted_of state q))
    by true same = subst (λ k. Grown k (accepted_of state k) x) (sym (same refl)) grown
    by false same = as_before q (accepted_of state q)

grown_by_tap : (editions : FareEditions) (state : State) (tap : Tap) (r : Result Priced TapFault) → tap_result editions (accepted_of state tap.account) tap ≡ r → HaveGrown state (step_tap_result state tap r).after
grown_by_tap editions state tap (Err fault) e = λ q. as_before q (accepted_of state q)
grown_by_tap editions state tap (Ok priced) e =
    kept_grown (not priced.again) state tap.account (after_tap (Ok priced) (accepted_of state tap.account) tap) (tap_grows editions (accepted_of state tap.account) tap priced e)

grown_by_fix : (editions : FareEditions) (state : State) (fix : Fix) (r : Result Priced FixFault) → fix_result editions (accepted_of state fix.account) fix ≡ r → HaveGrown state (step_fix_result state fix r).after
grown_by_fix editions state fix (Err fault) e = λ q. as_before q (accepted_of state q)
grown_by_fix editions state fix (Ok priced) e =
    kept_grown (not priced.again) state fix.account (after_fix (Ok priced) (accepted_of state fix.account) fix) (fix_grows editions (accepted_of state fix.account) fix priced e)

step_grown : (editions : FareEditions) (state : State) (a : Asked) → HaveGrown state (step editions state a).after
step_grown editions state (asked.Tap tap) = grown_by_tap editions state tap (tap_result editions (accepted_of state tap.account) tap) refl
step_grown editions state (asked.Fix fix) = grown_by_fix editions state fix (fix_result editions (accepted_of state fix.account) fix) refl
step_grown editions state (asked.Due account day) = λ q. as_before q (accepted_of state q)
step_grown editions state (asked.Show account day) = λ q. as_before q (accepted_of state q)
step_grown editions state (asked.Quotes day shard of) = λ q. as_before q (accepted_of state q)

pub item_grown : (editions : FareEditions) (state : State) (item : Item) → HaveGrown state (item_step editions state item).after
item_grown editions state item = by item.refused_memory
  where
    by : (marked : Bool) → HaveGrown state (marked_step marked editions state item.entry.command).after
    by true = λ q. as_before q (accepted_of state q)
    by false = step_grown editions state item.entry.command
