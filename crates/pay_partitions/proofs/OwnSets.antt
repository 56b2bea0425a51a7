-- What each account has accepted is its own, whatever is asked.
use Rattle.std.proofs.Common.{◌≡◌, ℕ, ◌&&◌, Bool, true, false, cond, if◌then◌else◌, List, [], ◌∷◌, map, filter, length, Option, Some, None, IfSome, unwrap_or, Result, Ok, Err, Ordering, Less, Equal, Greater, is_eq, refl, sym, ◌∙◌, subst, arith}
use Rattle.std.specs.Cmp.{IsTotalOrder, nat_cmp_total}
use Rattle.std.specs.FinMap.{get, insert, empty, entries, put, find, get-entries, entries-insert, len-empty, len-entries, nat_cmp-IsAntisymmetric}
use Rattle.std.specs.FinMap.Entries.{by_order}
use Rattle.std.specs.List.{AllByRecursion}
use Rattle.std.specs.Ordering.{nat_cmp}
use Rattle.std.proofs.lemmas.Cmp.{on_total, then_total}
use Rattle.pay_tables.specs.Words.{FareEditions}
use Rattle.pay_rules.specs.Accepted.{Accepted, nothing, with_tap, with_fix}
use Rattle.pay_rules.specs.FixResults.{fix_result, after_fix}
use Rattle.pay_rules.specs.Numbers.{number_cmp, ByNumber}
use Rattle.pay_rules.specs.SetsParts.{sets}
use Rattle.pay_rules.specs.State.{State, accepted_of}
use Rattle.pay_rules.specs.TapResults.{tap_result, after_tap}
use Rattle.pay_rules.specs.Taps.{number as tap_number}
use Rattle.pay_rules.specs.Fixes.{number as fix_number}
use Rattle.pay_rules.specs.declared.fares.FixFault.{FixFault}
use Rattle.pay_rules.specs.declared.fares.TapFault.{TapFault}
use Rattle.pay_rules.specs.declared.fix.Fix.{Fix}
use Rattle.pay_rules.specs.declared.posting.Posting.{Posting}
use Rattle.pay_rules.specs.declared.post_fault.PostFault.{PostFault}
use Rattle.pay_rules.specs.declared.priced.Priced.{Priced}
use Rattle.pay_rules.specs.declared.tap.Tap.{Tap}
use Rattle.pay_postings.specs.Words.{LedgerParts}
use Rattle.pay_shard.specs.Machine.{step_fix_result, step_tap_result}
use Rattle.pay_shard.specs.Selection.{is_of, is_quoted}
use Rattle.pay_shard.specs.State.{is_new, kept}
use Rattle.pay_shard.specs.declared.asked.Asked.TheVariants as asked
use Rattle.pay_close.specs.Close.{batch_of_all, close}
use Rattle.pay_session.specs.Words.{asks_of}
use Rattle.pay_session.specs.declared.asks.Asks.{Asks}
use Rattle.pay_session.specs.declared.asks.Asks.TheVariants as asks
use Rattle.pay_session.specs.declared.request.Request.{Request}
use Rattle.pay_run.specs.Machine.{Machine, step_asks, step_close, step_closed, step as machine_step}
use Rattle.pay_partitions.specs.Parts.{IsOfAccount}

-- ---- each of a list

all_mapped : {X Y : Type 0} (P : Y → Type 0) (f : X → Y) (list : List X) → AllByRecursion (λ x. P (f x)) list → AllByRecursion P (map f list)
all_mapped P f [] all = tt
all_mapped P f (x ∷ list) all = (all.0, all_mapped P f list all.1)

all_before : {X Y : Type 0} (P : Y → Type 0) (f : X → Y) (list : List X) → AllByRecursion P (map f list) → AllByRecursion (λ x. P (f x)) list
all_before P f [] all = tt
all_before P f (x ∷ list) all = (all.0, all_before P f list all.1)

all_filtered : {X : Type 0} (P : X → Type 0) (p : X → Bool) (list : List X) → AllByRecursion P list → AllByRecursion P (filter p list)
all_filtered P p [] all = tt
all_filtered P p (x ∷ list) all = by (p x) (all_filtered P p list all.1)
  where
    by : (b : Bool) → AllByRecursion P (filter p list) → AllByRecursion P (cond b (x ∷ filter p list) (filter p list))
    by true rest = (all.0, rest)
    by false rest = rest

-- ---- the entries of a map

no_length : {X : Type 0} (list : List X) → length list ≡ 0 → list ≡ []
no_length [] e = refl
no_length (x ∷ list) e = absurd (omega (arith, e))

no_entries : {K X : Type 0} (R : K → K → Ordering) → ◌≡◌ {A = List (K × X)} (entries (empty {X = X} {R = R})) []
no_entries {K} {X} R = no_length (entries (empty {X = X} {R = R})) (sym (len-entries (empty {X = X} {R = R})) ∙ len-empty R X)

module _ {K X : Type 0} (R : K → K → Ordering) (P : K → X → Type 0) where
  -- it is so of each entry
  abbrev Each : List (K × X) → Type 0
  Each = AllByRecursion (λ (e : K × X). P e.0 e.1)

  each_put : (k : K) (x : X) (es : List (K × X)) → ((q : K) → R k q ≡ Equal → P q x) → P k x → Each es → Each (put R k x es)
  each_put k x [] same one all = (one, tt)
  each_put k x (e ∷ es) same one all = by (R k e.0) refl (each_put k x es same one all.1)
    where
      by : (r : Ordering) → R k e.0 ≡ r → Each (put R k x es) → Each (by_order r ((k, x) ∷ e ∷ es) ((e.0, x) ∷ es) (e ∷ put R k x es))
      by Less is rest = (one, all)
      by Equal is rest = (same e.0 is, all.1)
      by Greater is rest = (all.0, rest)

  each_found : (k : K) (es : List (K × X)) → ((q : K) (x : X) → R k q ≡ Equal → P q x → P k x) → Each es → IfSome (find R k es) (P k)
  each_found k [] same all = tt
  each_found k (e ∷ es) same all = by (R k e.0) refl (each_found k es same all.1)
    where
      by : (r : Ordering) → R k e.0 ≡ r → IfSome (find R k es) (P k) → IfSome (cond (is_eq r) (Some e.1) (find R k es)) (P k)
      by Less is rest = rest
      by Equal is rest = same e.0 e.1 is all.0
      by Greater is rest = rest

-- ---- a set

number_total : IsTotalOrder number_cmp
number_total = then_total (on_total (λ n. n.0) nat_cmp_total) (on_total (λ n. n.1) nat_cmp_total)

module _ {X : Type 0} (account_of : X → ℕ) (account : ℕ) where
  abbrev AreOf : ByNumber X → Type 0
  AreOf set = AllByRecursion (λ (x : X). account_of x ≡ account) (map (λ (e : (ℕ × ℕ) × X). e.1) (entries set))

  abbrev IsOf : ℕ × ℕ → X → Type 0
  IsOf n x = account_of x ≡ account

  none_is_of : AreOf empty
  none_is_of = subst (λ (es : List ((ℕ × ℕ) × X)). AllByRecursion (λ (x : X). account_of x ≡ account) (map (λ e. e.1) es)) (sym (no_entries number_cmp)) tt

  one_is_of : (set : ByNumber X) (n : ℕ × ℕ) (x : X) → account_of x ≡ account → AreOf set → AreOf (insert set n x)
  one_is_of set n x is are =
      let before = all_before (λ (x : X). account_of x ≡ account) (λ (e : (ℕ × ℕ) × X). e.1) (entries set) are in
      let with_one = each_put number_cmp IsOf n x (entries set) (λ q same. is) is before in
      subst (λ (es : List ((ℕ × ℕ) × X)). AllByRecursion (λ (x : X). account_of x ≡ account) (map (λ e. e.1) es)) (sym (entries-insert number_total set n x))
      (all_mapped (λ (x : X). account_of x ≡ account) (λ (e : (ℕ × ℕ) × X). e.1) (put number_cmp n x (entries set)) with_one)

-- ---- an account

-- all that it has accepted is its own
abbrev IsTheirs : ℕ → Accepted → Type 0
IsTheirs account accepted = IsOfAccount (sets account accepted)

nothing_is_theirs : (account : ℕ) → IsTheirs account nothing
nothing_is_theirs account = record { taps = none_is_of (λ (t : Tap). t.account) account; fixes = none_is_of (λ (f : Fix). f.account) account }

tap_is_theirs : (accepted : Accepted) (tap : Tap) → IsTheirs tap.account accepted → IsTheirs tap.account (with_tap accepted tap)
tap_is_theirs accepted tap is = record { taps = one_is_of (λ (t : Tap). t.account) tap.account accepted.taps (tap_number tap) tap refl is.taps; fixes = is.fixes }

fix_is_theirs : (accepted : Accepted) (fix : Fix) → IsTheirs fix.account accepted → IsTheirs fix.account (with_fix accepted fix)
fix_is_theirs accepted fix is = record { taps = is.taps; fixes = one_is_of (λ (f : Fix). f.account) fix.account accepted.fixes (fix_number fix) fix refl is.fixes }

-- ---- all accounts

-- what each has accepted is its own
abbrev pub AreTheirs : State → Type 0
AreTheirs state = AllByRecursion (λ (e : ℕ × Accepted). IsTheirs e.0 e.1) (entries state)

pub none_are_theirs : AreTheirs empty
none_are_theirs = subst (AllByRecursion (λ (e : ℕ × Accepted). IsTheirs e.0 e.1)) (sym (no_entries nat_cmp)) tt

or_nothing : (account : ℕ) (o : Option Accepted) → IfSome o (IsTheirs account) → IsTheirs account (unwrap_or o nothing)
or_nothing account None is = nothing_is_theirs account
or_nothing account (Some accepted) is = is

its_own : (state : State) (account : ℕ) → AreTheirs state → IsTheirs account (accepted_of state account)
its_own state account are =
    or_nothing account (get state account)
    (subst (λ (o : Option Accepted). IfSome o (IsTheirs account)) (sym (get-entries state account))
    (each_found nat_cmp IsTheirs account (entries state) (λ q x e is. subst (λ k. IsTheirs k x) (sym (nat_cmp-IsAntisymmetric account q e)) is) are))

kept_theirs : (new : Bool) (state : State) (account : ℕ) (accepted : Accepted) → IsTheirs account accepted → AreTheirs state → AreTheirs (kept new state account accepted)
kept_theirs true state account accepted is are =
    subst (AllByRecursion (λ (e : ℕ × Accepted). IsTheirs e.0 e.1)) (sym (entries-insert nat_cmp_total state account accepted))
    (each_put nat_cmp IsTheirs account accepted (entries state) (λ q e. subst (λ k. IsTheirs k accepted) (nat_cmp-IsAntisymmetric account q e) is) is are)
kept_theirs false state account accepted is are = are

-- ---- a request

tap_theirs : (state : State) (tap : Tap) (r : Result Priced TapFault) → AreTheirs state → AreTheirs (step_tap_result state tap r).after
tap_theirs state tap (Err fault) are = are
tap_theirs state tap (Ok priced) are = kept_theirs (is_new {E = TapFault} (Ok priced)) state tap.account (after_tap (Ok priced) (accepted_of state tap.account) tap) (by priced.again) are
  where
    by : (again : Bool) → IsTheirs tap.account (if again then accepted_of state tap.account else with_tap (accepted_of state tap.account) tap)
    by true = its_own state tap.account are
    by false = tap_is_theirs (accepted_of state tap.account) tap (its_own state tap.account are)

fix_theirs : (state : State) (fix : Fix) (r : Result Priced FixFault) → AreTheirs state → AreTheirs (step_fix_result state fix r).after
fix_theirs state fix (Err fault) are = are
fix_theirs state fix (Ok priced) are = kept_theirs (is_new {E = FixFault} (Ok priced)) state fix.account (after_fix (Ok priced) (accepted_of state fix.account) fix) (by priced.again) are
  where
    by : (again : Bool) → IsTheirs fix.account (if again then accepted_of state fix.account else with_fix (accepted_of state fix.account) fix)
    by true = its_own state fix.account are
    by false = fix_is_theirs (accepted_of state fix.account) fix (its_own state fix.account are)

closed_theirs : (m : Machine) (day : ℕ) (r : Result (List Posting × LedgerParts) PostFault) → AreTheirs m.accounts → AreTheirs (step_closed m day r).after.accounts
closed_theirs m day (Ok answer) are = are
closed_theirs m day (Err fault) are = are

close_theirs : (m : Machine) (day : ℕ) (ledger : Option LedgerParts) → AreTheirs m.accounts → AreTheirs (step_close None m day ledger).after.accounts
close_theirs m day None are = are
close_theirs m day (Some ledger) are = closed_theirs m day (close m.editions (record { state = m.accounts; ledger = ledger }) day) are

asked_theirs : (m : Machine) (a : Asks) → AreTheirs m.accounts → AreTheirs (step_asks None m a).after.accounts
asked_theirs m (asks.Put (asked.Tap tap)) are = tap_theirs m.accounts tap (tap_result m.editions (accepted_of m.accounts tap.account) tap) are
asked_theirs m (asks.Put (asked.Fix fix)) are = fix_theirs m.accounts fix (fix_result m.editions (accepted_of m.accounts fix.account) fix) are
asked_theirs m (asks.Put (asked.Due account day)) are = are
asked_theirs m (asks.Put (asked.Show account day)) are = are
asked_theirs m (asks.Put (asked.Quotes day shard of)) are = are
asked_theirs m (asks.Close day) are = close_theirs m day m.ledger are
asked_theirs m asks.Quit are = are
asked_theirs m (asks.No why) are = are

pub stay_theirs : (m : Machine) (r : Request) → AreTheirs m.accounts → AreTheirs (machine_step None m r).after.accounts
unfolding machine_step
stay_theirs m r are = asked_theirs m (asks_of m.zone r) are

-- ---- a close

-- the sets that a close gets are of their accounts
pub batch_theirs : (editions : FareEditions) (state : State) (day : ℕ) → AreTheirs state → AllByRecursion IsOfAccount (batch_of_all editions state day).sets
batch_theirs editions state day are =
    let test = λ (e : ℕ × Accepted). is_of 0 1 e.0 && is_quoted day (sets e.0 e.1) in
    all_mapped IsOfAccount (λ (e : ℕ × Accepted). sets e.0 e.1) (filter test (entries state)) (all_filtered (λ (e : ℕ × Accepted). IsTheirs e.0 e.1) test (entries state) are)
