-- What accounts have accepted may be archived: each tap and each correction fits into a row and has its place, and there are no more than
-- there may be.
use Rattle.std.proofs.Common.{◌≡◌, ℕ, ◌<◌, ◌≤◌, Bool, true, false, cond, not, if◌then◌else◌, nat_le, List, [], ◌∷◌, Option, Some, None, Result, Ok, Err, refl, sym, ◌∙◌, subst, arith}
use Rattle.std.specs.FinMap.{get, len, insert, empty, get-empty, get-insert, len-empty}
use Rattle.std.specs.Ordering.{nat_cmp, eq_by_cmp}
use Rattle.std.proofs.lemmas.Bool.{leb-false}
use Rattle.std.proofs.lemmas.Option.{none-some}
use Rattle.pay_rules.specs.Numbers.{number_cmp, ByNumber, judgement}
use Rattle.pay_rules.specs.declared.addition.Addition.{Addition}
use Rattle.pay_rules.specs.declared.addition.Addition.TheVariants.{Added, Repeat}
use Rattle.pay_rules.specs.declared.addition.AdditionFault.{AdditionFault}
use Rattle.pay_rules.specs.declared.addition.AdditionFault.TheVariants.{Conflict, Full}
use Rattle.pay_tables.specs.Words.{FareEditions}
use Rattle.pay_rules.specs.declared.limits.TheConstants.{MOST_TAPS, MOST_FIXES}
use Rattle.pay_rules.specs.declared.tap.Tap.{Tap}
use Rattle.pay_rules.specs.Taps.{same_tap, judged, number as tap_number}
use Rattle.pay_rules.specs.declared.fix.Fix.{Fix}
use Rattle.pay_rules.specs.Fixes.{same_fix, judged as judged_fix, number as fix_number}
use Rattle.pay_rules.specs.declared.priced.Priced.{Priced}
use Rattle.pay_rules.specs.declared.fares.TapFault.{TapFault}
use Rattle.pay_rules.specs.declared.fares.TapFault.TheVariants as of_tap
use Rattle.pay_rules.specs.declared.fares.FixFault.{FixFault}
use Rattle.pay_rules.specs.declared.fares.FixFault.TheVariants as of_fix
use Rattle.pay_rules.specs.Accepted.{Accepted, nothing, with_tap, with_fix}
use Rattle.pay_rules.specs.TapPlaces.{is_known, is_known_fix}
use Rattle.pay_rules.specs.TapResults.{tap_added, tap_result, after_tap}
use Rattle.pay_rules.specs.FixResults.{fix_added, fix_result, after_fix}
use Rattle.pay_rules.specs.State.{State, accepted_of}
use Rattle.pay_restore.specs.Words.{tap_account, fix_account, IsArchivedTap, IsArchivedFix}
use Rattle.pay_shard.specs.declared.asked.Asked.{Asked}
use Rattle.pay_shard.specs.declared.asked.Asked.TheVariants as asked
use Rattle.pay_shard.specs.declared.item.Item.{Item}
use Rattle.pay_shard.specs.Machine.{step_tap_result, step_fix_result, step, marked_step, item_step}
use Rattle.pay_shard.specs.State.{kept}
use Rattle.pay_close.specs.Close.{Books, new_books, Event, Answered, Closed, after, after_all, history}
use Rattle.pay_histories.specs.Restores.{IsCommand, AreCommands}
use Rattle.pay_histories.proofs.Growing.{number_total, new_if_added, one_longer, added_tap, added_fix, held}
use Rattle.pay_histories.proofs.Histories.{opened}

-- ---- a set

module _ {X : Type 0} (number : X → ℕ × ℕ) (Holds : X → Type 0) where
  -- it is so of each that stands in a set
  abbrev pub AreEach : ByNumber X → Type 0
  AreEach set = (n : ℕ × ℕ) (x : X) → get set n ≡ Some x → Holds x

  each_of_none : AreEach empty
  each_of_none n x e = absurd (none-some x (sym (get-empty number_cmp n) ∙ e))

  either : (b : Bool) (there : Option X) (x y : X) → Holds x → (there ≡ Some y → Holds y) → cond b (Some x) there ≡ Some y → Holds y
  either true there x y one others e = let same : x ≡ y = cc in subst Holds same one
  either false there x y one others e = others e

  each_of_more : (set : ByNumber X) (x : X) → Holds x → AreEach set → AreEach (insert set (number x) x)
  each_of_more set x one others n y e = either (eq_by_cmp number_cmp n (number x)) (get set n) x y one (others n y) (sym (get-insert number_total set (number x) x n) ∙ e)

-- what is added has room
room_if_added : {X : Type 0} (same : X → X → Bool) (most : ℕ) (x : X) (there : Option X) (count : ℕ) → judgement same most x there count ≡ Ok Added → count < most
room_if_added same most x None count e = by (nat_le most count) refl e
  where
    by : (b : Bool) → nat_le most count ≡ b → ◌≡◌ {A = Result Addition AdditionFault} (if b then Err Full else Ok Added) (Ok Added) → count < most
    by true full f = absurd (cc)
    by false room f = leb-false most count room
room_if_added same most x (Some there) count e = absurd (by (same there x) e)
  where
    by : (b : Bool) → ◌≡◌ {A = Result Addition AdditionFault} (if b then Ok Repeat else Err Conflict) (Ok Added) → ⊥
    by true f = absurd (cc)
    by false f = absurd (cc)

-- ---- an account

-- all that an account has accepted may be archived
pub record IsArchivable (editions : FareEditions) (accepted : Accepted) : Type 0 where
  pub each_tap : AreEach tap_number (IsArchivedTap editions) accepted.taps
  pub each_fix : AreEach fix_number (IsArchivedFix editions) accepted.fixes
  pub few_taps : len accepted.taps ≤ MOST_TAPS
  pub few_fixes : len accepted.fixes ≤ MOST_FIXES

nothing_is_archivable : (editions : FareEditions) → IsArchivable editions nothing
nothing_is_archivable editions = record {
  each_tap = each_of_none tap_number (IsArchivedTap editions);
  each_fix = each_of_none fix_number (IsArchivedFix editions);
  few_taps = omega (arith, len-empty number_cmp Tap);
  few_fixes = omega (arith, len-empty number_cmp Fix);
}

-- what is priced has its place
placed_tap : (editions : FareEditions) (accepted : Accepted) (tap : Tap) (is : Bool) (r : Result Addition AdditionFault) (priced : Priced) → (if is then tap_added editions accepted tap r else Err of_tap.UnknownPlace) ≡ Ok priced → is ≡ true
placed_tap editions accepted tap true r priced e = refl
placed_tap editions accepted tap false r priced e = absurd (cc)

placed_fix : (editions : FareEditions) (accepted : Accepted) (fix : Fix) (is : Bool) (r : Result Addition AdditionFault) (priced : Priced) → (if is then fix_added editions accepted fix r else Err of_fix.UnknownPlace) ≡ Ok priced → is ≡ true
placed_fix editions accepted fix true r priced e = refl
placed_fix editions accepted fix false r priced e = absurd (cc)

after_one_tap : (editions : FareEditions) (accepted : Accepted) (tap : Tap) (priced : Priced) → IsCommand (asked.Tap tap) → tap_result editions accepted tap ≡ Ok priced → IsArchivable editions accepted → IsArchivable editions (after_tap (Ok priced) accepted tap)
after_one_tap editions accepted tap priced is e before = by priced.again refl
  where
    by : (again : Bool) → priced.again ≡ again → IsArchivable editions (if again then accepted else with_tap accepted tap)
    by true repeat = before
    by false new =
        let known = is_known editions tap.place tap.kind in
        let added = added_tap editions accepted tap known (judged accepted.taps tap) priced e new in
        let none = new_if_added tap_number tap_account same_tap MOST_TAPS tap (get accepted.taps (tap_number tap)) (len accepted.taps) added in
        let room = room_if_added same_tap MOST_TAPS tap (get accepted.taps (tap_number tap)) (len accepted.taps) added in
        let one : IsArchivedTap editions tap = record { of_account = is.0; in_range = is.1; placed = placed_tap editions accepted tap known (judged accepted.taps tap) priced e } in
        record {
          each_tap = each_of_more tap_number (IsArchivedTap editions) accepted.taps tap one before.each_tap;
          each_fix = before.each_fix;
          few_taps = omega (arith, one_longer tap_number tap_account accepted.taps tap none, room);
          few_fixes = before.few_fixes;
        }

after_one_fix : (editions : FareEditions) (accepted : Accepted) (fix : Fix) (priced : Priced) → IsCommand (asked.Fix fix) → fix_result editions accepted fix ≡ Ok priced → IsArchivable editions accepted → IsArchivable editions (after_fix (Ok priced) accepted fix)
after_one_fix editions accepted fix priced is e before = by priced.again refl
  where
    by : (again : Bool) → priced.again ≡ again → IsArchivable editions (if again then accepted else with_fix accepted fix)
    by true repeat = before
    by false new =
        let known = is_known_fix editions fix.what in
        let added = added_fix editions accepted fix known (judged_fix accepted.fixes fix) priced e new in
        let none = new_if_added fix_number fix_account same_fix MOST_FIXES fix (get accepted.fixes (fix_number fix)) (len accepted.fixes) added in
        let room = room_if_added same_fix MOST_FIXES fix (get accepted.fixes (fix_number fix)) (len accepted.fixes) added in
        let one : IsArchivedFix editions fix = record { of_account = is.0; in_range = is.1; placed = placed_fix editions accepted fix known (judged_fix accepted.fixes fix) priced e } in
        record {
          each_tap = before.each_tap;
          each_fix = each_of_more fix_number (IsArchivedFix editions) accepted.fixes fix one before.each_fix;
          few_taps = before.few_taps;
          few_fixes = omega (arith, one_longer fix_number fix_account accepted.fixes fix none, room);
        }

-- ---- all accounts

-- of every account what it has accepted may be archived
abbrev pub AreArchivable : FareEditions → State → Type 0
AreArchivable editions state = (account : ℕ) → IsArchivable editions (accepted_of state account)

kept_archivable : (editions : FareEditions) (new : Bool) (state : State) (account : ℕ) (x : Accepted) → IsArchivable editions x → AreArchivable editions state → AreArchivable editions (kept new state account x)
kept_archivable editions false state account x one all q = all q
kept_archivable editions true state account x one all q = subst (IsArchivable editions) (sym (held state account x q)) (by (eq_by_cmp nat_cmp q account))
  where
    by : (b : Bool) → IsArchivable editions (cond b x (accepted_of state q))
    by true = one
    by false = all q

by_tap : (editions : FareEditions) (state : State) (tap : Tap) (r : Result Priced TapFault) → IsCommand (asked.Tap tap) → tap_result editions (accepted_of state tap.account) tap ≡ r → AreArchivable editions state
    → AreArchivable editions (step_tap_result state tap r).after
by_tap editions state tap (Err fault) is e all = all
by_tap editions state tap (Ok priced) is e all =
    kept_archivable editions (not priced.again) state tap.account (after_tap (Ok priced) (accepted_of state tap.account) tap)
    (after_one_tap editions (accepted_of state tap.account) tap priced is e (all tap.account)) all

by_fix : (editions : FareEditions) (state : State) (fix : Fix) (r : Result Priced FixFault) → IsCommand (asked.Fix fix) → fix_result editions (accepted_of state fix.account) fix ≡ r → AreArchivable editions state
    → AreArchivable editions (step_fix_result state fix r).after
by_fix editions state fix (Err fault) is e all = all
by_fix editions state fix (Ok priced) is e all =
    kept_archivable editions (not priced.again) state fix.account (after_fix (Ok priced) (accepted_of state fix.account) fix)
    (after_one_fix editions (accepted_of state fix.account) fix priced is e (all fix.account)) all

by_step : (editions : FareEditions) (state : State) (a : Asked) → IsCommand a → AreArchivable editions state → AreArchivable editions (step editions state a).after
by_step editions state (asked.Tap tap) is all = by_tap editions state tap (tap_result editions (accepted_of state tap.account) tap) is refl all
by_step editions state (asked.Fix fix) is all = by_fix editions state fix (fix_result editions (accepted_of state fix.account) fix) is refl all
by_step editions state (asked.Due account day) is all = all
by_step editions state (asked.Show account day) is all = all
by_step editions state (asked.Quotes day shard of) is all = all

by_item : (editions : FareEditions) (state : State) (item : Item) → IsCommand item.entry.command → AreArchivable editions state → AreArchivable editions (item_step editions state item).after
by_item editions state item is all = by item.refused_memory
  where
    by : (marked : Bool) → AreArchivable editions (marked_step marked editions state item.entry.command).after
    by true = all
    by false = by_step editions state item.entry.command is all

-- ---- a history

archivable_after : (editions : FareEditions) (books : Books) (events : List Event) → AreCommands events → AreArchivable editions books.state → AreArchivable editions (after_all editions books events).state
archivable_after editions books [] are all = all
archivable_after editions books (Answered item ∷ events) are all = archivable_after editions (after editions books (Answered item)) events are.1 (by_item editions books.state item are.0 all)
archivable_after editions books (Closed day ∷ events) are all = archivable_after editions (after editions books (Closed day)) events are all

pub always_archivable : (editions : FareEditions) (events : List Event) → AreCommands events → AreArchivable editions (history editions events).state
always_archivable editions events are = archivable_after editions new_books events are (λ account. subst (IsArchivable editions) (sym (opened account)) (nothing_is_archivable editions))
