-- Rows of taps and corrections, as they are taken into their accounts, and as they are read back.
use Rattle.std.proofs.Common.{◌≡◌, inl, inr, ℕ, ◌<◌, Bool, true, false, if◌then◌else◌, List, [], ◌∷◌, map, Option, Some, None, Result, Ok, Err, refl, sym, ap, ◌∙◌, subst}
use Rattle.std.specs.Prelude.{ℤ, pos}
use Rattle.std.specs.FinMap as finite
use Rattle.std.specs.List.{AllByRecursion}
use Rattle.std.proofs.lemmas.Bool.{and_from, le-leb}
use Rattle.pay_rules.specs.InTurn.{IsIn}
use Rattle.pay_rules.specs.Numbers.{set_after, judged as judged_by}
use Rattle.pay_rules.specs.declared.addition.Addition.{Addition}
use Rattle.pay_rules.specs.declared.addition.Addition.TheVariants.{Added, Repeat}
use Rattle.pay_rules.specs.declared.addition.AdditionFault.{AdditionFault}
use Rattle.pay_tables.specs.Words.{FareEditions}
use Rattle.pay_rules.specs.declared.limits.TheConstants.{MOST_TAPS, MOST_FIXES}
use Rattle.pay_rules.specs.declared.tap.Tap.{Tap}
use Rattle.pay_rules.specs.SameTap.{tap_from_same, tap_itself}
use Rattle.pay_rules.specs.Taps.{Taps, same_tap, judged, number as tap_number}
use Rattle.pay_rules.specs.declared.fix.Fix.{Fix}
use Rattle.pay_rules.specs.SameFix.{same_is_one, one_is_same}
use Rattle.pay_rules.specs.Fixes.{Fixes, same_fix, judged as judged_fix, number as fix_number}
use Rattle.pay_rules.specs.NamedDay.{day_named}
use Rattle.pay_rules.specs.declared.fares.TapFault.TheVariants as of_tap
use Rattle.pay_rules.specs.declared.fares.FixFault.{FixFault}
use Rattle.pay_rules.specs.declared.fares.FixFault.TheVariants as of_fix
use Rattle.pay_rules.specs.Accepted.{Accepted, with_tap, with_fix}
use Rattle.pay_rules.specs.TapPlaces.{is_known, is_known_fix}
use Rattle.pay_rules.specs.TapResults.{tap_added}
use Rattle.pay_rules.specs.FixResults.{fix_added, prices_on}
use Rattle.pay_rules.specs.State.{State, accepted_of}
use Rattle.pay_rows.specs.declared.row.TapRow.{TapRow}
use Rattle.pay_rows.specs.declared.row.FixRow.{FixRow}
use Rattle.pay_set_rows.specs.Ranged.{◌>>=◌}
use Rattle.pay_set_rows.specs.SetRows.{tap_row, fix_row, tap_from_row, fix_from_row}
use Rattle.pay_set_rows.specs.InRange.{IsTapInRange, IsFixInRange}
use Rattle.pay_restore.specs.Restored.{account_number, tap_of_row, fix_of_row, unless_refused, with_archived_tap, with_archived_fix, with_tap_row, with_tap_rows, with_fix_row, with_fix_rows}
use Rattle.pay_restore.specs.Archives.{tap_account, fix_account, tap_rows, fix_rows, IsAccount, IsArchivedTap, IsArchivedFix}
use Rattle.pay_restore.proofs.Sets.{Took, took, not_refused}
use Rattle.pay_restore.proofs.Taken.{TookAll, took_none, took_then, took_one, Fits, fits_on, room_for}

abbrev pub taps : Accepted → Taps
taps accepted = accepted.taps

abbrev pub fixes : Accepted → Fixes
fixes accepted = accepted.fixes

abbrev pub TapsTook : State → State → List Tap → Type 0
TapsTook = TookAll tap_account tap_number taps fixes

abbrev pub FixesTook : State → State → List Fix → Type 0
FixesTook = TookAll fix_account fix_number fixes taps

number_back : (n : ℕ) → IsAccount n → account_number (pos n) ≡ Some n
number_back n is = ap (λ (b : Bool). if b then Some n else None) (and_from _ _ (le-leb 1 n is.0) (le-leb n 4_294_967_295 is.1))

-- ---- a tap

-- what is accepted after a tap
abbrev after_tap_as : Accepted → Tap → Addition → Accepted
after_tap_as accepted tap r = record { taps = set_after tap_number (Ok r) accepted.taps tap; fixes = accepted.fixes }

tap_as : (editions : FareEditions) (accepted : Accepted) (tap : Tap) (r : Addition) → unless_refused (tap_added editions accepted tap (Ok r)) accepted (with_tap accepted tap) ≡ Some (after_tap_as accepted tap r)
tap_as editions accepted tap Added = refl
tap_as editions accepted tap Repeat = refl

-- it was judged so
tap_judged : (editions : FareEditions) (accepted after : Accepted) (tap : Tap) → with_archived_tap editions accepted tap ≡ Some after → (r : Addition) × (judged accepted.taps tap ≡ Ok r) × (after_tap_as accepted tap r ≡ after)
tap_judged editions accepted after tap e = by_place (is_known editions tap.place tap.kind) e
  where
    by_judged : (j : Result Addition AdditionFault) → judged accepted.taps tap ≡ j → unless_refused (tap_added editions accepted tap j) accepted (with_tap accepted tap) ≡ Some after → (r : Addition) × (judged accepted.taps tap ≡ Ok r) × (after_tap_as accepted tap r ≡ after)
    by_judged (Ok r) is f =
        let same : Some (after_tap_as accepted tap r) ≡ Some after = sym (tap_as editions accepted tap r) ∙ f in
        (r, is, cc)
    by_judged (Err fault) is f = absurd (cc)

    by_place : (b : Bool) → unless_refused (if b then tap_added editions accepted tap (judged accepted.taps tap) else Err of_tap.UnknownPlace) accepted (with_tap accepted tap) ≡ Some after → (r : Addition) × (judged accepted.taps tap ≡ Ok r) × (after_tap_as accepted tap r ≡ after)
    by_place true f = by_judged (judged accepted.taps tap) refl f
    by_place false f = absurd (cc)

tap_took : (editions : FareEditions) (state : State) (tap : Tap) (after : Accepted) → with_archived_tap editions (accepted_of state tap.account) tap ≡ Some after
    → Took tap_number (accepted_of state tap.account).taps after.taps tap × (after.fixes ≡ (accepted_of state tap.account).fixes)
tap_took editions state tap after e =
    let before = accepted_of state tap.account in
    let judged = tap_judged editions before after tap e in
    let one = took tap_number same_tap MOST_TAPS tap_from_same tap_itself before.taps tap judged.0 judged.1 in
    (subst (λ (a : Accepted). Took tap_number before.taps a.taps tap) judged.2 one, ap fixes (sym judged.2))

tap_row_took : (editions : FareEditions) (state next : State) (row : ℤ × TapRow) → with_tap_row editions state row ≡ Some next → (tap : Tap) × (tap_of_row row ≡ Some tap) × TapsTook state next (tap ∷ [])
tap_row_took editions state next row e = by_tap (tap_of_row row) refl e
  where
    by_after : (tap : Tap) (o : Option Accepted) → tap_of_row row ≡ Some tap → with_archived_tap editions (accepted_of state tap.account) tap ≡ o → (o >>= λ accepted. Some (finite.insert state tap.account accepted)) ≡ Some next
        → (tap : Tap) × (tap_of_row row ≡ Some tap) × TapsTook state next (tap ∷ [])
    by_after tap None read is f = absurd (cc)
    by_after tap (Some after) read is f =
        let one = tap_took editions state tap after is in
        let same : finite.insert state tap.account after ≡ next = cc in
        (tap, read, subst (λ s. TapsTook state s (tap ∷ [])) same (took_one tap_account tap_number taps fixes state after tap one.0 one.1))

    by_tap : (o : Option Tap) → tap_of_row row ≡ o → (o >>= λ tap. with_archived_tap editions (accepted_of state tap.account) tap >>= λ accepted. Some (finite.insert state tap.account accepted)) ≡ Some next
        → (tap : Tap) × (tap_of_row row ≡ Some tap) × TapsTook state next (tap ∷ [])
    by_tap None read f = absurd (cc)
    by_tap (Some tap) read f = by_after tap (with_archived_tap editions (accepted_of state tap.account) tap) read refl f

pub tap_rows_took : (editions : FareEditions) (state next : State) (rows : List (ℤ × TapRow)) → with_tap_rows editions state rows ≡ Some next → (list : List Tap) × (map tap_of_row rows ≡ map Some list) × TapsTook state next list
tap_rows_took editions state next [] e =
    let same : state ≡ next = cc in
    ([], refl, subst (λ s. TapsTook state s []) same (took_none tap_account tap_number taps fixes state))
tap_rows_took editions state next (row ∷ rows) e = by_first (with_tap_row editions state row) refl (λ mid f. tap_rows_took editions mid next rows f) e
  where
    by_first : (o : Option State) → with_tap_row editions state row ≡ o → ((mid : State) → with_tap_rows editions mid rows ≡ Some next → (list : List Tap) × (map tap_of_row rows ≡ map Some list) × TapsTook mid next list)
        → (o >>= λ now. with_tap_rows editions now rows) ≡ Some next → (list : List Tap) × (map tap_of_row (row ∷ rows) ≡ map Some list) × TapsTook state next list
    by_first None is more f = absurd (cc)
    by_first (Some mid) is more f =
        let one = tap_row_took editions state mid row is in
        let rest = more mid f in
        (one.0 ∷ rest.0, (λ i. one.1 i ∷ rest.1 i), took_then tap_account tap_number taps fixes state mid next one.0 rest.0 one.2 rest.2)

-- one that fits is not refused
tap_fits : (editions : FareEditions) (accepted : Accepted) (tap : Tap) → is_known editions tap.place tap.kind ≡ true → ((y : Tap) → finite.get accepted.taps (tap_number tap) ≡ Some y → y ≡ tap) → finite.len accepted.taps < MOST_TAPS
    → (after : Accepted) × (with_archived_tap editions accepted tap ≡ Some after)
tap_fits editions accepted tap known own room =
    let judged = not_refused tap_number same_tap MOST_TAPS tap_from_same tap_itself accepted.taps tap own room in (
      after_tap_as accepted tap judged.0,
      ap (λ (b : Bool). unless_refused (if b then tap_added editions accepted tap (judged_by same_tap tap_number MOST_TAPS accepted.taps tap) else Err of_tap.UnknownPlace) accepted (with_tap accepted tap)) known
          ∙ ap (λ j. unless_refused (tap_added editions accepted tap j) accepted (with_tap accepted tap)) judged.1 ∙ tap_as editions accepted tap judged.0,
    )

-- the laws of another crate, taken as premises
abbrev pub TapsBack : Type 0
TapsBack = (tap : Tap) → IsTapInRange tap → tap_from_row tap.account (tap_row tap) ≡ Some tap

abbrev pub FixesBack : Type 0
FixesBack = (fix : Fix) → IsFixInRange fix → fix_from_row fix.account (fix_row fix) ≡ Some fix

pub tap_back : TapsBack → (editions : FareEditions) (tap : Tap) → IsArchivedTap editions tap → tap_of_row (pos tap.account, tap_row tap) ≡ Some tap
tap_back back editions tap is = ap (λ (o : Option ℕ). o >>= λ account. tap_from_row account (tap_row tap)) (number_back tap.account is.of_account) ∙ back tap is.in_range

abbrev TapsFit : State → List Tap → Type 0
TapsFit = Fits tap_account tap_number taps fixes MOST_TAPS

pub tap_rows_fit : TapsBack → (editions : FareEditions) (state : State) (list : List Tap) → AllByRecursion (IsArchivedTap editions) list
    → ((tap other : Tap) → IsIn list tap → IsIn list other → tap.account ≡ other.account → tap_number tap ≡ tap_number other → tap ≡ other) → TapsFit state list
    → (next : State) × (with_tap_rows editions state (tap_rows list) ≡ Some next)
tap_rows_fit back editions state [] all apart fits = (state, refl)
tap_rows_fit back editions state (tap ∷ list) all apart fits =
    let accepted = accepted_of state tap.account in
    let taken = tap_fits editions accepted tap all.0.placed (λ y e. fits.own_numbers tap (inl refl) y e) (room_for tap_account tap_number taps fixes MOST_TAPS state tap list fits) in
    let one = tap_took editions state tap taken.0 taken.1 in
    let mid : State = finite.insert state tap.account taken.0 in
    let rest = tap_rows_fit back editions mid list all.1 (λ x y i j. apart x y (inr i) (inr j)) (fits_on tap_account tap_number taps fixes MOST_TAPS state taken.0 tap list apart one.0 one.1 fits) in
    let read : tap_of_row (pos tap.account, tap_row tap) ≡ Some tap = tap_back back editions tap all.0 in
    let first : with_tap_row editions state (pos tap.account, tap_row tap) ≡ Some mid =
    ap (λ (o : Option Tap). o >>= λ t. with_archived_tap editions (accepted_of state t.account) t >>= λ a. Some (finite.insert state t.account a)) read
    ∙ ap (λ (o : Option Accepted). o >>= λ a. Some (finite.insert state tap.account a)) taken.1 in
    (rest.0, ap (λ (o : Option State). o >>= λ now. with_tap_rows editions now (tap_rows list)) first ∙ rest.1)

-- ---- a correction

abbrev after_fix_as : Accepted → Fix → Addition → Accepted
after_fix_as accepted fix r = record { taps = accepted.taps; fixes = set_after fix_number (Ok r) accepted.fixes fix }

fix_as : (editions : FareEditions) (accepted : Accepted) (fix : Fix) (r : Addition) → unless_refused (fix_added editions accepted fix (Ok r)) accepted (with_fix accepted fix) ≡ Some (after_fix_as accepted fix r)
fix_as editions accepted fix Added = on (day_named (with_fix accepted fix).taps (with_fix accepted fix).fixes fix.what)
  where
    on : (day : Option ℕ) → unless_refused {E = FixFault} (Ok (prices_on editions (with_fix accepted fix) false day)) accepted (with_fix accepted fix) ≡ Some (with_fix accepted fix)
    on None = refl
    on (Some day) = refl
fix_as editions accepted fix Repeat = on (day_named accepted.taps accepted.fixes fix.what)
  where
    on : (day : Option ℕ) → unless_refused {E = FixFault} (Ok (prices_on editions accepted true day)) accepted (with_fix accepted fix) ≡ Some accepted
    on None = refl
    on (Some day) = refl

fix_judged_so : (editions : FareEditions) (accepted after : Accepted) (fix : Fix) → with_archived_fix editions accepted fix ≡ Some after → (r : Addition) × (judged_fix accepted.fixes fix ≡ Ok r) × (after_fix_as accepted fix r ≡ after)
fix_judged_so editions accepted after fix e = by_place (is_known_fix editions fix.what) e
  where
    by_judged : (j : Result Addition AdditionFault) → judged_fix accepted.fixes fix ≡ j → unless_refused (fix_added editions accepted fix j) accepted (with_fix accepted fix) ≡ Some after → (r : Addition) × (judged_fix accepted.fixes fix ≡ Ok r) × (after_fix_as accepted fix r ≡ after)
    by_judged (Ok r) is f =
        let same : Some (after_fix_as accepted fix r) ≡ Some after = sym (fix_as editions accepted fix r) ∙ f in
        (r, is, cc)
    by_judged (Err fault) is f = absurd (cc)

    by_place : (b : Bool) → unless_refused (if b then fix_added editions accepted fix (judged_fix accepted.fixes fix) else Err of_fix.UnknownPlace) accepted (with_fix accepted fix) ≡ Some after → (r : Addition) × (judged_fix accepted.fixes fix ≡ Ok r) × (after_fix_as accepted fix r ≡ after)
    by_place true f = by_judged (judged_fix accepted.fixes fix) refl f
    by_place false f = absurd (cc)

fix_took : (editions : FareEditions) (state : State) (fix : Fix) (after : Accepted) → with_archived_fix editions (accepted_of state fix.account) fix ≡ Some after
    → Took fix_number (accepted_of state fix.account).fixes after.fixes fix × (after.taps ≡ (accepted_of state fix.account).taps)
fix_took editions state fix after e =
    let before = accepted_of state fix.account in
    let judged = fix_judged_so editions before after fix e in
    let one = took fix_number same_fix MOST_FIXES same_is_one one_is_same before.fixes fix judged.0 judged.1 in
    (subst (λ (a : Accepted). Took fix_number before.fixes a.fixes fix) judged.2 one, ap taps (sym judged.2))

fix_row_took : (editions : FareEditions) (state next : State) (row : ℤ × FixRow) → with_fix_row editions state row ≡ Some next → (fix : Fix) × (fix_of_row row ≡ Some fix) × FixesTook state next (fix ∷ [])
fix_row_took editions state next row e = by_fix (fix_of_row row) refl e
  where
    by_after : (fix : Fix) (o : Option Accepted) → fix_of_row row ≡ Some fix → with_archived_fix editions (accepted_of state fix.account) fix ≡ o → (o >>= λ accepted. Some (finite.insert state fix.account accepted)) ≡ Some next
        → (fix : Fix) × (fix_of_row row ≡ Some fix) × FixesTook state next (fix ∷ [])
    by_after fix None read is f = absurd (cc)
    by_after fix (Some after) read is f =
        let one = fix_took editions state fix after is in
        let same : finite.insert state fix.account after ≡ next = cc in
        (fix, read, subst (λ s. FixesTook state s (fix ∷ [])) same (took_one fix_account fix_number fixes taps state after fix one.0 one.1))

    by_fix : (o : Option Fix) → fix_of_row row ≡ o → (o >>= λ fix. with_archived_fix editions (accepted_of state fix.account) fix >>= λ accepted. Some (finite.insert state fix.account accepted)) ≡ Some next
        → (fix : Fix) × (fix_of_row row ≡ Some fix) × FixesTook state next (fix ∷ [])
    by_fix None read f = absurd (cc)
    by_fix (Some fix) read f = by_after fix (with_archived_fix editions (accepted_of state fix.account) fix) read refl f

pub fix_rows_took : (editions : FareEditions) (state next : State) (rows : List (ℤ × FixRow)) → with_fix_rows editions state rows ≡ Some next → (list : List Fix) × (map fix_of_row rows ≡ map Some list) × FixesTook state next list
fix_rows_took editions state next [] e =
    let same : state ≡ next = cc in
    ([], refl, subst (λ s. FixesTook state s []) same (took_none fix_account fix_number fixes taps state))
fix_rows_took editions state next (row ∷ rows) e = by_first (with_fix_row editions state row) refl (λ mid f. fix_rows_took editions mid next rows f) e
  where
    by_first : (o : Option State) → with_fix_row editions state row ≡ o → ((mid : State) → with_fix_rows editions mid rows ≡ Some next → (list : List Fix) × (map fix_of_row rows ≡ map Some list) × FixesTook mid next list)
        → (o >>= λ now. with_fix_rows editions now rows) ≡ Some next → (list : List Fix) × (map fix_of_row (row ∷ rows) ≡ map Some list) × FixesTook state next list
    by_first None is more f = absurd (cc)
    by_first (Some mid) is more f =
        let one = fix_row_took editions state mid row is in
        let rest = more mid f in
        (one.0 ∷ rest.0, (λ i. one.1 i ∷ rest.1 i), took_then fix_account fix_number fixes taps state mid next one.0 rest.0 one.2 rest.2)

fix_fits : (editions : FareEditions) (accepted : Accepted) (fix : Fix) → is_known_fix editions fix.what ≡ true → ((y : Fix) → finite.get accepted.fixes (fix_number fix) ≡ Some y → y ≡ fix) → finite.len accepted.fixes < MOST_FIXES
    → (after : Accepted) × (with_archived_fix editions accepted fix ≡ Some after)
fix_fits editions accepted fix known own room =
    let judged = not_refused fix_number same_fix MOST_FIXES same_is_one one_is_same accepted.fixes fix own room in (
      after_fix_as accepted fix judged.0,
      ap (λ (b : Bool). unless_refused (if b then fix_added editions accepted fix (judged_by same_fix fix_number MOST_FIXES accepted.fixes fix) else Err of_fix.UnknownPlace) accepted (with_fix accepted fix)) known
          ∙ ap (λ j. unless_refused (fix_added editions accepted fix j) accepted (with_fix accepted fix)) judged.1 ∙ fix_as editions accepted fix judged.0,
    )

pub fix_back : FixesBack → (editions : FareEditions) (fix : Fix) → IsArchivedFix editions fix → fix_of_row (pos fix.account, fix_row fix) ≡ Some fix
fix_back back editions fix is = ap (λ (o : Option ℕ). o >>= λ account. fix_from_row account (fix_row fix)) (number_back fix.account is.of_account) ∙ back fix is.in_range

abbrev FixesFit : State → List Fix → Type 0
FixesFit = Fits fix_account fix_number fixes taps MOST_FIXES

pub fix_rows_fit : FixesBack → (editions : FareEditions) (state : State) (list : List Fix) → AllByRecursion (IsArchivedFix editions) list
    → ((fix other : Fix) → IsIn list fix → IsIn list other → fix.account ≡ other.account → fix_number fix ≡ fix_number other → fix ≡ other) → FixesFit state list
    → (next : State) × (with_fix_rows editions state (fix_rows list) ≡ Some next)
fix_rows_fit back editions state [] all apart fits = (state, refl)
fix_rows_fit back editions state (fix ∷ list) all apart fits =
    let accepted = accepted_of state fix.account in
    let taken = fix_fits editions accepted fix all.0.placed (λ y e. fits.own_numbers fix (inl refl) y e) (room_for fix_account fix_number fixes taps MOST_FIXES state fix list fits) in
    let one = fix_took editions state fix taken.0 taken.1 in
    let mid : State = finite.insert state fix.account taken.0 in
    let rest = fix_rows_fit back editions mid list all.1 (λ x y i j. apart x y (inr i) (inr j)) (fits_on fix_account fix_number fixes taps MOST_FIXES state taken.0 fix list apart one.0 one.1 fits) in
    let read : fix_of_row (pos fix.account, fix_row fix) ≡ Some fix = fix_back back editions fix all.0 in
    let first : with_fix_row editions state (pos fix.account, fix_row fix) ≡ Some mid =
    ap (λ (o : Option Fix). o >>= λ f. with_archived_fix editions (accepted_of state f.account) f >>= λ a. Some (finite.insert state f.account a)) read
    ∙ ap (λ (o : Option Accepted). o >>= λ a. Some (finite.insert state fix.account a)) taken.1 in
    (rest.0, ap (λ (o : Option State). o >>= λ now. with_fix_rows editions now (fix_rows list)) first ∙ rest.1)
