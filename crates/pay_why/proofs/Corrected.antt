-- The reasons of corrections and taps: they say which stand and which count, and by which Drop or Void they do not.
use Rattle.std.proofs.Common.{◌≡◌, ℕ, zero, suc, ◌&&◌, ◌||◌, not, Bool, true, false, cond, if◌then◌else◌, List, [], ◌∷◌, ◌++◌, map, filter, slice_get, Option, Some, None, refl, ap, ap₂, sym, ◌∙◌}
use Rattle.std.specs.List.{list_any, find, flat_map}
use Rattle.std.specs.Option.{is_some}
use Rattle.std.specs.FinMap.{values}
use Rattle.pay_rules.specs.declared.tap.Tap.{Tap}
use Rattle.pay_rules.specs.declared.tap.Touch.{Touch}
use Rattle.pay_rules.specs.Taps.{Taps, number as tap_number}
use Rattle.pay_rules.specs.Order.{touch_of, in_order}
use Rattle.pay_rules.specs.declared.fix.Fix.{Fix}
use Rattle.pay_rules.specs.Fixes.{Fixes, number, is_drop, drops, is_dropped, stands}
use Rattle.pay_rules.specs.Effective.{voids, is_voided, not_voided, fill_of, filled_by, effective}
use Rattle.pay_why.specs.declared.correction.FixReason.TheVariants.{Stands, DroppedBy, NamesNothing}
use Rattle.pay_why.specs.declared.correction.TapReason.TheVariants.{Effective, VoidedBy}
use Rattle.pay_why.specs.Corrections.{drop_of, withdrawn_by, is_standing_void, void_of, names, reason_by, fix_reason, reason_by_void, tap_reason, stands_by_reason, effective_by_reason}
use Rattle.pay_why.specs.CorrectionLaws.{ReasonsAreStanding, ReasonsGiveEffective, DropsAreAccepted, VoidsAreStanding}

-- one passes a test where the first that does is found
one_or_rest : {X : Type 0} (b : Bool) (x : X) (any : Bool) (rest : Option X) → any ≡ is_some rest → (b || any) ≡ is_some (cond b (Some x) rest)
one_or_rest true x any rest e = refl
one_or_rest false x any rest e = e

any_is_found : {X : Type 0} (test : X → Bool) (list : List X) → list_any test list ≡ is_some (find test list)
any_is_found test [] = refl
any_is_found test (x ∷ list) = one_or_rest (test x) x (list_any test list) (find test list) (any_is_found test list)

-- what is found is there, and passes the test
found_there : {X : Type 0} (test : X → Bool) (list : List X) (x : X) → find test list ≡ Some x → (place : ℕ) × (slice_get list place ≡ Some x) × (test x ≡ true)
found_there test [] x e = absurd (cc)
found_there test (one ∷ list) x e = by_test test one list x (test one) refl e (found_there test list x)
  where
    by_test : {Y : Type 0} (test : Y → Bool) (one : Y) (list : List Y) (x : Y) (b : Bool) → test one ≡ b → cond b (Some one) (find test list) ≡ Some x
        → (find test list ≡ Some x → (place : ℕ) × (slice_get list place ≡ Some x) × (test x ≡ true))
        → (place : ℕ) × (slice_get (one ∷ list) place ≡ Some x) × (test x ≡ true)
    by_test test one list x true h e rest = (0, e, ap test (same x one (sym e)) ∙ h)
      where
        same : {Z : Type 0} (x one : Z) → Some x ≡ Some one → x ≡ one
        same x one f = cc
    by_test test one list x false h e rest = let later = rest e in (suc later.0, later.1, later.2)

-- ---- which corrections stand

standing_by : (drop : Bool) (found : Option Fix) (there : Bool) → stands_by_reason (reason_by (if drop then None else found) there) ≡ (drop || not (is_some found))
standing_by true found true = refl
standing_by true found false = refl
standing_by false None true = refl
standing_by false None false = refl
standing_by false (Some fix) there = refl

pub reasons_standing : ReasonsAreStanding
reasons_standing taps fixes fix =
    let accepted = values fixes in
    standing_by (is_drop fix.what) (drop_of accepted (number fix)) (names taps fixes fix.what)
    ∙ ap (λ (b : Bool). is_drop fix.what || not b) (sym (any_is_found (λ (other : Fix). drops (number fix) other.what) accepted))

-- ---- which taps count

counts_by : (found : Option Fix) → effective_by_reason (reason_by_void found) ≡ not (is_some found)
counts_by None = refl
counts_by (Some void) = refl

counts_alike : (fixes : Fixes) (tap : Tap) → effective_by_reason (tap_reason fixes tap) ≡ not (is_voided (values fixes) (tap_number tap))
counts_alike fixes tap =
    counts_by (void_of (values fixes) (tap_number tap)) ∙ ap not (sym (any_is_found (is_standing_void (values fixes) (tap_number tap)) (values fixes)))

same_filter : {X : Type 0} (p q : X → Bool) → ((x : X) → p x ≡ q x) → (list : List X) → filter p list ≡ filter q list
same_filter p q h [] = refl
same_filter {X} p q h (x ∷ list) =
    ap (λ (b : Bool). if b then x ∷ filter p list else filter p list) (h x) ∙ ap (λ (rest : List X). if q x then x ∷ rest else rest) (same_filter p q h list)

same_flat_map : {X Z : Type 0} (f g : X → List Z) → ((x : X) → f x ≡ g x) → (list : List X) → flat_map f list ≡ flat_map g list
same_flat_map f g h [] = refl
same_flat_map {X} {Z} f g h (x ∷ list) = ap₂ (λ (one rest : List Z). one ++ rest) (h x) (same_flat_map f g h list)

pub reasons_give_effective : ReasonsGiveEffective
reasons_give_effective taps fixes =
    ap in_order
    (ap₂ (λ (one other : List Touch). one ++ other)
    (ap (map touch_of)
    (sym (same_filter (λ (tap : Tap). effective_by_reason (tap_reason fixes tap)) (λ (tap : Tap). not (is_voided (values fixes) (tap_number tap))) (counts_alike fixes) (values taps))))
    (sym
    (same_flat_map (λ (fix : Fix). if stands_by_reason (fix_reason taps fixes fix) then fill_of (number fix) fix.what else []) (filled_by (values fixes))
    (λ fix. ap (λ (b : Bool). if b then fill_of (number fix) fix.what else []) (reasons_standing taps fixes fix)) (values fixes))))

-- ---- by which they do not

abbrev Names : Option Fix → ℕ → ℕ → Type 0
Names found staff seq = (fix : Fix) × (found ≡ Some fix) × (number fix ≡ (staff, seq))

dropped_by : (drop : Bool) (found : Option Fix) (there : Bool) (staff seq : ℕ) → reason_by (if drop then None else found) there ≡ DroppedBy staff seq → Names found staff seq
dropped_by true found true staff seq e = absurd (cc)
dropped_by true found false staff seq e = absurd (cc)
dropped_by false None true staff seq e = absurd (cc)
dropped_by false None false staff seq e = absurd (cc)
dropped_by false (Some fix) there staff seq e =
    let by : fix.staff ≡ staff = cc in
    let at : fix.seq ≡ seq = cc in
    (fix, refl, ap₂ (λ (n m : ℕ). (n, m)) by at)

pub drops_accepted : DropsAreAccepted
drops_accepted taps fixes fix staff seq e =
    let accepted = values fixes in
    let by = dropped_by (is_drop fix.what) (drop_of accepted (number fix)) (names taps fixes fix.what) staff seq e in
    let found = found_there (λ (other : Fix). drops (number fix) other.what) accepted by.0 by.1 in
    (found.0, by.0, found.1, by.2, found.2)

voided_by : (found : Option Fix) (staff seq : ℕ) → reason_by_void found ≡ VoidedBy staff seq → Names found staff seq
voided_by None staff seq e = absurd (cc)
voided_by (Some fix) staff seq e =
    let by : fix.staff ≡ staff = cc in
    let at : fix.seq ≡ seq = cc in
    (fix, refl, ap₂ (λ (n m : ℕ). (n, m)) by at)

both : (a b : Bool) → (a && b) ≡ true → (a ≡ true) × (b ≡ true)
both true b h = (refl, h)
both false b h = cc

pub voids_standing : VoidsAreStanding
voids_standing fixes tap staff seq e =
    let accepted = values fixes in
    let by = voided_by (void_of accepted (tap_number tap)) staff seq e in
    let found = found_there (is_standing_void accepted (tap_number tap)) accepted by.0 by.1 in
    let parts = both (voids (tap_number tap) by.0.what) (stands accepted by.0) found.2 in
    (found.0, by.0, found.1, by.2, parts.0, parts.1)
