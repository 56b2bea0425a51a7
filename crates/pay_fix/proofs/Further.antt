-- What a further tap, and a further correction that is no Drop, does.
use Rattle.std.proofs.Common.{◌≡◌, ℕ, true, false, not, ◌&&◌, ◌||◌, if◌then◌else◌, List, [], ◌∷◌, ◌++◌, map, filter, Option, Some, None, refl, sym, ap, ◌∙◌, subst}
use Rattle.std.specs.List.{flat_map}
use Rattle.pay_rules.specs.declared.tap.Tap.{Tap}
use Rattle.pay_rules.specs.declared.tap.Touch.{Touch}
use Rattle.pay_rules.specs.Order.{touch_of}
use Rattle.pay_rules.specs.Taps.{number as tap_number}
use Rattle.pay_fix.specs.declared.change.Change.TheVariants.{Nothing, Enters, Leaves}
use Rattle.pay_rules.specs.declared.fix.Fix.{Fix}
use Rattle.pay_rules.specs.declared.fix.What.TheVariants.{Void}
use Rattle.pay_rules.specs.Fixes.{is_number, drops, stands}
use Rattle.pay_rules.specs.Effective.{voids, is_voided, fill_of, filled_by, filled}
use Rattle.pay_fix.specs.Changes.{leaves_unless}
use Rattle.pay_rules.specs.SameFix.{number_itself}
use Rattle.pay_fix.proofs.AmongFixes.{flat_among, flat_same, filter_among, all_more, all_of, and_false, other_number, stands_alike, voided_alike, filled_alike}
use Rattle.pay_fix.proofs.ByNumber.{IsFound}
use Rattle.pay_fix.proofs.OneMore.{HasOneMore, more_before, more_mapped, filter_with, given_with}
use Rattle.pay_fix.proofs.OwnTouches.{touches_of}
use Rattle.pay_fix.proofs.Becomes.{Becomes, kept_by, same_touches, one_more_tap, one_more_fill, and_true, already}

-- ---- a further tap

pub further_tap : (before : List Tap) (tap : Tap) (after : List Tap) (fixes : List Fix) → Becomes (if is_voided fixes (tap_number tap) then Nothing else Enters (touch_of tap)) (touches_of (before ++ after) fixes) (touches_of (before ++ tap ∷ after) fixes)
further_tap before tap after fixes =
    elim (is_voided fixes (tap_number tap)) as (λ b. is_voided fixes (tap_number tap) ≡ b → Becomes (if b then Nothing else Enters (touch_of tap)) (touches_of (before ++ after) fixes) (touches_of (before ++ tap ∷ after) fixes)) [
      | true ↦ λ out. ap (λ (l : List Tap). map touch_of l ++ filled fixes) (filter_among (kept_by fixes) before tap after (ap not out))
      | false ↦ λ there.
          more_before (filled fixes) (touch_of tap) (map touch_of (filter (kept_by fixes) (before ++ after))) (map touch_of (filter (kept_by fixes) (before ++ tap ∷ after)))
          (more_mapped touch_of tap (filter (kept_by fixes) (before ++ after)) (filter (kept_by fixes) (before ++ tap ∷ after)) (filter_with (kept_by fixes) before tap after (ap not there)))
    ] refl

-- ---- a further Void, Fill or Credit

module _ (taps : List Tap) (before : List Fix) (x : Fix) (after : List Fix) where
  abbrev rest : List Fix
  rest = before ++ after

  abbrev more : List Fix
  more = before ++ x ∷ after

  voided_now : (named n : ℕ × ℕ) → x.what ≡ Void named.0 named.1 → is_voided more n ≡ ((is_number named n && stands rest x) || is_voided rest n)
  voided_now named n is = voided_alike before x after (λ m. ap (drops m) is) n ∙ ap (λ w. (voids n w && stands rest x) || is_voided rest n) is

  fills_stay : (named : ℕ × ℕ) → x.what ≡ Void named.0 named.1 → filled more ≡ filled rest
  fills_stay named is = filled_alike before x after (λ m. ap (drops m) is) (ap (fill_of (x.staff, x.seq)) is)

  -- a Void that stands, of a tap that is not accepted, one that is out, and one that is effective
  standing_void : (named : ℕ × ℕ) (tap : Option Tap) → x.what ≡ Void named.0 named.1 → IsFound tap_number taps named tap → stands rest x ≡ true
      → Becomes (leaves_unless (is_voided rest named) tap) (touches_of taps rest) (touches_of taps more)
  standing_void named None is others up =
      same_touches taps (kept_by more) (kept_by rest) (filled more) (filled rest)
      (all_more taps (λ t differs. ap not (voided_now named (tap_number t) is ∙ ap (λ b. (b && stands rest x) || is_voided rest (tap_number t)) (other_number named (tap_number t) differs))) others)
      (fills_stay named is)
  standing_void named (Some tap) is there up =
      let out_now = λ (n : ℕ × ℕ). voided_now named n is ∙ ap (λ b. (is_number named n && b) || is_voided rest n) up ∙ ap (λ b. b || is_voided rest n) (and_true (is_number named n)) in
      elim (is_voided rest named) as (λ b. is_voided rest named ≡ b → Becomes (if b then Nothing else Leaves (touch_of tap)) (touches_of taps rest) (touches_of taps more)) [
        | true ↦ λ out. same_touches taps (kept_by more) (kept_by rest) (filled more) (filled rest) (all_of taps (λ t. ap not (out_now (tap_number t) ∙ already named (tap_number t) (is_voided rest) out))) (fills_stay named is)
        | false ↦ λ out.
            let here : is_voided rest (tap_number tap) ≡ false = ap (is_voided rest) there.own ∙ out in
            one_more_tap taps there.low tap there.high (kept_by more) (kept_by rest) (filled more) (filled rest) there.is
            (all_more (there.low ++ there.high) (λ t differs. ap not (out_now (tap_number t) ∙ ap (λ b. b || is_voided rest (tap_number t)) (other_number named (tap_number t) differs))) there.others)
            (ap not (out_now (tap_number tap) ∙ ap (λ b. b || is_voided rest (tap_number tap)) (ap (is_number named) there.own ∙ number_itself named)))
            (ap not here)
            (fills_stay named is)
      ] refl

  pub further_void : (named : ℕ × ℕ) (tap : Option Tap) → x.what ≡ Void named.0 named.1 → IsFound tap_number taps named tap
      → Becomes (if stands rest x then leaves_unless (is_voided rest named) tap else Nothing) (touches_of taps rest) (touches_of taps more)
  further_void named tap is found =
      elim (stands rest x) as (λ b. stands rest x ≡ b → Becomes (if b then leaves_unless (is_voided rest named) tap else Nothing) (touches_of taps rest) (touches_of taps more)) [
        | true ↦ λ up. standing_void named tap is found up
        | false ↦ λ down.
            same_touches taps (kept_by more) (kept_by rest) (filled more) (filled rest)
            (all_of taps (λ t. ap not (voided_now named (tap_number t) is ∙ ap (λ b. (is_number named (tap_number t) && b) || is_voided rest (tap_number t)) down ∙ ap (λ b. b || is_voided rest (tap_number t)) (and_false (is_number named (tap_number t))))))
            (fills_stay named is)
      ] refl

  -- what is neither Void nor Drop leaves the accepted taps alone
  kept_alike : ((n : ℕ × ℕ) → drops n x.what ≡ false) → ((n : ℕ × ℕ) → voids n x.what ≡ false) → (n : ℕ × ℕ) → is_voided more n ≡ is_voided rest n
  kept_alike no_drop no_void n = voided_alike before x after no_drop n ∙ ap (λ b. (b && stands rest x) || is_voided rest n) (no_void n)

  pub further_fill : (touch : Touch) → ((n : ℕ × ℕ) → drops n x.what ≡ false) → ((n : ℕ × ℕ) → voids n x.what ≡ false) → fill_of (x.staff, x.seq) x.what ≡ touch ∷ []
      → Becomes (if stands rest x then Enters touch else Nothing) (touches_of taps rest) (touches_of taps more)
  further_fill touch no_drop no_void fills =
      let same_fills : filled more ≡ flat_map (filled_by rest) more = flat_same (filled_by more) (filled_by rest) more (all_of more (λ f. ap (λ b. if b then fill_of (f.staff, f.seq) f.what else []) (stands_alike before x after no_drop f))) in
      elim (stands rest x) as (λ b. stands rest x ≡ b → Becomes (if b then Enters touch else Nothing) (touches_of taps rest) (touches_of taps more)) [
        | true ↦ λ up.
            one_more_fill taps (kept_by rest) (kept_by more) touch (filled rest) (filled more)
            (all_of taps (λ t. ap not (sym (kept_alike no_drop no_void (tap_number t)))))
            (subst (λ l. HasOneMore touch (filled rest) l) (sym same_fills)
            (given_with (filled_by rest) before x after touch (ap (λ b. if b then fill_of (x.staff, x.seq) x.what else []) up ∙ fills)))
        | false ↦ λ down.
            same_touches taps (kept_by more) (kept_by rest) (filled more) (filled rest)
            (all_of taps (λ t. ap not (kept_alike no_drop no_void (tap_number t))))
            (same_fills ∙ flat_among (filled_by rest) before x after (ap (λ b. if b then fill_of (x.staff, x.seq) x.what else []) down))
      ] refl

  pub further_credit : ((n : ℕ × ℕ) → drops n x.what ≡ false) → ((n : ℕ × ℕ) → voids n x.what ≡ false) → fill_of (x.staff, x.seq) x.what ≡ [] → touches_of taps more ≡ touches_of taps rest
  further_credit no_drop no_void none =
      same_touches taps (kept_by more) (kept_by rest) (filled more) (filled rest)
      (all_of taps (λ t. ap not (kept_alike no_drop no_void (tap_number t))))
      (filled_alike before x after no_drop none)
