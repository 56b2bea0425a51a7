-- What a further Drop does.
use Rattle.std.proofs.Common.{◌≡◌, ◌≢◌, ℕ, Bool, true, false, not, ◌&&◌, ◌||◌, if◌then◌else◌, List, [], ◌∷◌, ◌++◌, Option, Some, None, refl, sym, ap, ◌∙◌, subst}
use Rattle.std.specs.List.{list_any, flat_map, AllByRecursion}
use Rattle.std.proofs.lemmas.Bool.{or_parts}
use Rattle.pay_rules.specs.declared.tap.Tap.{Tap}
use Rattle.pay_rules.specs.declared.tap.Touch.{Touch}
use Rattle.pay_rules.specs.Order.{touch_of}
use Rattle.pay_rules.specs.Taps.{number as tap_number}
use Rattle.pay_fix.specs.declared.change.Change.TheVariants.{Nothing, Enters}
use Rattle.pay_rules.specs.declared.fix.Fix.{Fix}
use Rattle.pay_rules.specs.declared.fix.What.TheVariants.{Void, Drop}
use Rattle.pay_rules.specs.Fixes.{number, is_number, is_drop, drops, is_dropped, stands}
use Rattle.pay_rules.specs.Effective.{voids, is_voided, fill_of, filled_by, filled}
use Rattle.pay_fix.specs.Changes.{enters_unless, is_voided_by_another}
use Rattle.pay_rules.specs.SameFix.{number_itself}
use Rattle.pay_fix.proofs.AmongFixes.{any_among, any_same, flat_among, flat_same, all_more, all_of, and_false, either, other_number}
use Rattle.pay_fix.proofs.ByNumber.{IsFound, StandsAlone}
use Rattle.pay_fix.proofs.OneMore.{HasOneMore, more_given, all_with}
use Rattle.pay_fix.proofs.OwnTouches.{touches_of}
use Rattle.pay_fix.proofs.Becomes.{Becomes, kept_by, same_touches, one_more_tap, one_more_fill, and_true, or_false, already}

-- ---- a further Drop

module _ (taps : List Tap) (low : List Fix) (drop : Fix) (high : List Fix) (named : ℕ × ℕ) (is : drop.what ≡ Drop named.0 named.1) where
  abbrev there : List Fix
  there = low ++ high

  abbrev grown : List Fix
  grown = low ++ drop ∷ high

  -- it drops what it names, and neither voids nor fills
  dropped_now : (n : ℕ × ℕ) → is_dropped grown n ≡ (is_number named n || is_dropped there n)
  dropped_now n = any_among (λ (fix : Fix). drops n fix.what) low drop high ∙ ap (λ w. drops n w || is_dropped there n) is

  voided_then : (n : ℕ × ℕ) → is_voided grown n ≡ list_any (λ (f : Fix). voids n f.what && stands grown f) there
  voided_then n = any_among (λ (f : Fix). voids n f.what && stands grown f) low drop high ∙ ap (λ w. (voids n w && stands grown drop) || list_any (λ (f : Fix). voids n f.what && stands grown f) there) is

  filled_then : filled grown ≡ flat_map (filled_by grown) there
  filled_then = flat_among (filled_by grown) low drop high (ap (λ w. if stands grown drop then fill_of (drop.staff, drop.seq) w else []) is ∙ either (stands grown drop))

  -- all others stand as before, and what it names only if that is a Drop
  other_stands : (f : Fix) → number f ≢ named → stands grown f ≡ stands there f
  other_stands f differs = ap (λ b. is_drop f.what || not b) (dropped_now (number f) ∙ ap (λ b. b || is_dropped there (number f)) (other_number named (number f) differs))

  named_stands : (f : Fix) → number f ≡ named → stands grown f ≡ is_drop f.what
  named_stands f own = ap (λ b. is_drop f.what || not b) (dropped_now (number f) ∙ ap (λ b. b || is_dropped there (number f)) (ap (is_number named) own ∙ number_itself named)) ∙ or_false (is_drop f.what)

  -- a correction voids and fills after the Drop as before it
  pub record IsAlike (f : Fix) : Type 0 where
    pub voids_alike : (n : ℕ × ℕ) → (voids n f.what && stands grown f) ≡ (voids n f.what && stands there f)
    pub fills_alike : filled_by grown f ≡ filled_by there f

  stands_alike_then : (f : Fix) → stands grown f ≡ stands there f → IsAlike f
  stands_alike_then f e = record {
    voids_alike = λ n. ap (λ b. voids n f.what && b) e;
    fills_alike = ap (λ b. if b then fill_of (f.staff, f.seq) f.what else []) e;
  }

  pub others_alike : (fixes : List Fix) → AllByRecursion (λ (f : Fix). number f ≢ named) fixes → AllByRecursion IsAlike fixes
  others_alike fixes others = all_more fixes (λ f differs. stands_alike_then f (other_stands f differs)) others

  pub all_alike : AllByRecursion IsAlike there → touches_of taps grown ≡ touches_of taps there
  all_alike alike =
      same_touches taps (kept_by grown) (kept_by there) (filled grown) (filled there)
      (all_of taps (λ t. ap not (voided_then (tap_number t) ∙ any_same (λ (f : Fix). voids (tap_number t) f.what && stands grown f) (λ (f : Fix). voids (tap_number t) f.what && stands there f) there (all_more there (λ f a. a.voids_alike (tap_number t)) alike))))
      (filled_then ∙ flat_same (filled_by grown) (filled_by there) there (all_more there (λ f a. a.fills_alike) alike))

  module _ (fix : Fix) (found : StandsAlone number there named fix) where
    abbrev others : List Fix
    others = found.low ++ found.high

    -- where what it names voids and fills as before, so do all
    alike_with : IsAlike fix → touches_of taps grown ≡ touches_of taps there
    alike_with alike = all_alike (subst (AllByRecursion IsAlike) (sym found.is) (all_with IsAlike found.low fix found.high alike (others_alike others found.others)))

    -- it does not stand, it is a Drop, a Credit, or a Fill
    pub of_no_standing : stands there fix ≡ false → touches_of taps grown ≡ touches_of taps there
    of_no_standing down = alike_with (stands_alike_then fix (named_stands fix found.own ∙ (or_parts (is_drop fix.what) (not (is_dropped there (number fix))) down).0 ∙ sym down))

    pub of_a_drop : is_drop fix.what ≡ true → touches_of taps grown ≡ touches_of taps there
    of_a_drop drops_too = alike_with (stands_alike_then fix (named_stands fix found.own ∙ drops_too ∙ sym (ap (λ b. b || not (is_dropped there (number fix))) drops_too)))

    no_void : ((n : ℕ × ℕ) → voids n fix.what ≡ false) → (n : ℕ × ℕ) → (voids n fix.what && stands grown fix) ≡ (voids n fix.what && stands there fix)
    no_void none n = ap (λ b. b && stands grown fix) (none n) ∙ sym (ap (λ b. b && stands there fix) (none n))

    no_fill : fill_of (fix.staff, fix.seq) fix.what ≡ [] → (fixes : List Fix) → filled_by fixes fix ≡ []
    no_fill none fixes = ap (λ l. if stands fixes fix then l else []) none ∙ either (stands fixes fix)

    pub of_a_credit : ((n : ℕ × ℕ) → voids n fix.what ≡ false) → fill_of (fix.staff, fix.seq) fix.what ≡ [] → touches_of taps grown ≡ touches_of taps there
    of_a_credit none nothing = alike_with (record { voids_alike = no_void none; fills_alike = no_fill nothing grown ∙ sym (no_fill nothing there) })

    pub of_a_fill : (touch : Touch) → is_drop fix.what ≡ false → ((n : ℕ × ℕ) → voids n fix.what ≡ false) → fill_of (fix.staff, fix.seq) fix.what ≡ touch ∷ [] → stands there fix ≡ true
        → HasOneMore touch (touches_of taps grown) (touches_of taps there)
    of_a_fill touch no_drop none one up =
        let voided = λ (n : ℕ × ℕ). voided_then n ∙ any_same (λ (f : Fix). voids n f.what && stands grown f) (λ (f : Fix). voids n f.what && stands there f) there
        (subst (AllByRecursion (λ (f : Fix). (voids n f.what && stands grown f) ≡ (voids n f.what && stands there f))) (sym found.is)
        (all_with (λ (f : Fix). (voids n f.what && stands grown f) ≡ (voids n f.what && stands there f)) found.low fix found.high (no_void none n) (all_more others (λ f a. a.voids_alike n) (others_alike others found.others)))) in
        let gone : filled_by grown fix ≡ [] = ap (λ b. if b then fill_of (fix.staff, fix.seq) fix.what else []) (named_stands fix found.own ∙ no_drop) in
        let was : filled_by there fix ≡ touch ∷ [] = ap (λ b. if b then fill_of (fix.staff, fix.seq) fix.what else []) up ∙ one in
        let given : HasOneMore touch (flat_map (filled_by grown) there) (filled there) =
        subst (λ l. HasOneMore touch (flat_map (filled_by grown) l) (flat_map (filled_by there) l)) (sym found.is)
        (more_given (filled_by grown) (filled_by there) found.low fix found.high touch (all_more others (λ f a. a.fills_alike) (others_alike others found.others)) gone was) in
        one_more_fill taps (kept_by grown) (kept_by there) touch (filled grown) (filled there)
        (all_of taps (λ t. ap not (voided (tap_number t))))
        (subst (λ l. HasOneMore touch l (filled there)) (sym filled_then) given)

    -- ---- a Void

    module _ (tap_named : ℕ × ℕ) (void : fix.what ≡ Void tap_named.0 tap_named.1) (up : stands there fix ≡ true) where
      -- whether another standing Void names a tap
      abbrev by_others : ℕ × ℕ → Bool
      by_others n = list_any (λ (f : Fix). voids n f.what && stands there f) others

      voided_before : (n : ℕ × ℕ) → is_voided there n ≡ (is_number tap_named n || by_others n)
      voided_before n =
          ap (list_any (λ (f : Fix). voids n f.what && stands there f)) found.is
          ∙ any_among (λ (f : Fix). voids n f.what && stands there f) found.low fix found.high
          ∙ ap (λ b. (voids n fix.what && b) || list_any (λ (f : Fix). voids n f.what && stands there f) others) up
          ∙ ap (λ b. b || list_any (λ (f : Fix). voids n f.what && stands there f) others) (and_true (voids n fix.what) ∙ ap (voids n) void)

      voided_after : (n : ℕ × ℕ) → is_voided grown n ≡ by_others n
      voided_after n =
          voided_then n
          ∙ ap (list_any (λ (f : Fix). voids n f.what && stands grown f)) found.is
          ∙ any_among (λ (f : Fix). voids n f.what && stands grown f) found.low fix found.high
          ∙ ap (λ b. (voids n fix.what && b) || list_any (λ (f : Fix). voids n f.what && stands grown f) others) (named_stands fix found.own ∙ ap is_drop void)
          ∙ ap (λ b. b || list_any (λ (f : Fix). voids n f.what && stands grown f) others) (and_false (voids n fix.what))
          ∙ any_same (λ (f : Fix). voids n f.what && stands grown f) (λ (f : Fix). voids n f.what && stands there f) others (all_more others (λ f a. a.voids_alike n) (others_alike others found.others))

      by_another : is_voided_by_another there (number fix) tap_named ≡ by_others tap_named
      by_another =
          ap (list_any (λ (f : Fix). not (is_number (number f) (number fix)) && voids tap_named f.what && stands there f)) found.is
          ∙ any_among (λ (f : Fix). not (is_number (number f) (number fix)) && voids tap_named f.what && stands there f) found.low fix found.high
          ∙ ap (λ b. (not b && voids tap_named fix.what && stands there fix) || list_any (λ (f : Fix). not (is_number (number f) (number fix)) && voids tap_named f.what && stands there f) others) (number_itself (number fix))
          ∙ any_same (λ (f : Fix). not (is_number (number f) (number fix)) && voids tap_named f.what && stands there f) (λ (f : Fix). voids tap_named f.what && stands there f) others
          (all_more others (λ f differs. ap (λ b. not b && voids tap_named f.what && stands there f) (other_number (number f) (number fix) (λ same. differs (sym same ∙ found.own)))) found.others)

      fills_too : filled grown ≡ filled there
      fills_too =
          filled_then ∙ flat_same (filled_by grown) (filled_by there) there
          (subst (AllByRecursion (λ (f : Fix). filled_by grown f ≡ filled_by there f)) (sym found.is)
          (all_with (λ (f : Fix). filled_by grown f ≡ filled_by there f) found.low fix found.high (no_fill (ap (fill_of (fix.staff, fix.seq)) void) grown ∙ sym (no_fill (ap (fill_of (fix.staff, fix.seq)) void) there)) (all_more others (λ f a. a.fills_alike) (others_alike others found.others))))

      pub of_a_void : (tap : Option Tap) → IsFound tap_number taps tap_named tap → Becomes (enters_unless (is_voided_by_another there (number fix) tap_named) tap) (touches_of taps there) (touches_of taps grown)
      of_a_void None other_taps =
          same_touches taps (kept_by grown) (kept_by there) (filled grown) (filled there)
          (all_more taps (λ t differs. ap not (voided_after (tap_number t) ∙ sym (voided_before (tap_number t) ∙ ap (λ b. b || by_others (tap_number t)) (other_number tap_named (tap_number t) differs)))) other_taps)
          fills_too
      of_a_void (Some tap) it =
          elim (is_voided_by_another there (number fix) tap_named) as (λ b. is_voided_by_another there (number fix) tap_named ≡ b → Becomes (if b then Nothing else Enters (touch_of tap)) (touches_of taps there) (touches_of taps grown)) [
            | true ↦ λ out.
                same_touches taps (kept_by grown) (kept_by there) (filled grown) (filled there)
                (all_of taps (λ t. ap not (voided_after (tap_number t) ∙ sym (voided_before (tap_number t) ∙ already tap_named (tap_number t) by_others (sym by_another ∙ out)))))
                fills_too
            | false ↦ λ free.
                one_more_tap taps it.low tap it.high (kept_by there) (kept_by grown) (filled there) (filled grown) it.is
                (all_more (it.low ++ it.high) (λ t differs. ap not (voided_before (tap_number t) ∙ ap (λ b. b || by_others (tap_number t)) (other_number tap_named (tap_number t) differs) ∙ sym (voided_after (tap_number t)))) it.others)
                (ap not (voided_before (tap_number tap) ∙ ap (λ b. b || by_others (tap_number tap)) (ap (is_number tap_named) it.own ∙ number_itself tap_named)))
                (ap not (voided_after (tap_number tap) ∙ ap by_others it.own ∙ sym by_another ∙ free))
                (sym fills_too)
          ] refl
