-- What an account has accepted is its own.
use Rattle.std.proofs.Common.{◌≡◌, ℕ, None, Result, Ok, Err, List, [], ◌∷◌, ◌++◌, length, map, ap, sym, ◌∙◌, subst, arith}
use Rattle.std.specs.FinMap as set_map
use Rattle.std.specs.List.{AllByRecursion}
use Rattle.pay_rules.specs.declared.addition.Addition.{Addition}
use Rattle.pay_rules.specs.declared.addition.Addition.TheVariants.{Added, Repeat}
use Rattle.pay_rules.specs.declared.addition.AdditionFault.{AdditionFault}
use Rattle.pay_rules.specs.Numbers.{ByNumber, number_cmp, set_after}
use Rattle.pay_rules.specs.declared.tap.Tap.{Tap}
use Rattle.pay_rules.specs.Taps.{Taps, number as tap_number}
use Rattle.pay_rules.specs.declared.fix.Fix.{Fix}
use Rattle.pay_rules.specs.Fixes.{Fixes, number as fix_number}
use Rattle.pay_rules.specs.SetsParts.{AreTapsOf, AreFixesOf, AreOwn}

and_one : {X : Type 0} (P : X → Type 0) (before after : List X) (x : X) → AllByRecursion P (before ++ after) → P x → AllByRecursion P (before ++ x ∷ after)
and_one P [] after x all is = (is, all)
and_one P (first ∷ before) after x all is = (all.0, and_one P before after x all.1 is)

-- one more somewhere among others
pub all_and_one : {X : Type 0} (P : X → Type 0) (set more : ByNumber X) (x : X) → ((before : List X) × (after : List X) × (set_map.values set ≡ before ++ after) × (set_map.values more ≡ before ++ x ∷ after)) → P x
    → AllByRecursion P (set_map.values set) → AllByRecursion P (set_map.values more)
all_and_one P set more x among is all = subst (AllByRecursion P) (sym among.3) (and_one P among.0 among.1 x (subst (AllByRecursion P) among.2 all) is)

none_of_none : {X Y : Type 0} (P : Y → Type 0) (f : X → Y) (list : List X) → length list ≡ 0 → AllByRecursion P (map f list)
none_of_none P f [] none = tt
none_of_none P f (x ∷ list) none = absurd (omega (arith, none))

-- where there is none, each is of the account
pub none_is_other : {X : Type 0} (P : X → Type 0) (set : ByNumber X) → set ≡ set_map.empty → AllByRecursion P (set_map.values set)
none_is_other {X} P set is =
    none_of_none P (λ (entry : (ℕ × ℕ) × X). entry.1) (set_map.entries set) (sym (set_map.len-entries set) ∙ ap (λ (those : ByNumber X). set_map.len those) is ∙ set_map.len-empty number_cmp X)

-- a tap of the account that is added
pub tap_is_own : (account : ℕ) (taps more : Taps) (fixes : Fixes) (tap : Tap)
    → (set_map.get taps (tap_number tap) ≡ None → (before : List Tap) × (after : List Tap) × (set_map.values taps ≡ before ++ after) × (set_map.values (set_map.insert taps (tap_number tap) tap) ≡ before ++ tap ∷ after))
    → set_map.get taps (tap_number tap) ≡ None → more ≡ set_map.insert taps (tap_number tap) tap → tap.account ≡ account → AreOwn account (record { taps = taps; fixes = fixes })
    → AreOwn account (record { taps = more; fixes = fixes })
tap_is_own account taps more fixes tap among none is own before = record {
  own_taps = subst (λ (those : Taps). AreTapsOf account (set_map.values those)) (sym is) (all_and_one (λ (t : Tap). t.account ≡ account) taps (set_map.insert taps (tap_number tap) tap) tap (among none) own before.own_taps);
  own_fixes = before.own_fixes;
}

-- and a correction
pub fix_is_own : (account : ℕ) (taps : Taps) (fixes more : Fixes) (fix : Fix)
    → (set_map.get fixes (fix_number fix) ≡ None → (before : List Fix) × (after : List Fix) × (set_map.values fixes ≡ before ++ after) × (set_map.values (set_map.insert fixes (fix_number fix) fix) ≡ before ++ fix ∷ after))
    → set_map.get fixes (fix_number fix) ≡ None → more ≡ set_map.insert fixes (fix_number fix) fix → fix.account ≡ account → AreOwn account (record { taps = taps; fixes = fixes })
    → AreOwn account (record { taps = taps; fixes = more })
fix_is_own account taps fixes more fix among none is own before = record {
  own_taps = before.own_taps;
  own_fixes = subst (λ (those : Fixes). AreFixesOf account (set_map.values those)) (sym is) (all_and_one (λ (f : Fix). f.account ≡ account) fixes (set_map.insert fixes (fix_number fix) fix) fix (among none) own before.own_fixes);
}

-- ---- whatever came of an addition

pub own_after_tap : (account : ℕ) (taps more : Taps) (fixes : Fixes) (tap : Tap) (result : Result Addition AdditionFault)
    → (set_map.get taps (tap_number tap) ≡ None → (before : List Tap) × (after : List Tap) × (set_map.values taps ≡ before ++ after) × (set_map.values (set_map.insert taps (tap_number tap) tap) ≡ before ++ tap ∷ after))
    → set_map.get taps (tap_number tap) ≡ None → more ≡ set_after tap_number result taps tap → tap.account ≡ account → AreOwn account (record { taps = taps; fixes = fixes })
    → AreOwn account (record { taps = more; fixes = fixes })
own_after_tap account taps more fixes tap (Ok Added) among none is own before = tap_is_own account taps more fixes tap among none is own before
own_after_tap account taps more fixes tap (Ok Repeat) among none is own before = subst (λ (those : Taps). AreOwn account (record { taps = those; fixes = fixes })) (sym is) before
own_after_tap account taps more fixes tap (Err fault) among none is own before = subst (λ (those : Taps). AreOwn account (record { taps = those; fixes = fixes })) (sym is) before

pub own_after_fix : (account : ℕ) (taps : Taps) (fixes more : Fixes) (fix : Fix) (result : Result Addition AdditionFault)
    → (set_map.get fixes (fix_number fix) ≡ None → (before : List Fix) × (after : List Fix) × (set_map.values fixes ≡ before ++ after) × (set_map.values (set_map.insert fixes (fix_number fix) fix) ≡ before ++ fix ∷ after))
    → set_map.get fixes (fix_number fix) ≡ None → more ≡ set_after fix_number result fixes fix → fix.account ≡ account → AreOwn account (record { taps = taps; fixes = fixes })
    → AreOwn account (record { taps = taps; fixes = more })
own_after_fix account taps fixes more fix (Ok Added) among none is own before = fix_is_own account taps fixes more fix among none is own before
own_after_fix account taps fixes more fix (Ok Repeat) among none is own before = subst (λ (those : Fixes). AreOwn account (record { taps = taps; fixes = those })) (sym is) before
own_after_fix account taps fixes more fix (Err fault) among none is own before = subst (λ (those : Fixes). AreOwn account (record { taps = taps; fixes = those })) (sym is) before
