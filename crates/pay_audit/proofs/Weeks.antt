-- The weeks of what an account has accepted, by the lists of its sets.
use Rattle.std.proofs.Common.{◌≡◌, ◌↔◌, ◌++◌, ◌∙◌, ℕ, List, map, ap, ap₂, subst}
use Rattle.std.specs.List.{Contains, filter_map}
use Rattle.pay_day.specs.Words.{monday}
use Rattle.pay_rules.specs.declared.tap.Tap.{Tap}
use Rattle.pay_rules.specs.declared.fix.Fix.{Fix}
use Rattle.pay_rules.specs.Accepted.{Accepted}
use Rattle.pay_rules.specs.SetsParts.{SetsParts, sets}
use Rattle.pay_audit.specs.Settled.{day_of, weeks, IsWeekOf}

-- a list has the numbers of another, which is that of the weeks of all taps, and then of all corrections that have a day
pub just_these : (account : ℕ) (accepted : Accepted) (its : SetsParts) (taps : List Tap) (fixes : List Fix) (first all list : List ℕ) → its ≡ sets account accepted → taps ≡ its.taps → fixes ≡ its.fixes
    → first ≡ map (λ (tap : Tap). monday tap.stamp.day) taps → all ≡ first ++ map monday (filter_map (λ (fix : Fix). day_of fix.what) fixes)
    → ((number : ℕ) → Contains list number ↔ Contains all number) → (week : ℕ) → Contains list week ↔ IsWeekOf accepted week
just_these account accepted its taps fixes first all list is of_taps of_fixes firsts alls same week =
    let by_sets : all ≡ weeks its.taps its.fixes =
    alls ∙ ap (λ (l : List ℕ). l ++ map monday (filter_map (λ (fix : Fix). day_of fix.what) fixes)) firsts ∙ ap₂ weeks of_taps of_fixes in
    subst (λ (l : List ℕ). Contains list week ↔ Contains l week) (by_sets ∙ ap (λ (s : SetsParts). weeks s.taps s.fixes) is) (same week)
