use Rattle.std.proofs.Common.{◌≢◌, ◌++◌, ◌∷◌, ap, sym, subst, ◌∙◌}
use Rattle.std.specs.List.{AllByRecursion}
use Rattle.std.specs.FinMap as map
use Rattle.pay_rules.specs.declared.limits.TheConstants.{MOST_TAPS}
use Rattle.pay_rules.specs.Taps.{number as tap_number}
use Rattle.pay_rules.specs.Fixes.{number, is_dropped}
use Rattle.pay_rules.specs.Effective.{effective_of}
use Rattle.pay_fix.proofs.AmongFixes.{with_void}
use Rattle.pay_fix.proofs.laws.void_takes_out.Goals as goal

pub returns : goal.returns
returns c = λ taps fixes tap void set no_tap none is standing.
    let of_taps = c.one_more.ensures.among taps tap no_tap in
    let of_fixes = c.one_more-2.ensures.among fixes void none in
    let others = subst (AllByRecursion (λ t. tap_number t ≢ tap_number tap)) of_taps.2 (c.numbers.ensures MOST_TAPS taps (tap_number tap) set no_tap) in
    ap (λ l. effective_of l (map.values (map.insert fixes (number void) void))) of_taps.3 ∙ ap (effective_of (of_taps.0 ++ tap ∷ of_taps.1)) of_fixes.3
    ∙ with_void of_taps.0 tap of_taps.1 of_fixes.0 void of_fixes.1 is (ap (λ l. is_dropped l (number void)) (sym of_fixes.2) ∙ standing) others
    ∙ ap (λ l. effective_of l (of_fixes.0 ++ of_fixes.1)) (sym of_taps.2) ∙ ap (effective_of (map.values taps)) (sym of_fixes.2)
