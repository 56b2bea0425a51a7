use Rattle.std.proofs.Common.{◌≢◌, ap, sym, subst, ◌∙◌}
use Rattle.std.specs.List.{AllByRecursion}
use Rattle.std.specs.FinMap as map
use Rattle.pay_rules.specs.declared.limits.TheConstants.{MOST_FIXES}
use Rattle.pay_rules.specs.Fixes.{number}
use Rattle.pay_rules.specs.Effective.{effective_of}
use Rattle.pay_fix.proofs.AmongFixes.{with_drop}
use Rattle.pay_fix.proofs.laws.drop_restores.Goals as goal

pub returns : goal.returns
returns c = λ taps fixes void drop reader seq set none no_drop is names.
    let first = c.one_more.ensures.among fixes void none in
    let second = c.one_more.ensures.among (map.insert fixes (number void) void) drop no_drop in
    let others = subst (AllByRecursion (λ f. number f ≢ number void)) first.2 (c.numbers.ensures MOST_FIXES fixes (number void) set none) in
    ap (effective_of (map.values taps)) second.3
    ∙ with_drop (map.values taps) first.0 void first.1 second.0 drop second.1 reader seq is names (sym second.2 ∙ first.3) others
    ∙ ap (effective_of (map.values taps)) (sym first.2)
