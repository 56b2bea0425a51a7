use Rattle.std.proofs.Common.{ap, sym, ◌∙◌}
use Rattle.std.specs.FinMap as map
use Rattle.pay_rules.specs.Effective.{effective_of}
use Rattle.pay_fix.proofs.AmongFixes.{with_credit}
use Rattle.pay_fix.proofs.laws.credit_changes_no_tap.Goals as goal

pub returns : goal.returns
returns c = λ taps fixes fix credit none is.
    let among = c.one_more.ensures.among fixes fix none in
    ap (effective_of (map.values taps)) among.3 ∙ with_credit (map.values taps) among.0 fix among.1 credit is ∙ ap (effective_of (map.values taps)) (sym among.2)
