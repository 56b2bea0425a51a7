use Rattle.std.proofs.Common.{length, ap, arith}
use Rattle.std.proofs.lemmas.Result.{IfOk-weaker}
use Rattle.pay_rules.specs.RailJourneys.{journeys}
use Rattle.pay_explain.proofs.Counts.{few_rail}
use Rattle.pay_explain.proofs.journeys.rail_journeys.Goals as goal

pub returns-clause-no_more : goal.returns-clause-no_more
returns-clause-no_more c =
    let few = few_rail c.own.result.now _ _ c.in_ok-parts.ensures.described.each_tap in
    IfOk-weaker c.journeys.result _ _ (λ list e. omega (
      arith,
      ap length e,
      ap (λ p. length (journeys c.own.result.now p)) c.deref-2.ensures.value,
      few,
      ap length c.deref.ensures.value,
      ap length c.in_ok-rail.ensures,
    )) c.journeys.ensures.computed
