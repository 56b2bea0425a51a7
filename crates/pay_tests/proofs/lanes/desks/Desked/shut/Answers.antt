use Rattle.std.proofs.Common.{sym, subst, ap, ◌∙◌, [], ◌∷◌, ◌++◌}
use Rattle.pay_lanes.specs.Words.{AreTogether}
use Rattle.pay_tests.proofs.Used.{all_stay}
use Rattle.pay_tests.proofs.lanes.desks.Desked.shut.Goals as goal

pub invariant_of-begun : goal.invariant_of-begun
invariant_of-begun g c =
    let lane = c.into_lane.result in
    subst (AreTogether c.self.inside.office)
    (sym (c.add_last.ensures ∙ ap (λ ls. ls ++ lane ∷ []) c.new-lanes.ensures.items))
    (c.still_together.ensures.in_order c.self.inside.office c.self.inside.office (c.self.inside.desk.began ∷ []) (lane ∷ []) c.self.invariant
    (all_stay c.same_workers.ensures.itself c.self.inside.office)
    (c.into_lane.ensures.same, tt))
