use Rattle.pay_rule_laws.proofs.InTurn.{forgets}
use Rattle.pay_rule_laws.proofs.sets.order_forgets_arrival.Goals as goal

pub returns : goal.returns
returns g c =
    let own = g.T.Numbered in
    let met = g.met.T.Numbered in
    λ most set list other alike are. forgets own.same met.same_is_one met.one_is_same own.number most set list other (λ x. (alike x).0) (λ x. (alike x).1) are
