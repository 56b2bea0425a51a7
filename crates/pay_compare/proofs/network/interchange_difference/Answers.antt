use Rattle.std.proofs.Common.{subst}
use Rattle.std.specs.List.{All}
use Rattle.pay_tables.specs.declared.interchange.Interchange.{Interchange}
use Rattle.pay_compare.specs.Agreement.{KeepsInterchange}
use Rattle.pay_compare.proofs.Interchanges.{alike_everywhere}
use Rattle.pay_compare.proofs.network.interchange_difference.Goals as goal

pub returns-in_err-pair-in-None-clause-none : goal.returns-in_err-pair-in-None-clause-none
returns-in_err-pair-in-None-clause-none c _ =
    alike_everywhere c.args.new.now c.args.old.now
    (subst (All (λ (pair : Interchange). KeepsInterchange c.args.new.now c.args.old.now pair.a pair.b)) c.interchanges.ensures (c.difference_among.ensures.none c.in-None.is))
    (subst (All (λ (pair : Interchange). KeepsInterchange c.args.new.now c.args.old.now pair.a pair.b)) c.interchanges-in-None.ensures (c.difference_among-in-None.ensures.none c.in_err-pair-in-None.was))
