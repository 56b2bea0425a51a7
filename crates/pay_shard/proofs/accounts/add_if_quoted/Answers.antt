use Rattle.std.proofs.Common.{ap, sym, ◌∙◌}
use Rattle.std.proofs.lemmas.Result.{on_ok_weaker}
use Rattle.pay_shard.specs.Selection.{is_quoted}
use Rattle.pay_shard.proofs.Batches.{if_not, if_so}
use Rattle.pay_shard.proofs.accounts.add_if_quoted.Goals as goal

pub returns-then-not-is_quoted : goal.returns-then-not-is_quoted
returns-then-not-is_quoted g c =
    if_not c.args.editions.now c.args.through c.args.batch.now (g.F.Fares.account c.args.held.now) (g.F.Fares.accepted c.args.held.now)
    (sym (ap (is_quoted c.args.through) c.in_ok-sets.ensures) ∙ sym c.is_quoted.ensures ∙ c.if-not-is_quoted.true)

pub returns : goal.returns
returns g c =
    on_ok_weaker c.push.result (λ e. e ∙ if_so c.args.editions.now c.args.through c.args.batch.now (g.F.Fares.account c.args.held.now) (g.F.Fares.accepted c.args.held.now) c.in_ok-quote.quote c.in_ok-sets.sets (sym (ap (is_quoted c.args.through) c.in_ok-sets.ensures) ∙ sym c.is_quoted.ensures ∙ c.if-not-is_quoted.false) c.in_ok-quote.ensures c.in_ok-sets.ensures) c.push.ensures
