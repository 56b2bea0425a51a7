use Rattle.std.proofs.lemmas.Result.{IfOk-weaker}
use Rattle.pay_shard.specs.ShardParts.{state_now}
use Rattle.pay_audit.proofs.Accounts.{none_differs, agrees_not, agree_before}
use Rattle.pay_audit.proofs.beside.first_difference.Goals as goal

pub returns-clause-agree : goal.returns-clause-agree
returns-clause-agree g c clean =
    IfOk-weaker c.next_difference.result _ _ (λ found told ledger k. none_differs c.args.shard.now.editions (state_now c.args.shard.now) ledger found (told ledger k)) (c.next_difference.ensures.agree clean)

pub returns-clause-agree_not : goal.returns-clause-agree_not
returns-clause-agree_not g c clean =
    IfOk-weaker c.next_difference.result _ _ (λ found differs ledger k. agrees_not c.args.shard.now.editions (state_now c.args.shard.now) ledger found (differs ledger k)) (c.next_difference.ensures.differs clean)

pub returns-clause-first : goal.returns-clause-first
returns-clause-first g c clean =
    IfOk-weaker c.next_difference.result _ _ (λ found first ledger k. agree_before c.args.shard.now.editions (state_now c.args.shard.now) ledger found (first ledger k)) (c.next_difference.ensures.first clean)
