use Rattle.std.proofs.lemmas.Result.{IfOk-weaker}
use Rattle.pay_shard.specs.ShardParts.{state_now}
use Rattle.pay_audit.proofs.Accounts.{agree_after, agree_after_not}
use Rattle.pay_audit.proofs.beside.next_difference.Goals as goal

pub returns-clause-agree : goal.returns-clause-agree
returns-clause-agree g c clean =
    IfOk-weaker c.found_after.result _ _ (λ it same ledger k. agree_after c.args.shard.now.editions (state_now c.args.shard.now) ledger c.args.after it c.in_ok-found.found same (c.in_ok-found.ensures.told clean ledger k)) c.found_after.ensures.same

pub returns-clause-agree_not : goal.returns-clause-agree_not
returns-clause-agree_not g c clean =
    IfOk-weaker c.found_after.result _ _ (λ it same ledger k. agree_after_not c.args.shard.now.editions (state_now c.args.shard.now) ledger c.args.after it c.in_ok-found.found same (c.in_ok-found.ensures.finds clean ledger k)) c.found_after.ensures.same
