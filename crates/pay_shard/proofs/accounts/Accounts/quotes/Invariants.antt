use Rattle.std.proofs.Common.{◌≡◌, fold, drop}
use Rattle.pay_shard.specs.BatchParts.{batch, batch_with}
use Rattle.pay_shard.proofs.accounts.Accounts.quotes.Given as goal

-- what is left, put to what was reached, gives what all gives
abbrev pub invariant-loop-account : goal.invariant-loop-account
invariant-loop-account g l =
    fold (batch_with l.self.editions l.self.state (l.through, l.shard, l.of)) l.batch (drop l.account-index l.account-items) ≡ batch l.self.editions l.self.state l.through l.shard l.of
