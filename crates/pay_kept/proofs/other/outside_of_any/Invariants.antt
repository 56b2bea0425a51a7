use Rattle.std.proofs.Common.{IfSome, take}
use Rattle.std.specs.List.{AllByRecursion}
use Rattle.pay_compare.specs.Laws.{AreTouchesWithin}
use Rattle.pay_rules.specs.State.{accepted_of}
use Rattle.pay_shard.specs.ShardParts.{state_now}
use Rattle.pay_kept.proofs.other.outside_of_any.Given as goal

abbrev pub invariant-loop-account : goal.invariant-loop-account
invariant-loop-account l =
    AllByRecursion (λ account. AreTouchesWithin l.old l.last (accepted_of (state_now l.shard) account)) (take l.account-index l.account-items)
    × IfSome l.before (λ account. AreTouchesWithin l.old l.last (accepted_of (state_now l.shard) account))
