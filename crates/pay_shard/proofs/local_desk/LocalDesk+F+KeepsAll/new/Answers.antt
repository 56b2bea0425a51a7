use Rattle.std.proofs.Common.{ap}
use Rattle.pay_shard.specs.JournalParts.{JournalMemory}
use Rattle.pay_shard.proofs.LocalDesks.{local_new}
use Rattle.pay_shard.proofs.local_desk.LocalDesk+F+KeepsAll.new.Goals as goal

pub invariant_of-result : goal.invariant_of-result
invariant_of-result g c = local_new c.in_ok-shard.shard c.new-2.result.items c.in_ok-shard.ensures.number (ap (λ (m : JournalMemory). m.forgotten) c.in_ok-shard.ensures.memory) c.in_ok-shard.ensures.journal c.new-2.ensures.items
