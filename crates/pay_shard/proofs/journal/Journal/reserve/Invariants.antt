use Rattle.std.proofs.Common.{◌≡◌, ◌≤◌, ◌-◌, ◌+◌, max}
use Rattle.pay_shard.specs.declared.limits.TheConstants.{BLOCK_ITEMS}
use Rattle.pay_shard.proofs.journal.Journal.reserve.Given as goal

abbrev pub invariant-loop-self : goal.invariant-loop-self
invariant-loop-self l = record {
  same_items : l.self.items ≡ l.fn.self.items;
  same_forgotten : l.self.memory.forgotten ≡ l.fn.self.memory.forgotten;
  no_less : l.fn.self.memory.room ≤ l.self.memory.room;
  most : l.self.memory.room ≤ max l.fn.self.memory.room (l.items + (BLOCK_ITEMS - 1));
  untouched : l.items ≤ l.fn.self.memory.room → l.self ≡ l.fn.self;
}

abbrev pub decreases-loop-self : goal.decreases-loop-self
decreases-loop-self l = l.items - l.self.memory.room
