use Rattle.std.proofs.Common.{◌≡◌, ◌≤◌, ◌-◌, length, take}
use Rattle.pay_numbered.proofs.fronted_list.FrontedList.list.Given as goal

abbrev pub invariant-loop-items : goal.invariant-loop-items
invariant-loop-items g l = record {
  value : l.items.items ≡ take (length l.items.items) l.self;
  within : length l.items.items ≤ length l.self;
}

abbrev pub decreases-loop-items : goal.decreases-loop-items
decreases-loop-items g l = length l.self - length l.items.items
