use Rattle.std.proofs.Common.{◌≡◌, ℕ, ◌-◌, ◌^◌, ◌<◌, ◌≤◌, ◌++◌, length, take, drop, map, get_or, vec_capacity}
use Rattle.pay_blocks.specs.Laid.{raised}
use Rattle.pay_blocks.proofs.later.raise_from.Given as goal

abbrev pub invariant-loop-place : goal.invariant-loop-place
invariant-loop-place g l = record {
  changed : take l.place l.blocks.items ++ map raised (drop l.place l.blocks.items) ≡ take l.fn.from l.fn.blocks.items ++ map raised (drop l.fn.from l.fn.blocks.items);
  fits : (k : ℕ) (d : _) → l.place ≤ k → k < length l.blocks.items → (get_or l.blocks.items k d).start < 2 ^ 64 - 1;
  many : length l.blocks.items ≡ length l.fn.blocks.items;
  capacity : vec_capacity l.blocks ≡ vec_capacity l.fn.blocks;
}
