use Rattle.std.proofs.Common.{◌≡◌, ℕ, ◌<◌, get_or}
use Rattle.pay_lanes.specs.Parts.{LaneParts}
use Rattle.pay_lanes.proofs.ending.are_in_order.Given as goal

abbrev pub invariant-loop-place : goal.invariant-loop-place
invariant-loop-place l = (k : ℕ) → k < l.place → (d : LaneParts) → (get_or l.lanes k d).number ≡ k
