use Rattle.std.proofs.Common.{◌≡◌, ◌≤◌, length}
use Rattle.farebox.proofs.serve.no_keepers.Given as goal

abbrev pub invariant-loop : goal.invariant-loop
invariant-loop l = (l.counter ≤ l.shards) × (length l.keepers.items ≡ l.counter)
