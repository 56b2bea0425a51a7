use Rattle.std.proofs.Common.{◌≡◌, ◌++◌, drop}
use Rattle.std.specs.List.{flat_map}
use Rattle.pay_jobs.specs.Rebuild.{line_of_tap}
use Rattle.pay_jobs.proofs.rebuild.put_taps.Given as goal

-- with the lines of the rest all are there
abbrev pub invariant-loop-tap : goal.invariant-loop-tap
invariant-loop-tap l = l.text.items ++ flat_map line_of_tap (drop l.tap-index l.taps) ≡ l.fn.text.items ++ flat_map line_of_tap l.taps
