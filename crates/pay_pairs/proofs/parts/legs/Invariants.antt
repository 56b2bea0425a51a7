use Rattle.std.proofs.Common.{◌≡◌, ◌++◌, drop}
use Rattle.pay_rules.specs.Legs.{legs}
use Rattle.pay_pairs.proofs.Waiting.{with_waiting}
use Rattle.pay_pairs.proofs.parts.legs.Given as goal

abbrev pub invariant-loop-tap : goal.invariant-loop-tap
invariant-loop-tap l =
    legs l.editions l.taps ≡ l.parts.items ++ legs l.editions (with_waiting l.waiting (drop l.tap-index l.taps))
