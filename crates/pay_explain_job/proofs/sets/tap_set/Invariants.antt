use Rattle.std.proofs.Common.{◌≡◌, take}
use Rattle.pay_rules.specs.Taps.{number}
use Rattle.pay_explain_job.specs.Numbered.{set_of}
use Rattle.pay_explain_job.proofs.sets.tap_set.Given as goal

-- those so far were added
abbrev pub invariant-loop-tap : goal.invariant-loop-tap
invariant-loop-tap l = l.set ≡ set_of number (take l.tap-index l.taps)
