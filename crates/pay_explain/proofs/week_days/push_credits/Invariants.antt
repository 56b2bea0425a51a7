use Rattle.std.proofs.Common.{◌≡◌, ◌++◌, drop}
use Rattle.std.specs.List.{flat_map}
use Rattle.std.specs.String.{string_bytes}
use Rattle.pay_explain.specs.Week.{credit_text}
use Rattle.pay_explain.proofs.week_days.push_credits.Given as goal

abbrev pub invariant-loop-credit : goal.invariant-loop-credit
invariant-loop-credit l = string_bytes l.text ++ flat_map credit_text (drop l.credit-index l.credits) ≡ string_bytes l.fn.text ++ flat_map credit_text l.credits
