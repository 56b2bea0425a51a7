use Rattle.std.proofs.Common.{◌≡◌, drop}
use Rattle.std.specs.String.{string_bytes}
use Rattle.pay_json.specs.Values.{all_joined}
use Rattle.pay_json.specs.Weeks.{credit_of, credits_joined}
use Rattle.pay_json.proofs.weeks.credits_joined.Given as goal

abbrev pub invariant-loop-credit : goal.invariant-loop-credit
invariant-loop-credit l = all_joined credit_of (string_bytes l.text) (drop l.credit-index l.credits) ≡ credits_joined l.credits
