use Rattle.std.proofs.Common.{◌≡◌, ◌++◌, drop}
use Rattle.std.specs.String.{string_bytes}
use Rattle.std.specs.List.{flat_map}
use Rattle.pay_page.specs.Sums.{credit_row}
use Rattle.pay_page.proofs.sums.push_credits.Given as goal

abbrev pub invariant-loop-credit : goal.invariant-loop-credit
invariant-loop-credit l =
    string_bytes l.text ++ flat_map credit_row (drop l.credit-index l.credits) ≡ string_bytes l.fn.text ++ flat_map credit_row l.credits
