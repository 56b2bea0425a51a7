use Rattle.std.proofs.Common.{◌≡◌, ◌+◌, drop}
use Rattle.std.specs.List.{enumerate_from}
use Rattle.std.specs.String.{string_bytes}
use Rattle.pay_json.specs.Values.{all_joined}
use Rattle.pay_json.specs.Posted.{share_of, shares_joined}
use Rattle.pay_json.proofs.posted.shares_joined.Given as goal

abbrev pub invariant-loop-place : goal.invariant-loop-place
invariant-loop-place l = all_joined (share_of l.names) (string_bytes l.text) (enumerate_from (l.place + 1) (drop l.place l.amounts)) ≡ shares_joined l.names l.amounts
