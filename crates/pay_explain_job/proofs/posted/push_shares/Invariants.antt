use Rattle.std.proofs.Common.{◌≡◌, ◌+◌, ◌++◌, drop}
use Rattle.std.specs.String.{string_bytes}
use Rattle.pay_explain_job.specs.PostedLines.{share_lines}
use Rattle.pay_explain_job.proofs.posted.push_shares.Given as goal

-- the lines so far, and those of the operators that are left, are all
abbrev pub invariant-loop-place : goal.invariant-loop-place
invariant-loop-place l = string_bytes l.text ++ share_lines l.names (l.place + 1) (drop l.place l.amounts) ≡ string_bytes l.fn.text ++ share_lines l.names 1 l.amounts
