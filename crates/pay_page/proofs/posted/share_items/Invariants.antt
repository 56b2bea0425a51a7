use Rattle.std.proofs.Common.{◌≡◌, ◌+◌, ◌++◌, drop}
use Rattle.std.specs.String.{string_bytes}
use Rattle.pay_page.specs.Posted.{share_items}
use Rattle.pay_page.proofs.posted.share_items.Given as goal

-- the items so far, and those of the operators that are left, are all
abbrev pub invariant-loop-place : goal.invariant-loop-place
invariant-loop-place l = string_bytes l.text ++ share_items l.names (l.place + 1) (drop l.place l.amounts) ≡ share_items l.names 1 l.amounts
