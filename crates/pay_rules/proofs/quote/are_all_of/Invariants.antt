use Rattle.std.proofs.Common.{◌≡◌, ◌+◌, take}
use Rattle.std.specs.Prelude.{sum}
use Rattle.pay_rules.proofs.quote.are_all_of.Given as goal

-- what is left, and the shares so far
abbrev pub invariant-loop-share : goal.invariant-loop-share
invariant-loop-share l = l.left + sum (take l.share-index l.shares) ≡ l.fn.due
