use Rattle.std.proofs.Common.{◌≡◌, ◌++◌, List, length, map}
use Rattle.std.specs.Prelude.{option_map}
use Rattle.pay_front.specs.Closes.{PostedLine, close_in, posted_line}
use Rattle.pay_front.proofs.closes.add_postings.Given as goal

-- the postings of the lines so far stand after those that were there
abbrev pub invariant-loop-line : goal.invariant-loop-line
invariant-loop-line l = (done : List PostedLine) × (map posted_line l.all.items ≡ map posted_line l.fn.all.items ++ done) × (close_in l.reply ≡ option_map (λ more. done ++ more) (close_in l.ahead))

abbrev pub decreases-loop-line : goal.decreases-loop-line
decreases-loop-line l = length l.ahead
