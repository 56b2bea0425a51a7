use Rattle.std.proofs.Common.{◌≡◌, ◌++◌, map, take}
use Rattle.std.specs.Prelude.{codes, flat_map}
use Rattle.pay_front.specs.Closes.{PostedLine, posted_line}
use Rattle.pay_front.proofs.closes.push_lines.Given as goal

-- the lines of the postings so far were written
abbrev pub invariant-loop-posted : goal.invariant-loop-posted
invariant-loop-posted l = l.out.items ≡ l.fn.out.items ++ flat_map (λ (p : PostedLine). p.line ++ codes "\n") (map posted_line (take l.posted-index l.all))
