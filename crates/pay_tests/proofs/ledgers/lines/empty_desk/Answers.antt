use Rattle.std.specs.List.{IsDistinct}
use Rattle.pay_tests.proofs.ledgers.lines.empty_desk.Goals as goal

-- no account has the number of another
pub new-requires-2-clause-distinct : goal.new-requires-2-clause-distinct
unfolding IsDistinct
new-requires-2-clause-distinct g c = rw c.new.ensures.items tt
