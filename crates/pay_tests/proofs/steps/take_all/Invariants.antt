use Rattle.pay_book.specs.Stored.{IsConsistent}
use Rattle.pay_tests.proofs.steps.take_all.Given as goal

abbrev pub invariant-loop-asked : goal.invariant-loop-asked
invariant-loop-asked g l = IsConsistent l.editions l.book
