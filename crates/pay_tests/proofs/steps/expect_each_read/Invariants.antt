use Rattle.pay_book.specs.Stored.{IsConsistent}
use Rattle.pay_tests.proofs.steps.expect_each_read.Given as goal

abbrev pub invariant-loop-one : goal.invariant-loop-one
invariant-loop-one g l = IsConsistent l.editions l.book
