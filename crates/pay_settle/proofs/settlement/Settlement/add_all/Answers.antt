use Rattle.std.proofs.Common.{rules}
use Rattle.pay_settle.specs.Settled.{IsWhyNotOne}
use Rattle.pay_settle.proofs.Adding.{by_fault}
use Rattle.pay_settle.proofs.InTurn.{begin, next_sums, next_adds_up, next_refused}
use Rattle.pay_settle.proofs.settlement.Settlement.add_all.Goals as goal

pub loop-posting-init : goal.loop-posting-init
loop-posting-init c = record { sums = begin c.args.self.now; adds_up = tt }

pub loop-posting-preserved : goal.loop-posting-preserved
loop-posting-preserved c = record {
  sums = next_sums c.args.postings.now c.loop-posting.posting-index c.posting-item.result c.loop-posting-test.true c.posting-item.is c.args.self.now c.loop-posting.self c.add.new.self c.loop-posting.invariant.sums c.in_ok-add.ensures.sums;
  adds_up = next_adds_up c.args.postings.now c.loop-posting.posting-index c.posting-item.result c.loop-posting-test.true c.posting-item.is c.loop-posting.invariant.adds_up c.in_ok-add.ensures.adds_up;
}

pub returns-in_err-add-clause-refused : goal.returns-in_err-add-clause-refused
returns-in_err-add-clause-refused c list sums =
    by_fault c.from_residual.result (IsWhyNotOne list c.args.postings.now) c.in_err-add.field-0.0 (search rules)
    (next_refused list c.args.postings.now c.loop-posting.posting-index c.posting-item.result c.in_err-add.field-0.0 c.loop-posting-test.true c.posting-item.is (c.in_err-add.ensures.refused _ (c.loop-posting.invariant.sums list sums)))
