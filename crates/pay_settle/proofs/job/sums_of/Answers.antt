use Rattle.std.proofs.Common.{rules, []}
use Rattle.pay_settle.specs.Ledgers.{postings_in}
use Rattle.pay_settle.specs.Settled.{IsWhyNotOne}
use Rattle.pay_settle.proofs.Adding.{by_fault}
use Rattle.pay_settle.proofs.OfLedgers.{next_add_up, next_refused, next_sums}
use Rattle.pay_settle.proofs.job.sums_of.Goals as goal

pub loop-ledger-preserved : goal.loop-ledger-preserved
loop-ledger-preserved c =
    let ledgers = c.args.ledgers.now in
    let k = c.loop-ledger.ledger-index in
    record {
      sums = next_sums ledgers k c.ledger-item.result c.loop-ledger-test.true c.ledger-item.is c.add_ledger.new.sums (c.in_ok-add_ledger.ensures.sums _ c.loop-ledger.invariant.sums);
      adds_up = next_add_up ledgers k c.ledger-item.result c.loop-ledger-test.true c.ledger-item.is c.loop-ledger.invariant.adds_up c.in_ok-add_ledger.ensures.adds_up;
    }

pub returns-in_err-add_ledger-clause-refused : goal.returns-in_err-add_ledger-clause-refused
returns-in_err-add_ledger-clause-refused c =
    let ledgers = c.args.ledgers.now in
    by_fault c.from_residual.result (IsWhyNotOne [] (postings_in ledgers)) c.in_err-add_ledger.field-0.0 (search rules)
    (next_refused ledgers c.loop-ledger.ledger-index c.ledger-item.result c.loop-ledger-test.true c.ledger-item.is c.in_err-add_ledger.field-0.0 (c.in_err-add_ledger.ensures.refused _ c.loop-ledger.invariant.sums))
