use Rattle.pay_book.proofs.Written.{one_written}
use Rattle.pay_book.proofs.boardings.mark.Goals as goal

pub loop-index-preserved : goal.loop-index-preserved
loop-index-preserved c =
    one_written c.args.pays.now c.loop-index.pays c.args.place c.loop-index.index c.args.boardings.now c.index-boardings-index.result c.is_paying.result c.loop-index.invariant c.requires
    c.loop-index-test.true c.index-boardings-index.is c.is_paying.ensures
