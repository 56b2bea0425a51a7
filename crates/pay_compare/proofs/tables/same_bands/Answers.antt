use Rattle.pay_compare.proofs.SameBands.{are_one}
use Rattle.pay_compare.proofs.tables.same_bands.Goals as goal

pub returns-then-new-old : goal.returns-then-new-old
returns-then-new-old c = are_one c.args.new.now c.args.old.now c.if-new-old.true c.are_same.result c.are_same.ensures
