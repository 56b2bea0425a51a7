use Rattle.std.proofs.Common.{refl}
use Rattle.pay_book.proofs.Marking.{right_stays}
use Rattle.pay_book.proofs.Replacing.{sums_stay}
use Rattle.pay_book.proofs.marked_taps.MarkedTaps.open.Goals as goal

pub returns-clause-right : goal.returns-clause-right
returns-clause-right c = λ editions right.
    right_stays editions c.args.self.now _ (record { rail = refl; starts = refl; buses = refl; pays = refl }) (λ list are. sums_stay c.args.self.now.days c.open_all.new.days c.open_all.ensures.same c.open_all.ensures.held editions list are) right
