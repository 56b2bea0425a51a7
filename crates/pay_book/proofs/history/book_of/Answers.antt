use Rattle.std.proofs.Common.{ap, map}
use Rattle.pay_rules.specs.Accepted.{Accepted}
use Rattle.pay_rules.specs.Changes.{after_all}
use Rattle.pay_book.specs.History.{change_of}
use Rattle.pay_book.proofs.history.book_of.Goals as goal

pub loop-one-init : goal.loop-one-init
loop-one-init c = record {
  account = c.new-book.ensures.numbered;
  held = c.new-book.ensures.any c.args.editions.now;
  accepted = ap (λ (accepted : Accepted). after_all c.args.editions.now accepted (map change_of c.args.sent.now)) c.new-book.ensures.nothing;
}
