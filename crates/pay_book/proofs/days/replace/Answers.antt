use Rattle.pay_book.proofs.Replacing.{middle_stored, stored_still, stored_then, all_there, left_then, room_then, sums_then}
use Rattle.pay_book.proofs.days.replace.Goals as goal

pub take_all-requires-clause-held : goal.take_all-requires-clause-held
take_all-requires-clause-held c = middle_stored c.args.editions.now c.args.days.now c.requires.left c.args.old.now c.requires.right c.requires.sums

pub take_all-requires-clause-there : goal.take_all-requires-clause-there
take_all-requires-clause-there c = all_there c.args.editions.now c.stretches.ensures.there c.args.days.now c.requires.left c.args.old.now c.requires.right c.requires.sums

pub add_all-requires-clause-held : goal.add_all-requires-clause-held
add_all-requires-clause-held c = stored_still c.args.days.now c.take_all.new.days c.args.new.now c.take_all.ensures.held c.requires.held

pub add_all-requires-clause-fits : goal.add_all-requires-clause-fits
add_all-requires-clause-fits c =
    room_then c.args.editions.now c.fares_within.ensures c.day_prices.ensures.all c.take_all.new.days c.requires.left c.args.new.now c.requires.right
    (left_then c.args.editions.now c.stretches.ensures.others_left c.args.days.now c.take_all.new.days c.requires.left c.args.old.now c.requires.right c.requires.sums c.take_all.ensures.sums) c.requires.few

pub returns : goal.returns
returns c = λ left right are. record {
  held =
      stored_then c.args.editions.now c.args.days.now c.add_all.new.days left c.args.old.now c.args.new.now right are c.requires.held
      (λ day h. c.add_all.ensures.held day (c.take_all.ensures.held day h));
  sums =
      sums_then c.args.editions.now c.stretches.ensures.all_again c.take_all.new.days c.add_all.new.days left c.args.new.now right
      (left_then c.args.editions.now c.stretches.ensures.others_left c.args.days.now c.take_all.new.days left c.args.old.now right are c.take_all.ensures.sums) c.add_all.ensures.sums;
}
