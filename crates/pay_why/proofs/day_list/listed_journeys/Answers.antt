use Rattle.pay_why.proofs.DayLists.{both_added}
use Rattle.pay_why.proofs.day_list.listed_journeys.Goals as goal

pub returns : goal.returns
returns c =
    both_added c.args.editions.now c.args.journeys.now c.args.boardings.now c.args.day c.new-list.result.items c.add_rail.new.list.items c.add_boardings.new.list.items c.sort_by_first_tap.new.list.items
    c.new-list.ensures.items c.in_ok-add_rail.ensures c.in_ok-add_boardings.ensures c.in_ok-sort_by_first_tap.ensures
