use Rattle.std.proofs.Common.{◌∙◌, refl}
use Rattle.pay_kept.proofs.Alike.{none_outside, outside_by_rail, outside_on_buses}
use Rattle.pay_kept.proofs.Lists.{none_weaker, some_weaker}
use Rattle.pay_kept.proofs.other.outside_in.Goals as goal

pub returns-in-Some-clause-some : goal.returns-in-Some-clause-some
returns-in-Some-clause-some c = outside_by_rail c.args.old.now c.args.last c.args.book.now.accepted _ _ (c.by_rail.ensures ∙ c.requires.rail) refl _ c.in-Some.ensures.some

pub returns-in-None-clause-none : goal.returns-in-None-clause-none
returns-in-None-clause-none c =
    none_weaker c.first_outside-in-None.result (none_outside c.args.old.now c.args.last c.args.book.now.accepted _ _ (c.by_rail.ensures ∙ c.requires.rail) (c.on_buses.ensures ∙ c.requires.buses) c.in-None.ensures.none) c.first_outside-in-None.ensures.none

pub returns-in-None-clause-some : goal.returns-in-None-clause-some
returns-in-None-clause-some c =
    some_weaker c.first_outside-in-None.result (outside_on_buses c.args.old.now c.args.last c.args.book.now.accepted _ _ refl (c.on_buses.ensures ∙ c.requires.buses)) c.first_outside-in-None.ensures.some
