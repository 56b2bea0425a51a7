use Rattle.std.proofs.Common.{rules, ap, ◌∙◌, vec_items}
use Rattle.pay_lanes.specs.Words.{began_of}
use Rattle.pay_office.proofs.Joined.{as_many, same_began, together_at_end, all_at_end, has_ended, have_let_pass}
use Rattle.pay_office.proofs.office.shut.Goals as goal

pub end-requires : goal.end-requires
end-requires g c = together_at_end c.args.office _ c.join_all.new.workers.items c.args.lanes.items c.put_in_order.new.lanes.items c.office.view_is c.requires c.join_all.ensures c.put_in_order.ensures.moved c.still_together.ensures.in_order

pub unreachable-requires : goal.unreachable-requires
unreachable-requires g c =
    c.in-Err.ensures.missing
    (all_at_end c.args.office _ c.join_all.new.workers.items c.args.lanes.items c.put_in_order.new.lanes.items c.office.view_is c.requires c.join_all.ensures c.put_in_order.ensures.moved
    c.same_workers.ensures.lanes c.office.inside.lanes c.office.invariant.0 (c.put_in_order.ensures.in_order (search rules)))

pub returns-clause-ended : goal.returns-clause-ended
returns-clause-ended g c =
    has_ended c.args.office _ c.join_all.new.workers.items c.args.lanes.items c.put_in_order.new.lanes.items c.office.view_is c.requires c.join_all.ensures c.put_in_order.ensures.moved
    _ _ c.in-Ok.ensures.journals (as_many vec_items c.in-Ok.ended.left.items ∙ c.in-Ok.ensures.many) c.in-Ok.ensures.sent c.in-Ok.ensures.known c.in-Ok.ensures.answered c.in-Ok.ensures.asked c.in-Ok.ensures.right c.office.invariant.3

pub returns-clause-gates : goal.returns-clause-gates
returns-clause-gates g c =
    have_let_pass c.args.office _ c.join_all.new.workers.items c.args.lanes.items c.put_in_order.new.lanes.items c.office.view_is c.requires c.join_all.ensures c.put_in_order.ensures.moved
    g.G.Gate.Holds _ c.in-Ok.ended.gates.items c.in-Ok.ensures.journals c.in-Ok.ensures.gates

pub returns-clause-began : goal.returns-clause-began
returns-clause-began g c = c.in-Ok.ensures.began ∙ (same_began _ c.join_all.new.workers.items c.join_all.ensures ∙ ap began_of c.office.view_is)
