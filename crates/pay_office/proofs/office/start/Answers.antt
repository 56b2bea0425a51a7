use Rattle.std.proofs.Common.{sym, ap, ◌∙◌, length, rules, arith}
use Rattle.std.specs.Arc.{arc_value}
use Rattle.pay_lanes.specs.Ends.{lanes_of}
use Rattle.pay_office.proofs.Joined.{as_many, lanes_begun, from_none}
use Rattle.pay_office.proofs.office.start.Goals as goal

pub invariant_of-office : goal.invariant_of-office
invariant_of-office g c =
    let begun = c.in_ok-workers-2.ensures.begun in
    let many = sym (as_many (λ w. w.promise.0.value) c.in_ok-workers-2.workers.items) ∙ ap length begun in
    let room = c.in_ok-room.ensures.exact in (
      sym (ap lanes_of begun
          ∙ lanes_begun (arc_value c.args.editions) c.args.shards c.args.lanes (length c.args.gates.items) _ (λ out. (search rules)) c.in_ok-workers.ensures.workers c.in_ok-workers.ensures.new_workers),
      c.in_ok-room.ensures.items,
      omega (arith, many, room),
      from_none (arc_value c.args.editions) c.args.lanes _ _ begun c.in_ok-workers.ensures.new_workers,
    )
