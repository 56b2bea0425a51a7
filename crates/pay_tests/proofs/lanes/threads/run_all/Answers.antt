use Rattle.std.proofs.Common.{[], ◌∷◌, ◌++◌, ap, ◌∙◌, subst}
use Rattle.pay_lanes.specs.Words.{IsSameLane}
use Rattle.pay_tests.proofs.Together.{gone_on}
use Rattle.pay_tests.proofs.lanes.threads.run_all.Goals as goal

pub end-requires : goal.end-requires
end-requires g c =
    c.still_together.ensures.any_order c.args.opened.workers.items c.add_last.new.list.items c.args.opened.lanes.items c.add_last-3.new.list.items c.requires
    (gone_on c.same_lanes.ensures.itself c.same_workers.ensures.itself
    c.take_last-worker.new.list.items c.args.opened.workers.items c.add_last.new.list.items c.take_last-worker.result c.run_worker-worker.result
    c.take_last-first.new.list.items c.take_last-second.new.list.items c.args.opened.lanes.items c.add_last-3.new.list.items
    c.take_last-first.result c.take_last-second.result c.join-first.result.0 c.join-second.result.0
    c.take_last-worker.ensures c.add_last.ensures c.take_last-second.ensures c.take_last-first.ensures
    (c.add_last-3.ensures ∙ ap (λ xs. xs ++ c.join-first.result.0 ∷ []) c.add_last-2.ensures)
    c.run_worker-worker.ensures
    (subst (λ l. IsSameLane l c.join-first.result.0) c.start_lane-first.ensures c.join-first.ensures)
    (subst (λ l. IsSameLane l c.join-second.result.0) c.start_lane-second.ensures c.join-second.ensures))
