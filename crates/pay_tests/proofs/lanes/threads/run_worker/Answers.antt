use Rattle.pay_tests.proofs.lanes.threads.run_worker.Goals as goal

pub loop-preserved : goal.loop-preserved
loop-preserved g c = c.same_workers.ensures.then c.args.worker c.loop.worker c.is_done.new.worker c.loop.invariant c.is_done.ensures
