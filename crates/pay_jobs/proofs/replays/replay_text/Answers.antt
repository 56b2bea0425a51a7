use Rattle.pay_jobs.proofs.replays.replay_text.Goals as goal

pub returns-in-Err-clause-stopped : goal.returns-in-Err-clause-stopped
returns-in-Err-clause-stopped c editions before has =
    let stopped = c.in-Err.ensures.stopped editions before has in
    (stopped.0, (c.in-Err.fault, c.fault_of.ensures, stopped.1))
