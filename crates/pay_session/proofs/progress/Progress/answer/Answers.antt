use Rattle.pay_session.proofs.SessionSteps.{Ran_one}
use Rattle.pay_session.proofs.progress.Progress.answer.Goals as goal

pub returns-in-Ok-clause-ran : goal.returns-in-Ok-clause-ran
returns-in-Ok-clause-ran g c = Ran_one _ _ _ _ _ c.answer-reply.ensures

pub returns-clause-ran : goal.returns-clause-ran
returns-clause-ran g c = Ran_one _ _ _ _ _ c.answer-reply.ensures
