use denote.Exit.{no}
use denote.Param.{copied, param}
use denote.Param.Send.{arg_send, param_send}
use Rattle.std.proofs.Common.{rules}
use Rattle.pay_journal.specs.Words.{CanFail}
use Rattle.pay_peers.proofs.Crossing.{Ready-send}
use Rattle.pay_serve_job.proofs.Stays.{within_staff, stay_cause}
use Rattle.pay_serve_job.proofs.staying.stay_at.Goals as goal

pub stay-requires-send-P : goal.stay-requires-send-P
stay-requires-send-P g c κs within = param_send _ _ (arg_send _ no _ (Ready-send (copied 0 g.row.R) (param 3 g.row.A) c.type_bounds.send-R c.type_bounds.send-A))

pub returns-in-Ok-clause-within : goal.returns-in-Ok-clause-within
returns-in-Ok-clause-within g c = within_staff c.args.given.plan c.in-Some.lanes (search rules) c.in-Ok.ensures.within

pub returns-clause-cause : goal.returns-clause-cause
returns-clause-cause g c =
    stay_cause (CanFail g.K.Keeper.HasFailed) c.args.given.plan c.in-Some.lanes c.in-Err.why c.fault_of-in-Err.result (search rules) c.in-Err.ensures.cause c.fault_of-in-Err.ensures
