use Rattle.pay_run.proofs.MarkedRequests.{nothing_kept, command_refused, close_refused, others_alike}
use Rattle.pay_run.proofs.laws.failures_change_nothing.Goals as goal

pub returns : goal.returns
returns c = record { kept = nothing_kept; command = command_refused; close = close_refused; others = others_alike }
