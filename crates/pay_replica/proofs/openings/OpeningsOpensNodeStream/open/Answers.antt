use Rattle.std.proofs.Common.{Result, Ok, Err}
use Rattle.std.specs.Prelude.{IfOk}
use Rattle.pay_replica.proofs.openings.OpeningsOpensNodeStream.open.Goals as goal

always : {T E : Type 0} (result : Result T E) (P : T → Type 0) → ((value : T) → P value) → IfOk result P
always (Ok value) P all = all value
always (Err fault) P all = tt

pub returns-clause-lines : goal.returns-clause-lines
returns-clause-lines g c = always c.open_partition.result _ (λ partition place line given. ((partition.sid, partition.sent), given))
