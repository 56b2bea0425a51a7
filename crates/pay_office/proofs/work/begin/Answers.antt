use denote.RattleType.{RattleType}
use denote.Exit.{yes, no}
use denote.Param.{param, copied}
use denote.Param.Send.{IsSend, sendable, param_send, arg_send}
use denote.Struct.Tuple.{TupleAt}
use mir.Syntax.{Sym}
use Rattle.std.proofs.Common.{[], ◌∷◌}
use Rattle.pay_lanes.specs.contracts.worker.Worker as worker
use Rattle.pay_lanes.proofs.Crossing.{Worker-send}
use Rattle.pay_office.specs.contracts.work.Stop as stop
use Rattle.pay_office.proofs.work.Stop.TheSendSync as told
use Rattle.pay_office.proofs.work.begin.Goals as goal

all_send : (ν : Sym) (A B C : RattleType) → IsSend A → IsSend B → IsSend C → IsSend (TupleAt ν (A ∷ B ∷ C ∷ []))
all_send ν A B C a b c = search sendable depth 8

pub spawn_with-requires-send-T : goal.spawn_with-requires-send-T
spawn_with-requires-send-T g c κs within = param_send _ _ (arg_send _ yes _ (Worker-send (param 0 g.row.F) g.F.Fares (param 1 g.row.G) g.G.Gate c.type_bounds.send-F c.type_bounds.send-G))

pub spawn_with-requires-send-F : goal.spawn_with-requires-send-F
spawn_with-requires-send-F g c κs within =
    param_send _ _
    (arg_send _ no _
    (all_send _ (copied 2 g.row.R) stop.the_row (worker.the_row (param 0 g.row.F) (param 1 g.row.G) g.F.Fares g.G.Gate) c.type_bounds.send-R told.the_send
    (Worker-send (param 0 g.row.F) g.F.Fares (param 1 g.row.G) g.G.Gate c.type_bounds.send-F c.type_bounds.send-G)))
