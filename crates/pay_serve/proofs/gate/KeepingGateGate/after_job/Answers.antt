use Rattle.std.proofs.Common.{false, sym, subst}
use Rattle.pay_serve.specs.KeepingGates.{GateParts, HoldsPassed}
use Rattle.pay_serve.proofs.GatesKept.{holds_more, holds_no_more, never_asked}
use Rattle.pay_serve.proofs.gate.KeepingGateGate.after_job.Goals as goal

pub returns-then-self-clause-passed : goal.returns-then-self-clause-passed
returns-then-self-clause-passed g c passed it =
    let K = g.K.Keeper in
    let gate : GateParts = record { held_first = K.holds c.self.inside.began.value; holds = K.holds c.self.inside.keeper; stuck = c.self.inside.stuck } in
    absurd (never_asked K.holds K.HasFailed K.IsSettled gate passed c.if-self.true (subst (λ v. HoldsPassed K.holds K.HasFailed K.IsSettled v passed false) (sym c.self.view_is) it))

pub returns-in-Ok-clause-passed : goal.returns-in-Ok-clause-passed
returns-in-Ok-clause-passed g c passed it =
    let K = g.K.Keeper in
    let gate : GateParts = record { held_first = K.holds c.self.inside.began.value; holds = K.holds c.self.inside.keeper; stuck = c.self.inside.stuck } in
    holds_more K.holds K.HasFailed K.IsSettled gate c.keep_first.new.keeper c.args.entry.now c.args.answer.now passed c.if-self.false
    (subst (λ v. HoldsPassed K.holds K.HasFailed K.IsSettled v passed false) (sym c.self.view_is) it) c.in-Ok.ensures.kept c.in-Ok.ensures.settled

pub returns-in-Err-clause-passed : goal.returns-in-Err-clause-passed
returns-in-Err-clause-passed g c passed it =
    let K = g.K.Keeper in
    let gate : GateParts = record { held_first = K.holds c.self.inside.began.value; holds = K.holds c.self.inside.keeper; stuck = c.self.inside.stuck } in
    holds_no_more K.holds K.HasFailed K.IsSettled gate c.keep_first.new.keeper c.args.entry.now c.args.answer.now passed c.if-self.false
    (subst (λ v. HoldsPassed K.holds K.HasFailed K.IsSettled v passed false) (sym c.self.view_is) it) c.in-Err.ensures.front c.in-Err.ensures.failed
