use Rattle.std.proofs.Common.{sym, ap, subst}
use Rattle.pay_rules.specs.InTurn.{IsIn}
use Rattle.pay_tables.specs.Words.{FareEditions}
use Rattle.pay_rules.specs.State.{State}
use Rattle.pay_shard.specs.Words.{Standing, IsReplyTo, commands_of, transcript_of}
use Rattle.pay_journal.specs.KeptParts.{KeptParts}
use Rattle.pay_journal.proofs.KeptDesks.{all_got, got_reply, if_got}
use Rattle.pay_journal.proofs.desk.KeptDeskDesk.get.Goals as goal

pub invariant_of-self : goal.invariant_of-self
invariant_of-self g c =
    let d = c.self.inside in
    all_got g.K.Keeper.HasFailed g.K.Keeper.holds d.began.value d.keeper d.first.value d.seen.value d.desk c.get.new.self d.stuck c.args.ticket c.self.invariant c.get.ensures.same
    (ap (λ (s : Standing (FareEditions × State)). s.waiting) c.get.ensures.got)

pub returns-clause-reply : goal.returns-clause-reply
returns-clause-reply g c =
    let d = c.self.inside in
    let waits = subst (λ (k : KeptParts). IsIn k.seen.waiting c.args.ticket) (sym c.self.view_is) c.requires in
    if_got (λ r. IsReplyTo c.args.ticket (commands_of c.get.new.self.shard.journal) (transcript_of c.get.new.self.shard) r) (λ r. IsReplyTo c.args.ticket (commands_of d.seen.value.journal) (transcript_of d.seen.value) r) c.get.result
    (λ r given. got_reply d.stuck d.seen.value d.desk c.get.new.self c.args.ticket c.self.invariant.seen c.get.ensures.same c.fronts.ensures.reply r c.self.invariant.own.in_place waits given) c.get.ensures.reply
