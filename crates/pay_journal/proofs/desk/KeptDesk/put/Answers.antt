use Rattle.std.proofs.Common.{length, refl, sym, ap, ◌∙◌, subst}
use Rattle.pay_shard.specs.Words.{ShardParts, AreInPlace, AreBelow, IsHistory}
use Rattle.pay_journal.proofs.KeptDesks.{all_put, all_left}
use Rattle.pay_journal.proofs.desk.KeptDesk.put.Goals as goal

pub invariant_of-self : goal.invariant_of-self
invariant_of-self g c =
    let d = c.self.inside in
    let after = c.put_and_keep.new.desk in
    let is = c.shard.ensures.value in
    all_put g.K.Keeper.HasFailed g.K.Keeper.holds d.began.value d.keeper c.put_and_keep.new.keeper d.first.value d.seen.value d.desk after d.stuck c.self.invariant c.if-self.false
    c.fronts.ensures.replayed c.accepted_alone.ensures.after c.in-Ok.ticket c.args.command c.of.result.value c.in-Ok.ensures.put (c.of.ensures ∙ c.shard-in-Ok.ensures.value)
    (ap (λ (s : ShardParts). s.number) (sym is) ∙ c.shard.ensures.number) (subst (λ (s : ShardParts). AreInPlace 0 s.journal) is c.shard.ensures.in_place)
    (subst (λ (s : ShardParts). IsHistory s.editions s.base s.journal) is (subst (IsHistory c.shard.result.now.editions c.shard.result.now.base) c.journal.ensures.value c.journal.ensures.history))
    (subst (λ (s : ShardParts). AreBelow (length s.journal) after.waiting) is c.shard.ensures.below)

pub invariant_of-self-in-Err : goal.invariant_of-self-in-Err
invariant_of-self-in-Err g c =
    let d = c.self.inside in
    all_left g.K.Keeper.HasFailed g.K.Keeper.holds d.began.value d.keeper c.put_and_keep.new.keeper d.first.value d.seen.value d.desk c.put_and_keep.new.desk d.stuck c.self.invariant c.if-self.false
    c.in-Err.fault c.args.command c.is_not_kept-self-inside.result c.in-Err.ensures.not_put c.is_not_kept-self-inside.ensures

pub returns-in-Ok-clause-settled : goal.returns-in-Ok-clause-settled
returns-in-Ok-clause-settled g c = λ quotes. (c.put_and_keep.new.keeper, c.in-Ok.ensures.settled quotes, refl)
