use Rattle.std.proofs.Common.{length, sym, ap, ◌∙◌, subst}
use Rattle.pay_shard.specs.Words.{ShardParts, LocalParts, JournalMemory, AreInPlace, AreBelow, IsHistory, with_memory}
use Rattle.pay_journal.proofs.KeptDesks.{all_begun}
use Rattle.pay_journal.proofs.desk.KeptDesk.begin.Goals as goal

pub invariant_of-result : goal.invariant_of-result
invariant_of-result g c =
    let desk = c.args.desk in
    let is = c.shard.ensures.value in
    all_begun g.K.Keeper.HasFailed g.K.Keeper.holds desk c.forgetting.result c.of-3.result.value c.args.keeper c.of.result.value c.of-2.result.value c.forgetting.result.shard.memory
    (c.of.ensures ∙ c.shard-2.ensures.value) (c.of-2.ensures ∙ c.shard-3.ensures.value) c.of-3.ensures (c.forgetting.ensures ∙ ap (λ (m : JournalMemory). record { shard = with_memory desk.shard m; waiting = desk.waiting }) (ap (λ (d : LocalParts). d.shard.memory) (sym c.forgetting.ensures)))
    (ap (λ (s : ShardParts). s.number) (sym is) ∙ c.shard.ensures.number) (subst (λ (s : ShardParts). AreInPlace 0 s.journal) is c.shard.ensures.in_place)
    (subst (λ (s : ShardParts). IsHistory s.editions s.base s.journal) is (subst (IsHistory c.shard.result.now.editions c.shard.result.now.base) c.journal.ensures.value c.journal.ensures.history))
    (subst (λ (s : ShardParts). AreBelow (length s.journal) desk.waiting) is c.shard.ensures.below)
