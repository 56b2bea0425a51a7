use Rattle.std.proofs.Common.{refl, sym, ap, ◌∙◌, length, subst}
use Rattle.pay_shard.specs.Desks.{IsAfterAll, IsNoneOf, NothingIsLost}
use Rattle.pay_shard.specs.LocalParts.{LocalParts, commands_of, transcript_of, IsTaken}
use Rattle.pay_shard.specs.Machine.{is_memory}
use Rattle.pay_shard.specs.declared.item.Entry.{Entry}
use Rattle.pay_shard.specs.ShardParts.{ShardParts, IsKeptBy}
use Rattle.pay_shard.proofs.LocalDesks.{local_after_put, taken_by_put, answers_after_put, after_all, none_of}
use Rattle.pay_shard.proofs.local_desk.LocalDeskDesk.put.Goals as goal

pub invariant_of-self-2 : goal.invariant_of-self-2
invariant_of-self-2 g c =
    local_after_put c.self.inside.shard c.make_room.new.self c.apply.new.self (record { lane = 0; ticket = c.len-ticket.result; command = c.args.command }) (is_memory c.apply.result.reply)
    c.make_room.new.self.memory c.apply.new.self.memory c.make_room.ensures.same c.apply.ensures.journal
    g.M.Memory.forgets c.self.inside.kept.items c.reserve.new.self.items c.push_reserved.new.self.items c.apply.result (c.apply.ensures.kept g.M.Memory.forgets (subst (λ b. IsKeptBy b c.make_room.new.self) c.forgets.ensures (c.make_room.ensures.kept (subst (λ b. IsKeptBy b c.self.inside.shard) (sym c.forgets.ensures) c.self.invariant.0.1)))) c.self.invariant refl (c.len-ticket.ensures ∙ ap length c.journal.ensures.value) c.apply.ensures.answer c.reserve.ensures.items c.push_reserved.ensures.items

pub returns-clause-later : goal.returns-clause-later
returns-clause-later g c =
    let many = c.of.ensures ∙ c.len-ticket.ensures ∙ ap length c.journal.ensures.value ∙ ap (λ (s : ShardParts). length s.journal) c.make_room.ensures.same in
    subst (λ (d : LocalParts). IsAfterAll c.of.result (commands_of d.shard.journal)) c.self.view_is (after_all c.self.inside.shard.journal c.of.result c.self.invariant.0.2 many)

pub returns-clause-transcript : goal.returns-clause-transcript
returns-clause-transcript g c =
    subst (λ (d : LocalParts). NothingIsLost (transcript_of d.shard) (transcript_of c.apply.new.self)) c.self.view_is
    (answers_after_put c.self.inside.shard c.make_room.new.self c.apply.new.self (record { lane = 0; ticket = c.len-ticket.result; command = c.args.command }) (is_memory c.apply.result.reply)
    c.make_room.new.self.memory c.apply.new.self.memory c.make_room.ensures.same c.apply.ensures.journal)

pub returns-clause-fresh : goal.returns-clause-fresh
returns-clause-fresh g c =
    let many = c.of.ensures ∙ c.len-ticket.ensures ∙ ap length c.journal.ensures.value ∙ ap (λ (s : ShardParts). length s.journal) c.make_room.ensures.same in
    subst (λ (d : LocalParts). IsNoneOf c.of.result d.waiting) c.self.view_is (none_of c.self.inside.shard c.of.result c.self.inside.kept.items c.self.invariant.1.0 many)

pub returns-clause-item : goal.returns-clause-item
returns-clause-item g c =
    let its : Entry = record { lane = 0; ticket = c.len-ticket.result; command = c.args.command } in
    subst (λ (d : LocalParts). IsTaken c.of.result c.args.command d.shard c.apply.new.self) c.self.view_is
    (taken_by_put c.self.inside.shard c.make_room.new.self c.apply.new.self its (is_memory c.apply.result.reply)
    c.make_room.new.self.memory c.apply.new.self.memory c.make_room.ensures.same c.apply.ensures.journal refl (c.len-ticket.ensures ∙ ap length c.journal.ensures.value) c.of.result c.of.ensures)
