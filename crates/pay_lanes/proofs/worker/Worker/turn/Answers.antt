use Rattle.std.proofs.Common.{◌≡◌, ◌≤◌, length, refl, sym, ap, ◌∙◌, subst, vec_capacity}
use Rattle.pay_shard.specs.Words.{IsKeptBy}
use Rattle.pay_lanes.specs.Turns.{HasDone, IsHeldUp}
use Rattle.pay_lanes.proofs.Gated.{still_gated, holds_all}
use Rattle.pay_lanes.proofs.Told.{with_other_memory}
use Rattle.pay_lanes.proofs.Turned.{told_none, rested, done, held_up}
use Rattle.pay_lanes.proofs.worker.Worker.turn.Goals as goal

pub returns-then-is_some-clause-held : goal.returns-then-is_some-clause-held
returns-then-is_some-clause-held g c _ =
    subst (λ v. ((record { shard = c.self.inside.shard; requests = c.self.inside.requests; lanes = c.offer_held.new.lanes.items; held = c.offer_held.new.held; shut = c.self.inside.shut; began = g.G.Gate.began c.self.inside.gate }) ≡ v) × IsHeldUp v) c.self.view_is
    (held_up (record { shard = c.self.inside.shard; requests = c.self.inside.requests; lanes = c.self.inside.lanes.items; held = c.self.inside.held; shut = c.self.inside.shut; began = g.G.Gate.began c.self.inside.gate }) c.offer_held.new.lanes.items c.offer_held.new.held (sym c.is_some.ensures ∙ c.if-is_some.true) c.offer_held.ensures.held)

pub invariant_of-self-then-is_err : goal.invariant_of-self-then-is_err
invariant_of-self-then-is_err g c = (
  rested (record { shard = c.self.inside.shard; requests = c.self.inside.requests; lanes = c.self.inside.lanes.items; held = c.self.inside.held; shut = c.self.inside.shut; began = g.G.Gate.began c.self.inside.gate }) c.make_room.new.self c.self.inside.requests c.offer_held.new.lanes.items c.offer_held.new.held c.make_room.new.self.memory
      c.self.invariant.0 c.make_room.ensures.same refl (c.offer_held.ensures.told c.self.inside.shard c.self.invariant.0.told) c.offer_held.ensures.mailboxes (sym c.is_some.ensures ∙ c.if-is_some.false),
  c.self.invariant.1,
  c.self.invariant.2,
  still_gated (g.G.Gate.Holds c.self.inside.gate) c.self.inside.shard c.make_room.new.self c.self.inside.shut c.self.inside.lanes.items c.offer_held.new.lanes.items c.make_room.new.self.memory c.make_room.ensures.same c.if-shut.false c.self.invariant.3,
  c.self.invariant.4,
  c.self.invariant.5,
  subst (λ b. IsKeptBy b c.make_room.new.self) c.forgets.ensures (c.make_room.ensures.kept (subst (λ b. IsKeptBy b c.self.inside.shard) (sym c.forgets.ensures) c.self.invariant.6)),
)

pub invariant_of-self-in_default : goal.invariant_of-self-in_default
invariant_of-self-in_default g c = (
  rested (record { shard = c.self.inside.shard; requests = c.self.inside.requests; lanes = c.self.inside.lanes.items; held = c.self.inside.held; shut = c.self.inside.shut; began = g.G.Gate.began c.self.inside.gate }) c.make_room.new.self c.receive.new.self c.offer_held.new.lanes.items c.offer_held.new.held c.make_room.new.self.memory
      c.self.invariant.0 c.make_room.ensures.same c.in_default.ensures.none (c.offer_held.ensures.told c.self.inside.shard c.self.invariant.0.told) c.offer_held.ensures.mailboxes (sym c.is_some.ensures ∙ c.if-is_some.false),
  c.self.invariant.1,
  subst (λ r. r.mailbox.capacity ≤ vec_capacity c.self.inside.left) (sym c.in_default.ensures.none) c.self.invariant.2,
  still_gated (g.G.Gate.Holds c.self.inside.gate) c.self.inside.shard c.make_room.new.self c.self.inside.shut c.self.inside.lanes.items c.offer_held.new.lanes.items c.make_room.new.self.memory c.make_room.ensures.same c.if-shut.false c.self.invariant.3,
  c.self.invariant.4,
  c.self.invariant.5,
  subst (λ b. IsKeptBy b c.make_room.new.self) c.forgets.ensures (c.make_room.ensures.kept (subst (λ b. IsKeptBy b c.self.inside.shard) (sym c.forgets.ensures) c.self.invariant.6)),
)

pub answer-requires-clause-gate : goal.answer-requires-clause-gate
answer-requires-clause-gate g c =
    holds_all (g.G.Gate.Holds c.self.inside.gate) c.self.inside.shard c.make_room.new.self c.self.inside.shut c.self.inside.lanes.items c.make_room.new.self.memory c.make_room.ensures.same c.if-shut.false c.self.invariant.3

pub answer-requires-clause-told : goal.answer-requires-clause-told
answer-requires-clause-told g c =
    told_none c.make_room.new.self c.offer_held.new.held c.offer_held.new.lanes.items (sym c.is_some.ensures ∙ c.if-is_some.false)
    (with_other_memory c.self.inside.shard c.make_room.new.self c.make_room.new.self.memory c.offer_held.new.held c.offer_held.new.lanes.items c.make_room.ensures.same (c.offer_held.ensures.told c.self.inside.shard c.self.invariant.0.told))

pub returns-clause-did : goal.returns-clause-did
returns-clause-did g c place did =
    subst (λ v. HasDone v place (record { shard = c.answer.new.shard; requests = c.waiting-waiting.new.self; lanes = c.answer.new.lanes.items; held = c.answer.result; shut = c.answer.new.shut; began = g.G.Gate.began c.answer.new.gate })) c.self.view_is
    (done (record { shard = c.self.inside.shard; requests = c.self.inside.requests; lanes = c.self.inside.lanes.items; held = c.self.inside.held; shut = c.self.inside.shut; began = g.G.Gate.began c.self.inside.gate }) c.make_room.new.self c.answer.new.shard c.waiting-waiting.new.self c.answer.new.lanes.items c.answer.result c.answer.new.shut (g.G.Gate.began c.answer.new.gate) c.in-Some.entry c.make_room.new.self.memory c.len-place.result place
    c.make_room.ensures.same c.answer.ensures.item (c.waiting-waiting.ensures.same ∙ c.in-Some.ensures.got) (c.len-place.ensures ∙ ap length c.journal.ensures.value) did)
