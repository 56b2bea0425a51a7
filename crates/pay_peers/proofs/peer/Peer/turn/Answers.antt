use Rattle.std.proofs.Common.{◌∙◌, ap, sym}
use Rattle.std.specs.Option.{is_some}
use Rattle.pay_peers.proofs.FirstWords.{heard_on, heard_so_far}
use Rattle.pay_peers.proofs.peer.Peer.turn.Goals as goal

pub returns-in_default-clause-heard : goal.returns-in_default-clause-heard
returns-in_default-clause-heard g c =
    heard_on c.args.port.role c.args.self.now.awaited c.loop.self.awaited c.step.new.self.awaited
    c.args.self.now.begun c.args.self.now.pending.items c.loop.self.begun c.loop.self.pending.items
    c.step.new.self.begun c.step.new.self.pending.items c.step.result c.loop.self.over c.step.new.self.over
    c.loop.invariant.3 c.step.ensures.over c.step.ensures.heard

pub returns-in_default-2 : goal.returns-in_default-2
returns-in_default-2 g c =
    let so_far = c.loop.invariant in
    record {
      served = c.piece_by_piece.ensures.after _ _ _ _ _ _ _ so_far.0 c.step.ensures.served;
      same_till = c.step.ensures.same_till ∙ so_far.1;
      staff = c.step.ensures.staff;
      quiet = λ waits.
          let last = c.step.ensures.quiet waits in
          let before = so_far.4 (ap is_some (sym last.0) ∙ waits) in
          (last.0 ∙ before.0, last.1 ∙ before.1, last.2 ∙ before.2, last.3);
      over = λ still. so_far.2 (c.step.ensures.over still);
      heard = heard_on c.args.port.role c.args.self.now.awaited c.loop.self.awaited c.step.new.self.awaited
          c.args.self.now.begun c.args.self.now.pending.items c.loop.self.begun c.loop.self.pending.items
          c.step.new.self.begun c.step.new.self.pending.items c.step.result c.loop.self.over c.step.new.self.over
          so_far.3 c.step.ensures.over c.step.ensures.heard;
    }

pub loop-preserved : goal.loop-preserved
loop-preserved g c =
    let so_far = c.loop.invariant in (
      c.piece_by_piece.ensures.after _ _ _ _ _ _ _ so_far.0 c.step.ensures.served,
      c.step.ensures.same_till ∙ so_far.1,
      λ still. so_far.2 (c.step.ensures.over still),
      heard_so_far c.args.port.role c.args.self.now.awaited c.loop.self.awaited c.step.new.self.awaited
          c.args.self.now.begun c.args.self.now.pending.items c.loop.self.begun c.loop.self.pending.items
          c.step.new.self.begun c.step.new.self.pending.items c.step.result c.loop.self.over c.step.new.self.over
          c.in-GoesOn.is so_far.3 c.step.ensures.over c.step.ensures.heard,
      λ waits.
          let last = c.step.ensures.quiet waits in
          let before = so_far.4 (ap is_some (sym last.0) ∙ waits) in
          (last.0 ∙ before.0, last.1 ∙ before.1, last.2 ∙ before.2),
    )
