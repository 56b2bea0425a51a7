use Rattle.std.proofs.Common.{◌≡◌, ◌++◌, [], false, Option, List, ℕ, None, ◌∙◌, sym, ap, subst}
use Rattle.pay_peers.specs.Lines.{IsTaken}
use Rattle.pay_peers.specs.declared.word.Word.{Word}
use Rattle.pay_peers.proofs.FirstWords.{taken_then, still_taken, none_from}
use Rattle.pay_peers.proofs.peer.Peer.take_lines.Goals as goal

pub returns-then-is_some-clause-taken : goal.returns-then-is_some-clause-taken
returns-then-is_some-clause-taken g c lasts =
    let so_far = c.lines.invariant in
    let step = c.in_ok-word.ensures.taken in
    let behind : List ℕ = c.in_ok-word.behind.now in
    let none_before : c.take_line.new.self.pending.items ≡ [] = c.in_ok-word.ensures.pending ∙ so_far.2 in
    let open_still : c.take_line.new.self.over ≡ false = sym c.in_ok-keep.ensures.over ∙ lasts in
    let left : c.keep.new.self.pending.items ≡ behind = c.in_ok-keep.ensures.pending open_still ∙ ap (λ (before : List ℕ). before ++ behind) none_before in
    still_taken c.args.port.role c.args.self.now.begun c.args.piece.now _ _ _ _ c.in_ok-word.word
    (taken_then c.args.port.role c.args.self.now.begun c.args.piece.now c.lines.self.begun c.lines.rest.now _ _ c.in_ok-word.word so_far.3 step)
    c.in_ok-keep.ensures.begun left

pub lines-preserved : goal.lines-preserved
lines-preserved g c =
    let so_far = c.lines.invariant in
    let step = c.in_ok-word.ensures.taken in
    let none : None ≡ c.in_ok-word.word = none_from c.in_ok-word.word (sym c.is_some.ensures ∙ c.if-is_some.false) in
    let P : Option Word → Type 0 = λ word. IsTaken c.args.port.role c.args.self.now.begun c.args.piece.now word c.take_line.new.self.begun c.in_ok-word.behind.now in (
      c.piece_by_piece.ensures.after _ _ _ _ _ _ _ so_far.0 c.in_ok-word.ensures.served,
      c.in_ok-word.ensures.same_till ∙ so_far.1,
      c.in_ok-word.ensures.pending ∙ so_far.2,
      subst P (sym none) (taken_then c.args.port.role c.args.self.now.begun c.args.piece.now c.lines.self.begun c.lines.rest.now _ _ c.in_ok-word.word so_far.3 step),
      λ open_still. so_far.4 (c.in_ok-word.ensures.over open_still),
      c.in_ok-word.ensures.awaited ∙ so_far.5,
    )
