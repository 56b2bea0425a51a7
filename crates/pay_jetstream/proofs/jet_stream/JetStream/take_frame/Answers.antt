use Rattle.std.proofs.Common.{◌≡◌, true, false, suc, sym, ◌∙◌, ap, subst, arith}
use Rattle.pay_jetstream.specs.Given.{IsGivenBy}
use Rattle.pay_jetstream.specs.StreamParts.{StreamParts}
use Rattle.pay_jetstream.specs.Taken.{HasTakenFrames, GivesIn}
use Rattle.pay_jetstream.proofs.Taking.{given_line, took_frame}
use Rattle.pay_jetstream.proofs.jet_stream.JetStream.take_frame.Goals.{then-is_line, else-is_line}
use Rattle.pay_jetstream.proofs.jet_stream.JetStream.take_frame.Goals as goal

true_false : true ≡ false → ⊥
true_false e = cc

pub invariant_of-self-2 : goal.invariant_of-self-2
invariant_of-self-2 g c =
    let R = g.R.Read in
    let taken = took_frame _ _ (R.remaining c.read_whole.new.reader) c.read_whole.new.held.items (c.self.invariant c.if-self.false) c.in_ok-read_whole.ensures.taken c.in_ok-read_whole.ensures.whole in
    λ _. elim c.if-is_line.branch [
      | then-is_line w ↦ subst (λ s. HasTakenFrames (R.remaining s.began.value) (R.remaining s.reader)) (sym w.self-inside-is) taken
      | else-is_line w ↦ subst (λ s. HasTakenFrames (R.remaining s.began.value) (R.remaining s.reader)) (sym w.self-inside-is) taken
    ]

pub returns-clause-line : goal.returns-clause-line
returns-clause-line g c is_line =
    let R = g.R.Read in
    let gives = subst (λ l. GivesIn c.self.inside.sid l (suc c.self.inside.last) c.heed.new.line.items) c.deref.ensures.value (c.in_ok-is_line.ensures.line is_line) in
    let given = given_line (R.remaining c.self.inside.began.value) _ (R.remaining c.read_whole.new.reader) c.read_whole.new.held.items c.self.inside.sid (suc c.self.inside.last) c.heed.new.line.items
    (c.self.invariant c.if-self.false) c.in_ok-read_whole.ensures.taken gives in (
      elim c.if-is_line.branch [
        | then-is_line w ↦ ap (λ s. s.last) w.self-inside-is ∙ omega (arith, ap (λ v. v.last) c.self.view_is)
        | else-is_line w ↦ absurd (true_false (sym is_line ∙ w.if-is_line.false))
      ],
      subst (λ (v : StreamParts). IsGivenBy (v.sid, v.sent) (suc v.last) c.heed.new.line.items) c.self.view_is given,
    )
