use Rattle.std.proofs.Common.{◌∙◌, ap, Err, refl, subst, vec_items}
use Rattle.pay_journal.specs.Words.{IsReplayed, IsEnded}
use Rattle.pay_serve.proofs.TakenAgain.{next_taken, not_taken, none_left}
use Rattle.pay_serve.proofs.journals.take_again.Goals as goal

pub loop-place-init : goal.loop-place-init
loop-place-init g c = (λ end result taken. taken, refl)

pub loop-place-preserved : goal.loop-place-preserved
loop-place-preserved g c = (
  λ end result later.
      c.loop-place.invariant.0 end result
      (next_taken vec_items c.args.zone.now g.D.Desk.parts c.args.texts.now c.loop-place.place c.index-texts-place.result c.loop-place-test.true c.index-texts-place.is c.loop-place.desk c.replay.new.desk end c.in-Ok.field-0 result
      (subst (λ text. IsReplayed c.args.zone.now g.D.Desk.parts c.loop-place.desk c.replay.new.desk text c.in-Ok.field-0) c.as_slice.ensures.value c.in-Ok.ensures.replayed) c.replay.ensures.transcript later),
  c.replay.ensures.same_desk ∙ c.loop-place.invariant.1,
)

pub returns-in-Err-clause-taken : goal.returns-in-Err-clause-taken
returns-in-Err-clause-taken g c =
    c.loop-place.invariant.0 c.replay.new.desk _
    (not_taken vec_items c.args.zone.now g.D.Desk.parts c.args.texts.now c.loop-place.place c.index-texts-place.result c.loop-place-test.true c.index-texts-place.is c.loop-place.desk c.replay.new.desk c.in-Err.fault _
    (subst (λ text. IsEnded c.args.zone.now g.D.Desk.parts c.loop-place.desk c.replay.new.desk text c.in-Err.fault) c.as_slice.ensures.value c.in-Err.ensures.ended) (ap Err c.journal_fault.ensures))

pub returns-in-Err-clause-same_desk : goal.returns-in-Err-clause-same_desk
returns-in-Err-clause-same_desk g c = c.replay.ensures.same_desk ∙ c.loop-place.invariant.1

pub returns-clause-taken : goal.returns-clause-taken
returns-clause-taken g c = c.loop-place.invariant.0 c.loop-place.desk _ (none_left vec_items c.args.zone.now g.D.Desk.parts c.args.texts.now c.loop-place.place c.loop-place.desk c.loop-place-test.false)

pub returns-clause-same_desk : goal.returns-clause-same_desk
returns-clause-same_desk g c = c.loop-place.invariant.1
