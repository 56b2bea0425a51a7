use Rattle.std.proofs.Common.{subst, ◌∙◌}
use Rattle.pay_rules.specs.declared.shown.Line.{Line}
use Rattle.pay_wire.specs.Output.{AppendsFront}
use Rattle.pay_wire.specs.Replies.{line_of_words, words_of_journey}
use Rattle.pay_wire.proofs.Fronts.{on_err, front_of_rows}
use Rattle.pay_wire.proofs.sending.write_journeys.Goals as goal

pub returns-in_err-write_whole-clause-err : goal.returns-in_err-write_whole-clause-err
returns-in_err-write_whole-clause-err g c =
    on_err c.from_residual.result (front_of_rows (λ (l : Line). line_of_words (words_of_journey l)) _ _ _ c.args.journeys.now c.loop-journey.journey-index c.journey-item.result c.loop-journey-test.true c.journey-item.is c.loop-journey.invariant.front
    (subst (AppendsFront _ _) (c.as_slice.ensures.value ∙ c.render_journey.ensures) c.in_err-write_whole.ensures.err))
