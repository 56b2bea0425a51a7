use Rattle.std.proofs.Common.{ap, subst, ◌∙◌}
use Rattle.std.proofs.lemmas.Result.{on_err_weaker}
use Rattle.std.specs.Io.KnownBytes.{Appends}
use Rattle.pay_wire.specs.Output.{AppendsFront}
use Rattle.pay_wire.specs.Replies.{line_of_words, words_of_reply, text_of_journeys, journeys_of_reply}
use Rattle.pay_wire.proofs.Fronts.{on_err, front_more, front_then}
use Rattle.pay_wire.proofs.sending.write_ending.Goals as goal

pub returns-in_err-write_whole-clause-err : goal.returns-in_err-write_whole-clause-err
returns-in_err-write_whole-clause-err g c =
    let r = c.args.reply.now in
    on_err c.from_residual.result (front_more _ _ (line_of_words (words_of_reply r)) (text_of_journeys (journeys_of_reply r))
    (subst (AppendsFront _ _) (c.as_slice.ensures.value ∙ c.render_main_line.ensures) c.in_err-write_whole.ensures.err))

pub returns-clause-err : goal.returns-clause-err
returns-clause-err g c =
    let r = c.args.reply.now in
    let head = subst (Appends _ _) (c.as_slice.ensures.value ∙ c.render_main_line.ensures) c.in_ok-write_whole.ensures.ok in
    on_err_weaker c.write_journeys.result (λ front. front_then _ _ _ (line_of_words (words_of_reply r)) (text_of_journeys (journeys_of_reply r)) head (subst (AppendsFront _ _) (ap text_of_journeys c.journeys.ensures) front)) c.write_journeys.ensures.err
