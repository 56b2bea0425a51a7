use Rattle.std.proofs.Common.{subst, ◌∙◌}
use Rattle.pay_rules.specs.declared.posting.Posting.{Posting}
use Rattle.pay_wire.specs.Output.{AppendsFront}
use Rattle.pay_wire.specs.Replies.{line_of_words, words_of_posting}
use Rattle.pay_wire.proofs.Fronts.{on_err, front_of_rows}
use Rattle.pay_wire.proofs.sending.write_postings.Goals as goal

pub returns-in_err-write_whole-clause-err : goal.returns-in_err-write_whole-clause-err
returns-in_err-write_whole-clause-err g c =
    on_err c.from_residual.result (front_of_rows (λ (p : Posting). line_of_words (words_of_posting p)) _ _ _ c.args.postings.now c.loop-posting.posting-index c.posting-item.result c.loop-posting-test.true c.posting-item.is c.loop-posting.invariant.front
    (subst (AppendsFront _ _) (c.as_slice.ensures.value ∙ c.render_posting.ensures) c.in_err-write_whole.ensures.err))
