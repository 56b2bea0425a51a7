use Rattle.std.proofs.Common.{ap, subst}
use Rattle.std.proofs.lemmas.Result.{on_err_weaker}
use Rattle.std.specs.Io.KnownBytes.{Appends}
use Rattle.pay_wire.specs.Output.{AppendsFront}
use Rattle.pay_wire.specs.Replies.{text_of_postings, postings_of_reply, ending_of_reply}
use Rattle.pay_wire.proofs.Fronts.{on_err, front_more, front_then}
use Rattle.pay_wire.proofs.sending.write_reply.Goals as goal

pub returns-in_err-write_postings-clause-err : goal.returns-in_err-write_postings-clause-err
returns-in_err-write_postings-clause-err g c =
    let r = c.args.reply.now in
    on_err c.from_residual.result (front_more _ _ (text_of_postings (postings_of_reply r)) (ending_of_reply r)
    (subst (AppendsFront _ _) (ap text_of_postings c.postings.ensures) c.in_err-write_postings.ensures.err))

pub returns-clause-err : goal.returns-clause-err
returns-clause-err g c =
    let r = c.args.reply.now in
    let rows = subst (Appends _ _) (ap text_of_postings c.postings.ensures) c.in_ok-write_postings.ensures.ok in
    on_err_weaker c.write_ending.result (λ front. front_then _ _ _ (text_of_postings (postings_of_reply r)) (ending_of_reply r) rows front) c.write_ending.ensures.err
