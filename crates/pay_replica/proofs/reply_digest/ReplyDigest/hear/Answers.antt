use Rattle.std.proofs.Common.{◌∙◌, ◌<◌, sym, subst, arith}
use Rattle.sha2.specs.Hashers.{Holds256}
use Rattle.pay_replica.specs.Digested.{entries_text, last_place}
use Rattle.pay_replica.proofs.Heard.{last_of, text_of}
use Rattle.pay_replica.proofs.reply_digest.ReplyDigest.hear.Goals as goal

pub returns : goal.returns
returns c = λ entries has.
    let above : last_place entries < c.args.place = omega (arith, c.if-place-self.false, has.1) in
    let place = c.as_bytes.ensures.value ∙ c.format.ensures.text in
    let whole = c.update-3.ensures _ (c.update-2.ensures _ (c.update.ensures (entries_text entries) has.0)) in
    (subst (Holds256 c.update-3.new.self) (text_of entries c.args.place c.args.reply.now above) (rw place at whole), sym (last_of entries c.args.place c.args.reply.now above))
