use Rattle.std.proofs.Common.{[], sym, ◌∙◌, refl}
use Rattle.pay_wire.specs.declared.reply.SpelledReply.TheVariants as replies
use Rattle.pay_session.proofs.PutCommands.{close_step, still_step}
use Rattle.pay_session.proofs.service.ServiceAnswers.answer.Goals as goal

pub returns-in-Close : goal.returns-in-Close
returns-in-Close g c =
    let e = c.close.ensures in
    let step = close_step _ _ _ c.in-Close.day _ _ _ _ _ (sym c.asks_at.ensures.value ∙ c.in-Close.is) e.closed e.transcript e.same_desk in
    record { event = step.0; serves = (step.1, refl, refl, refl, e.same_till, c.requires); told = step.2 }

pub returns-in-Quit : goal.returns-in-Quit
returns-in-Quit g c = record {
  event = record { reply = replies.Bye; put = [] };
  serves = (still_step _ _ _ _ _ _ _ (sym c.asks_at.ensures.value ∙ c.in-Quit.is) (refl, refl), refl, refl, refl, refl, c.requires);
  told = refl;
}

pub returns-in-No : goal.returns-in-No
returns-in-No g c = record {
  event = record { reply = replies.No c.in-No.why; put = [] };
  serves = (still_step _ _ _ _ _ _ _ (sym c.asks_at.ensures.value ∙ c.in-No.is) (refl, refl), refl, refl, refl, refl, c.requires);
  told = refl;
}
