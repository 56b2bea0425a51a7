use Rattle.std.proofs.Common.{◌∙◌, sym}
use Rattle.pay_explain_job.proofs.corrections.owed_in.Goals as goal

pub returns-in-Some : goal.returns-in-Some
returns-in-Some g c = rw (c.editions-editions.ensures, c.in-Some.ensures.accepted) at c.owed_by.ensures

pub returns-in-None : goal.returns-in-None
returns-in-None g c = rw (c.editions-editions.ensures, c.new.ensures.nothing ∙ sym c.in-None.ensures.nothing) at c.owed_by-in-None.ensures
