use Rattle.std.proofs.Common.{true}
use Rattle.pay_kept.proofs.Texts.{is_with}
use Rattle.pay_kept.proofs.text.has_ledger.Goals as goal

pub returns-in-Some : goal.returns-in-Some
returns-in-Some c = is_with c.args.kept.now c.args.zone.now c.in-Some.has_ledger c.in-Some.field-0-1.now c.in-Some.ensures.kept

pub returns-in-None : goal.returns-in-None
returns-in-None c = ((λ closes. absurd (cc)), (λ it. absurd (c.in-None.ensures.other true it.0 it.1)))
