use Rattle.std.proofs.Common.{sym, ◌∙◌}
use Rattle.std.proofs.lemmas.Result.{IfOk-weaker}
use Rattle.pay_explain_job.proofs.Joins.{of_none, of_some}
use Rattle.pay_explain_job.proofs.posted.posted_text.Goals as goal

pub returns-then-is_empty : goal.returns-then-is_empty
returns-then-is_empty c =
    let none = of_none c.args.operators.now c.args.week c.args.now c.args.postings.now (sym c.is_empty.ensures ∙ c.if-is_empty.true) in
    IfOk-weaker c.nothing_text.result _ _ (λ text says. says ∙ none) c.nothing_text.ensures

pub returns-else-is_empty : goal.returns-else-is_empty
returns-else-is_empty c =
    let some = of_some c.args.operators.now c.args.week c.args.now c.args.postings.now (sym c.is_empty.ensures ∙ c.if-is_empty.false) in
    IfOk-weaker c.postings_text.result _ _ (λ text says. says ∙ some) c.postings_text.ensures
