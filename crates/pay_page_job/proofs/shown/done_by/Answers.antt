use Rattle.std.proofs.Common.{◌∙◌}
use Rattle.std.specs.String.{string_bytes}
use Rattle.pay_page_job.specs.Corrected.{IsDoneWith}
use Rattle.pay_page_job.proofs.OnOk.{on_ok}
use Rattle.pay_page_job.proofs.shown.done_by.Goals as goal

pub returns : goal.returns
returns c =
    on_ok c.done_page.result _ (λ text. IsDoneWith (c.args.asked, c.args.fix.now) c.args.reply.now (string_bytes text))
    (λ text is. (c.done_of.result, c.done_of.ensures (c.as_str.ensures.value ∙ c.in_ok-what.ensures), is))
    c.done_page.ensures
