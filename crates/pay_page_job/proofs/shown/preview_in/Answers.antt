use Rattle.std.proofs.Common.{inr}
use Rattle.std.specs.String.{string_bytes}
use Rattle.pay_page_job.specs.Corrected.{IsPreviewPage}
use Rattle.pay_page_job.proofs.OnOk.{on_ok}
use Rattle.pay_page_job.proofs.shown.preview_in.Goals as goal

pub returns-in-Ok : goal.returns-in-Ok
returns-in-Ok c =
    on_ok c.refused_or.result _ (λ text. IsPreviewPage c.args.fares.now c.args.zone.now (c.args.asked, c.args.fix.now) c.args.viewer.now (string_bytes text))
    (λ text is. inr (record {
      journals = c.args.followed.now.journals.items;
      fault = c.in-Err-owed_with.fault;
      fails = rw (c.as_slice.ensures.value, c.in_ok-line.ensures) at c.in-Err-owed_with.ensures.fails;
      page = is;
    }))
    c.refused_or.ensures
