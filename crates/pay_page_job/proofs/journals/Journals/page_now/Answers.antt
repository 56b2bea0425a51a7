use Rattle.std.specs.Arc.{arc_value}
use Rattle.std.specs.String.{string_bytes}
use Rattle.pay_page_job.specs.Followed.{IsShownPage}
use Rattle.pay_page_job.proofs.OnOk.{on_ok}
use Rattle.pay_page_job.proofs.journals.Journals.page_now.Goals as goal

pub returns : goal.returns
returns g c =
    let sources = arc_value c.args.self.now.sources in
    on_ok c.page_by.result _ (λ text. IsShownPage (string_bytes sources.fares) (string_bytes sources.zone) sources.offers c.args.asked (string_bytes text))
    (λ text is. (c.posted-posted.result, c.posted-posted.ensures, is))
    c.page_by.ensures
