use Rattle.std.specs.Arc.{arc_value}
use Rattle.std.specs.String.{string_bytes}
use Rattle.pay_page_job.specs.Followed.{IsShownJson}
use Rattle.pay_page_job.proofs.OnOk.{on_ok}
use Rattle.pay_page_job.proofs.journals.Journals.json_now.Goals as goal

pub returns : goal.returns
returns g c =
    let sources = arc_value c.args.self.now.sources in
    on_ok c.json_by.result _ (λ text. IsShownJson (string_bytes sources.fares) (string_bytes sources.zone) sources.offers c.args.asked (string_bytes text))
    (λ text is. (c.posted-posted.result, c.posted-posted.ensures, is))
    c.json_by.ensures
