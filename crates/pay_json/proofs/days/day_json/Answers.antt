use Rattle.std.proofs.Common.{List, ℕ, ◌++◌, ◌∙◌, ap}
use Rattle.pay_dates.specs.Words.{date_text_of}
use Rattle.pay_json.specs.Days.{day_document}
use Rattle.pay_json.proofs.Documents.{day_is}
use Rattle.pay_json.proofs.days.day_json.Goals as goal

pub returns : goal.returns
returns c =
    let date = c.as_str-date.result.now in
    let journeys = c.as_str-journeys.result.now in
    let corrections = c.as_str-corrections.result.now in
    let document = day_document c.args.account c.args.currency.now c.args.day date journeys c.in_ok-facts.facts.reason corrections in
    day_is c.args.names.now c.args.currency.now c.args.editions.now (record { taps = c.args.taps.now; fixes = c.args.fixes.now }) c.args.account c.args.day date journeys corrections _ c.in_ok-facts.facts
    c.in_ok-facts.ensures (c.as_str-date.ensures.value ∙ c.in_ok-date.ensures ∙ ap date_text_of c.of.ensures) (c.as_str-journeys.ensures.value ∙ c.in_ok-journeys.ensures)
    (c.as_str-corrections.ensures.value ∙ c.in_ok-corrections.ensures) (c.in_ok-write.ensures.bytes ∙ ap (λ (text : List ℕ). text ++ document) c.new-text.ensures.bytes)
