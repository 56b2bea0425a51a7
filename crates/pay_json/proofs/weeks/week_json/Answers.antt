use Rattle.std.proofs.Common.{List, ℕ, ◌++◌, map, ◌∙◌, ap}
use Rattle.pay_dates.specs.Words.{date_text_of}
use Rattle.pay_dates.specs.declared.dated.DatedDay.{DatedDay}
use Rattle.pay_json.specs.Posted.{posted_of}
use Rattle.pay_json.specs.Weeks.{dated_value, week_document}
use Rattle.pay_json.proofs.Documents.{week_is}
use Rattle.pay_json.proofs.weeks.week_json.Goals as goal

pub returns : goal.returns
returns c =
    let first = c.as_str-first.result.now in
    let last = c.as_str-last.result.now in
    let days = c.as_str-days.result.now in
    let credits = c.as_str-credits.result.now in
    let end = c.as_str.result.now in
    let told = posted_of c.args.posted.now in
    let facts = c.in_ok-facts.facts in
    let document =
    week_document c.args.account c.args.currency.now (dated_value c.monday-monday.result first) (dated_value c.args.through last) days facts.reason credits c.due_reason-due.result end in
    let written = c.in_ok-write.ensures.bytes ∙ ap (λ (text : List ℕ). text ++ document) c.new-text.ensures.bytes in
    week_is told c.args.currency.now c.args.editions.now (record { taps = c.args.taps.now; fixes = c.args.fixes.now }) c.args.account c.args.through first last days credits end _
    (map (λ (it : DatedDay). it.day) c.deref.result.now) c.deref-2.result.now c.deref-3.result.now facts c.in_ok-facts.ensures
    (c.as_str-first.ensures.value ∙ c.in_ok-first.ensures ∙ ap date_text_of (c.of.ensures ∙ c.monday-monday.ensures.value))
    (c.as_str-last.ensures.value ∙ c.in_ok-last.ensures ∙ ap date_text_of c.of-2.ensures) (c.as_str-days.ensures.value ∙ c.in_ok-days.ensures)
    (ap (map (λ (it : DatedDay). it.day)) c.deref.ensures.value ∙ c.in_ok-list.ensures) c.deref-2.ensures.value (c.as_str-credits.ensures.value ∙ c.in_ok-credits.ensures)
    (c.deref-3.ensures.value ∙ c.in_ok-counted.ensures) (c.as_str.ensures.value ∙ c.in_ok-end.ensures) (rw (c.monday-monday.ensures.value, c.due_reason-due.ensures) at written)
