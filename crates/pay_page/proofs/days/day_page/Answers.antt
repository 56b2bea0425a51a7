use Rattle.std.proofs.Common.{List, ℕ, [], ◌++◌, ap, ◌∙◌}
use Rattle.pay_page.specs.Frame.{page_start}
use Rattle.pay_page.proofs.Adding.{then_fifth}
use Rattle.pay_page.proofs.Pages.{day_page_is}
use Rattle.pay_page.proofs.days.day_page.Goals as goal

pub returns : goal.returns
returns c =
    let title = c.as_str-title.result.now in
    let start = c.in_ok-write.ensures.bytes ∙ ap (λ (text : List ℕ). text ++ page_start title) c.new-text.ensures.bytes in
    day_page_is c.args.corrects c.args.names.now c.args.editions.now (record { taps = c.args.taps.now; fixes = c.args.fixes.now }) c.args.account c.args.day title _ c.in_ok-facts.facts
    (c.as_str-title.ensures.value ∙ c.in_ok-title.ensures) c.in_ok-facts.ensures
    (then_fifth [] _ _ _ _ _ _ _ _ _ _ start c.in_ok-push_day_links.ensures c.in_ok-push_facts.ensures c.in_ok-push_corrections.ensures c.in_ok-write-2.ensures.bytes)
