use Rattle.std.proofs.Common.{List, ℕ, [], ◌++◌, map, ap, ◌∙◌}
use Rattle.pay_dates.specs.declared.dated.DatedDay.{DatedDay}
use Rattle.pay_page.specs.Frame.{page_start}
use Rattle.pay_page.specs.Posted.{posted_of}
use Rattle.pay_page.proofs.Adding.{then_sixth}
use Rattle.pay_page.proofs.Pages.{week_page_is}
use Rattle.pay_page.proofs.weeks.week_page.Goals as goal

pub returns : goal.returns
returns c =
    let title = c.as_str.result.now in
    let start = c.in_ok-write.ensures.bytes ∙ ap (λ (text : List ℕ). text ++ page_start title) c.new-text.ensures.bytes in
    week_page_is c.args.corrects (posted_of c.args.posted.now) c.args.editions.now (record { taps = c.args.taps.now; fixes = c.args.fixes.now }) c.args.account c.args.through title _ (map (λ (it : DatedDay). it.day) c.deref.result.now) c.deref-2.result.now c.in_ok-facts.facts
    (c.as_str.ensures.value ∙ c.in_ok-title.ensures) c.in_ok-facts.ensures c.deref-2.ensures.value (ap (map (λ (it : DatedDay). it.day)) c.deref.ensures.value ∙ c.in_ok-days.ensures)
    (then_sixth [] _ _ _ _ _ _ _ _ _ _ _ _ start c.in_ok-push_week_links.ensures c.in_ok-push_days_part.ensures c.in_ok-push_sums.ensures c.in_ok-push_posted.ensures c.in_ok-write-2.ensures.bytes)
