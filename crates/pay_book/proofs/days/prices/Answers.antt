use Rattle.std.proofs.Common.{ℕ, ◌∙◌, ap, sym}
use Rattle.std.specs.List.{range_with_len, zip}
use Rattle.pay_day.specs.declared.limits.TheConstants.{DAYS_PER_WEEK}
use Rattle.pay_book.proofs.Weeks.{priced_as}
use Rattle.pay_book.proofs.days.prices.Goals as goal

pub returns : goal.returns
returns c = λ list are.
    priced_as c.empty_days.ensures.free c.args.editions.now c.args.days.now list c.args.again c.args.day c.day_of.result c.week_of.result (zip c.of_days.result.0.now c.of_days.result.1.now) (range_with_len c.monday-monday.result DAYS_PER_WEEK) c.monday-monday.result are
    (c.day_of.ensures list are) c.of_days.ensures.held
    (c.week_days.ensures.days c.args.day c.requires ∙ ap (λ (first : ℕ). range_with_len first DAYS_PER_WEEK) (sym c.monday-monday.ensures.value))
    (c.week_days.ensures.monday c.args.day c.requires ∙ sym c.monday-monday.ensures.value) c.week_of.ensures
