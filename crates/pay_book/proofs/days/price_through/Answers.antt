use Rattle.std.proofs.Common.{ℕ, ◌+◌, ◌-◌, ap, sym, arith}
use Rattle.std.specs.List.{range_with_len, zip}
use Rattle.pay_book.proofs.Weeks.{through_as}
use Rattle.pay_book.proofs.days.price_through.Goals as goal

pub returns : goal.returns
returns c = λ list are.
    through_as c.empty_days.ensures.free c.args.editions.now c.args.days.now list c.args.through c.week_of.result c.monday-monday.result (zip c.of_days.result.0.now c.of_days.result.1.now)
    (range_with_len c.monday-monday.result (c.args.through + 1 - c.monday-monday.result)) are c.of_days.ensures.held
    (ap (λ (first : ℕ). range_with_len first (c.args.through + 1 - first)) (sym c.monday-monday.ensures.value)) (sym c.monday-monday.ensures.value) c.week_of.ensures
