use Rattle.std.proofs.Common.{◌∙◌, ap, sym, option_map, Bor}
use Rattle.pay_tables.specs.Words.{FareTables, on}
use Rattle.pay_caps.specs.Words.{CellSums, day_price_of}
use Rattle.pay_book.proofs.Weeks.{day_as, day_of_none}
use Rattle.pay_book.proofs.days.day_of.Goals as goal

pub returns-in-Some : goal.returns-in-Some
returns-in-Some c = λ list are.
    day_as c.args.editions.now c.args.days.now list c.args.day c.in-Some.cells.now c.day_price.result.0 (c.day_prices.ensures.day c.args.day) are
    (sym c.get.ensures ∙ ap (option_map (λ (cells : Bor CellSums). cells.now)) c.in-Some.is)
    (c.day_price.ensures.price ∙ ap (λ (tables : FareTables). day_price_of tables c.in-Some.cells.now) c.on.ensures)

pub returns-in-None : goal.returns-in-None
returns-in-None c = λ list are.
    day_of_none c.args.editions.now c.args.days.now list c.args.day (c.bounds.ensures.by_fares (on c.args.editions.now c.args.day)) are
    (sym c.get.ensures ∙ ap (option_map (λ (cells : Bor CellSums). cells.now)) c.in-None.is)
