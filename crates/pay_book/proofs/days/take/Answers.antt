use Rattle.std.proofs.Common.{◌≡◌, ℕ, ap, ◌∙◌, rules}
use Rattle.pay_tables.specs.Words.{FareTables}
use Rattle.pay_caps.specs.declared.cell.Cell.{Cell}
use Rattle.pay_caps.specs.Words.{taken, cell_of}
use Rattle.pay_rules.specs.JourneyFares.{fare}
use Rattle.pay_book.specs.Days.{day_of}
use Rattle.pay_book.proofs.Sums.{one_changed}
use Rattle.pay_book.proofs.days.take.Goals as goal

pub returns-clause-sums : goal.returns-clause-sums
returns-clause-sums c =
    let editions = c.args.editions.now in
    let journey = c.args.journey.now in
    let day : c.day-day.result ≡ day_of journey = search rules in
    one_changed (λ tables one. taken (cell_of tables one) (fare tables one)) editions c.args.days.now c.take.new.self journey (taken c.cell_of.result c.fare.result) c.day-day.result day
    (λ sums.
    ap (λ (cell : Cell). taken cell c.fare.result sums) c.cell_of.ensures.value
    ∙ ap (λ (pence : ℕ). taken (cell_of c.on-tables.result.now journey) pence sums) c.fare.ensures.value
    ∙ ap (λ (tables : FareTables). taken (cell_of tables journey) (fare tables journey) sums) c.on-tables.ensures) c.take.ensures
