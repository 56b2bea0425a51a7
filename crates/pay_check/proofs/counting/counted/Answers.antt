use Rattle.std.proofs.Common.{◌∙◌, ap}
use Rattle.pay_tables.specs.Words.{counts}
use Rattle.pay_check.specs.Counting.{counts_line}
use Rattle.pay_check.proofs.counting.counted.Goals as goal

pub returns-clause-counted : goal.returns-clause-counted
returns-clause-counted c = (
  c.in_ok-editions.editions,
  c.in_ok-editions.ensures.ok,
  c.in_ok-line.ensures ∙ ap (λ counted. counts_line counted c.items.result) (c.counts.ensures ∙ ap counts c.own.ensures)
      ∙ ap (counts_line (counts c.in_ok-editions.editions.own)) c.items.ensures.value,
)
