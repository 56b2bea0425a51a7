use Rattle.pay_compare.proofs.ByOneEdition.{of_one_edition}
use Rattle.pay_compare.proofs.laws.without_editions.Goals as goal

pub returns : goal.returns
returns c = of_one_edition
