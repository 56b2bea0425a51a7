use Rattle.std.proofs.Common.{rules}
use Rattle.std.proofs.lemmas.List.Sorted.{answers_always}
use Rattle.pay_numbered.proofs.numbered_set.position.Goals as goal

pub returns-clause-position : goal.returns-clause-position
returns-clause-position g c = c.binary_search_by_key.ensures.position g.T.Numbered.number (answers_always _ _ _ (λ f a r g h. search rules))
