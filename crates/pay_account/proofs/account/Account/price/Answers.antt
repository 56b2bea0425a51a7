use Rattle.std.proofs.Common.{ap, ◌∙◌}
use Rattle.std.proofs.lemmas.Result.{IfOk-weaker}
use Rattle.pay_rules.specs.Accepted.{touches}
use Rattle.pay_rules.specs.Prices.{prices_of_touches}
use Rattle.pay_account.proofs.account.Account.price.Goals as goal

pub returns : goal.returns
returns c =
    let are = c.deref.ensures.value ∙ c.in_ok-touches.ensures.value ∙ ap (λ account. touches account.1) c.self.view_is in
    IfOk-weaker c.price.result _ _ (λ p e. e ∙ ap (λ list. prices_of_touches c.args.editions.now list c.args.again c.args.day) are) c.price.ensures
