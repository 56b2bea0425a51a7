use Rattle.std.proofs.Common.{◌≡◌, ◌∙◌, ap, sym, Some, None}
use Rattle.std.specs.Option.{option_and_then}
use Rattle.std.specs.Result.{result_ok}
use Rattle.pay_web.specs.Asked.{if_account}
use Rattle.pay_web.proofs.Values.{numbered}
use Rattle.pay_web.proofs.asked.account_of.Goals as goal

pub returns-in_err-ok-clause-value : goal.returns-in_err-ok-clause-value
returns-in_err-ok-clause-value c =
    let none : result_ok c.parse.result ≡ None = sym c.ok.ensures.value ∙ c.in_err-ok.was in
    c.from_residual.ensures ∙ (sym (ap (option_and_then if_account) none) ∙ numbered c.args.text.now c.parse.result c.parse.ensures.value.0)

pub returns-clause-value : goal.returns-clause-value
returns-clause-value c =
    let some : result_ok c.parse.result ≡ Some c.in_ok-ok.field-0 = sym c.ok.ensures.value ∙ c.in_ok-ok.was in
    c.if_account.ensures.value ∙ (sym (ap (option_and_then if_account) some) ∙ numbered c.args.text.now c.parse.result c.parse.ensures.value.0)
