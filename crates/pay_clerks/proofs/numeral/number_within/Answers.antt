use Rattle.std.proofs.Common.{◌≡◌, ◌∙◌, ap, arith, sym, Some, None}
use Rattle.std.specs.Option.{option_and_then}
use Rattle.std.specs.Result.{result_ok}
use Rattle.pay_clerks.specs.Numerals.{if_within}
use Rattle.pay_clerks.proofs.Numbered.{numbered}
use Rattle.pay_clerks.proofs.numeral.number_within.Goals as goal

pub returns-in_err-ok-clause-value : goal.returns-in_err-ok-clause-value
returns-in_err-ok-clause-value c =
    let none : result_ok c.parse.result ≡ None = sym c.ok.ensures.value ∙ c.in_err-ok.was in
    c.from_residual.ensures ∙ (sym (ap (option_and_then (if_within c.args.first c.args.last c.args.word.now)) none) ∙ numbered c.args.first c.args.last c.args.word.now (omega arith) c.parse.result c.parse.ensures.value.0)

pub returns-clause-value : goal.returns-clause-value
returns-clause-value c =
    let some : result_ok c.parse.result ≡ Some c.in_ok-ok.field-0 = sym c.ok.ensures.value ∙ c.in_ok-ok.was in
    c.if_within.ensures.value ∙ (sym (ap (option_and_then (if_within c.args.first c.args.last c.args.word.now)) some) ∙ numbered c.args.first c.args.last c.args.word.now (omega arith) c.parse.result c.parse.ensures.value.0)
