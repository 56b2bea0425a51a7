use Rattle.std.proofs.Common.{◌≡◌, Some, None, sym, ap, ◌∙◌}
use Rattle.std.specs.Option.{option_and_then}
use Rattle.std.specs.Result.{result_ok}
use Rattle.pay_numeral.specs.Numerals.{if_numeral}
use Rattle.pay_numeral.proofs.Numbered.{parsed}
use Rattle.pay_numeral.proofs.numeral.number_in.Goals as goal

pub returns-in_err-ok : goal.returns-in_err-ok
returns-in_err-ok c =
    let none : result_ok c.parse.result ≡ None = sym c.ok.ensures.value ∙ c.in_err-ok.was in
    c.from_residual.ensures ∙ (sym (ap (option_and_then (if_numeral c.args.word.now)) none) ∙ parsed c.args.word.now c.parse.result c.parse.ensures.value.0)

pub returns : goal.returns
returns c =
    let some : result_ok c.parse.result ≡ Some c.in_ok-ok.field-0 = sym c.ok.ensures.value ∙ c.in_ok-ok.was in
    c.if_numeral.ensures
    ∙ (rw c.as_bytes.ensures.value (sym (ap (option_and_then (if_numeral c.args.word.now)) some) ∙ parsed c.args.word.now c.parse.result c.parse.ensures.value.0))
