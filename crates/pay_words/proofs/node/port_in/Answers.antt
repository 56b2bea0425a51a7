use Rattle.std.proofs.Common.{◌≡◌, ◌∙◌, ap, sym, Some, None}
use Rattle.std.specs.Option.{option_and_then}
use Rattle.std.specs.Result.{result_ok}
use Rattle.pay_words.specs.Node.{if_port}
use Rattle.pay_words.proofs.NodePorts.{port_read}
use Rattle.pay_words.proofs.node.port_in.Goals as goal

pub returns-in_err-ok : goal.returns-in_err-ok
returns-in_err-ok c =
    let none : result_ok c.parse.result ≡ None = sym c.ok.ensures.value ∙ c.in_err-ok.was in
    c.from_residual.ensures ∙ (sym (ap (option_and_then if_port) none) ∙ port_read c.args.text.now c.parse.result c.parse.ensures.value.0)

pub returns : goal.returns
returns c =
    let some : result_ok c.parse.result ≡ Some c.in_ok-ok.field-0 = sym c.ok.ensures.value ∙ c.in_ok-ok.was in
    c.if_port.ensures ∙ (sym (ap (option_and_then if_port) some) ∙ port_read c.args.text.now c.parse.result c.parse.ensures.value.0)
