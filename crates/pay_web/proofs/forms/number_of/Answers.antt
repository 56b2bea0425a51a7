use Rattle.std.proofs.Common.{◌∙◌}
use Rattle.pay_web.proofs.Values.{parsed}
use Rattle.pay_web.proofs.forms.number_of.Goals as goal

pub returns : goal.returns
returns c = c.ok.ensures.value ∙ parsed c.args.text.now c.parse.result c.parse.ensures.value.0
