use Rattle.pay_web.proofs.Values.{stripped}
use Rattle.pay_web.proofs.asked.value_of.Goals as goal

pub returns : goal.returns
returns c = stripped c.args.name.now c.args.text.now c.strip_prefix.result c.strip_prefix.ensures.cases
