use Rattle.pay_metrics.proofs.Behind.{stripped}
use Rattle.pay_metrics.proofs.fields.after.Goals as goal

pub returns : goal.returns
returns c = stripped c.args.front.now c.args.text.now c.strip_prefix.result c.strip_prefix.ensures.cases
