use Rattle.pay_words.proofs.NodePorts.{stripped}
use Rattle.pay_words.proofs.node.behind.Goals as goal

pub returns : goal.returns
returns c = stripped c.args.front.now c.args.text.now c.strip_prefix.result c.strip_prefix.ensures.cases
