use Rattle.std.proofs.Common.{lit<}
use Rattle.pay_clerks.specs.Lines.{is_space}
use Rattle.pay_clerks.proofs.Parted.{by_parts}
use Rattle.pay_clerks.proofs.line.parted.Goals as goal

pub returns : goal.returns
returns c = by_parts is_space c.args.text.now c.split_once.result (c.split_once.ensures.byte (lit< tt) (λ w o h. h))
