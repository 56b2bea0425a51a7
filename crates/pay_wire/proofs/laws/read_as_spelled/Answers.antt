use Rattle.pay_wire.proofs.Spelled.{is_read, is_spelled}
use Rattle.pay_wire.proofs.laws.read_as_spelled.Goals as goal

pub returns : goal.returns
returns c = record { read = is_read; spelled = is_spelled }
