use Rattle.pay_wire.proofs.Numerals.{number_again, number_is}
use Rattle.pay_wire.proofs.laws.one_numeral.Goals as goal

pub returns : goal.returns
returns c = record { read = number_again; spelled = number_is }
