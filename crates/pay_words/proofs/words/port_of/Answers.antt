use Rattle.std.proofs.Common.{arith}
use Rattle.std.specs.Str.Parse.{ParsesUnsigned, ExplainsUnsignedError, HasUnsignedDigitsIfOk}
use Rattle.pay_words.proofs.Numbers.{read_number}
use Rattle.pay_words.proofs.words.port_of.Goals as goal

pub returns-clause-value : goal.returns-clause-value
returns-clause-value c = λ word is fits.
    read_number 16 (λ t r. ParsesUnsigned 16 10 t r × ExplainsUnsignedError 10 t r × HasUnsignedDigitsIfOk t r) (λ t r h. h.0) 1 65_535 word c.get_one.result fits (omega arith) (c.get_one.ensures.value word is)
