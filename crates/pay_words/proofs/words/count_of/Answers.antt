use Rattle.std.proofs.Common.{arith}
use Rattle.std.specs.Str.Parse.{ParsesUnsigned, ExplainsUnsignedError, HasUnsignedDigitsIfOk}
use Rattle.pay_words.proofs.Numbers.{read_number}
use Rattle.pay_words.proofs.words.count_of.Goals as goal

pub returns-clause-value : goal.returns-clause-value
returns-clause-value c = λ word least most is fits within.
    read_number 8 (λ t r. ParsesUnsigned 8 10 t r × ExplainsUnsignedError 10 t r × HasUnsignedDigitsIfOk t r) (λ t r h. h.0) least most word c.get_one.result fits (omega (arith, within)) (c.get_one.ensures.value word is)
