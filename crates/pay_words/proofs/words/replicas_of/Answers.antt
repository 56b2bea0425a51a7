use Rattle.std.proofs.Common.{◌≡◌, true, arith}
use Rattle.pay_words.specs.OneWord.{is_replicas}
use Rattle.pay_words.proofs.Numbers.{number_given}
use Rattle.pay_words.proofs.words.replicas_of.Goals as goal

pub returns : goal.returns
returns c = λ given is fits.
    number_given _ given (λ w. is_replicas w ≡ true) c.count_of.result c.count_of.ensures.none
    (λ w found within. c.count_of.ensures.value w 1 5 found within (omega arith)) is fits
