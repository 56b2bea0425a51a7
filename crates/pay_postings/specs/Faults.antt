-- What follows a step that was not refused.
use Rattle.std.specs.Prelude.{Result, Ok, Err}
use Rattle.pay_rules.specs.declared.post_fault.PostFault.{PostFault}

infixl 10 ◌>>=◌
-- what follows a step, unless that step was refused
abbrev pub ◌>>=◌ : {A B : Type 0} → Result A PostFault → (A → Result B PostFault) → Result B PostFault
(Ok x) >>= f = f x
(Err e) >>= f = Err e
