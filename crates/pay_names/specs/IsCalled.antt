-- What is read, as the text has it.
use Rattle.std.specs.Prelude.{◌≡◌, string_bytes}
use Rattle.pay_names.specs.Names.{Called}
use Rattle.pay_names.specs.declared.reading.Called.{Called as Read}

pub record IsCalled (said : Called) (it : Read) : Type 0 where
  pub places : it.places ≡ said.places
  pub operators : it.operators ≡ said.operators
  pub currency : string_bytes it.currency ≡ said.currency
