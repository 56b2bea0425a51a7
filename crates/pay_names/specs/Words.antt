-- Words for the crates above: what the text of a fare file calls its places and operators, its currency, and the name of a number.
pub use Rattle.pay_names.specs.Names.{Called, Named, called_in_text, name_at}
