use Rattle.pay_json.proofs.Letters.{control_letter, kept_letter}
use Rattle.pay_json.proofs.strings.write_other.Goals as goal

pub returns-then-letter-lt32 : goal.returns-then-letter-lt32
returns-then-letter-lt32 g c = rw (control_letter c.args.letter c.if-letter-lt32.true c.requires) (rw c.from.ensures at c.write_control.ensures)

pub returns-else-letter-lt32 : goal.returns-else-letter-lt32
returns-else-letter-lt32 g c = rw (kept_letter c.args.letter c.if-letter-lt32.false c.requires) c.write_char.ensures.writes
