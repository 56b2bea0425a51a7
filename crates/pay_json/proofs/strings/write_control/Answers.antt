use Rattle.std.proofs.Common.{◌/◌, ◌%◌, arith}
use Rattle.pay_json.proofs.Letters.{one_byte}
use Rattle.pay_json.proofs.strings.write_control.Goals as goal

pub returns : goal.returns
returns g c plain ok =
    let code = c.args.code in
    rw (c.hex_digit-high.ensures, c.hex_digit-low.ensures, one_byte (code / 16) (omega (arith, c.requires)), one_byte (code % 16) (omega arith)) at (c.write.ensures.writes plain ok)
