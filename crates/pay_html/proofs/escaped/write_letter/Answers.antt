use Rattle.std.proofs.Common.{◌≡◌, encode_utf8, rules, arith}
use Rattle.std.proofs.lemmas.Grind.{common_steps}
use Rattle.pay_html.specs.Escapes.{escaped}
use Rattle.pay_html.proofs.Letters.{kept_letter}
use Rattle.pay_html.proofs.escaped.write_letter.Goals as goal

pub returns-in_default : goal.returns-in_default
returns-in_default g c =
    let letter = c.args.letter in
    let same : escaped (encode_utf8 letter) ≡ encode_utf8 letter = kept_letter letter (search rules) (search rules) (search rules) (search rules) (search rules) in
    rw same c.write_char.ensures.writes
