-- A whole number is written as it is, also below 0.
use Rattle.std.proofs.Common.{◌≡◌, ℤ, pos, negsuc, refl}
use Rattle.std.specs.Fmt.{signed_decimal}
use Rattle.serde_json.specs.Written.{compact_text}
use Rattle.pay_json.specs.Posted.{signed}

pub signed_text : (z : ℤ) → signed_decimal z ≡ compact_text (signed z)
unfolding signed
signed_text (pos n) = refl
signed_text (negsuc n) = refl
