-- What symbols of base64 stand for.
use Rattle.std.proofs.Common.{◌≡◌, ℕ, List, Some, None, Ok, Err, refl}
use Rattle.base64.specs.Engines.{standard}
use Rattle.base64.specs.GeneralPurpose.{decode_of, decoded_of}
use Rattle.base64.specs.declared.decode.DecodeError.{DecodeError}

pub decoded_ok : (symbols bytes : List ℕ) → decode_of standard symbols ≡ Ok bytes → Some bytes ≡ decoded_of standard symbols
unfolding decoded_of
decoded_ok symbols bytes is = rw is refl

pub decoded_err : (symbols : List ℕ) (error : DecodeError) → decode_of standard symbols ≡ Err error → None ≡ decoded_of standard symbols
unfolding decoded_of
decoded_err symbols error is = rw is refl
