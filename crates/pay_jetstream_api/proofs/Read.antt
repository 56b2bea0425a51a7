-- A text is read as a value, or is none.
use Rattle.std.proofs.Common.{◌≡◌, ◌≢◌, Bool, true, false, List, ℕ, Some, None, Ok, Err, cond, refl}
use Rattle.std.specs.Str.{IsUtf8, is_utf8}
use Rattle.std.proofs.lemmas.Str.{is_utf8-from_IsUtf8, IsUtf8-from_is_utf8}
use Rattle.serde_json.specs.Data.{Data}
use Rattle.serde_json.specs.Errors.{IsMemory}
use Rattle.serde_json.specs.Read.{read}
use Rattle.serde_json.specs.declared.error.Error.{Error}
use Rattle.pay_jetstream_api.specs.Finding.{needed, value_of}
use Rattle.pay_jetstream_api.specs.declared.fault.ApiFault.{ApiFault}
use Rattle.pay_jetstream_api.specs.declared.fault.ApiFault.TheVariants.{Memory, NotUnderstood}

pub as_value : (text : List ℕ) (value : Data) → IsUtf8 text × (read text ≡ Some value) → value_of text ≡ Ok value
as_value text value it = rw (is_utf8-from_IsUtf8 text it.0, it.1) refl

none : (text : List ℕ) → (IsUtf8 text → read text ≡ None) → value_of text ≡ Err NotUnderstood
none text unread = by (is_utf8 text) refl
  where
    by : (t : Bool) → is_utf8 text ≡ t → needed (cond t (read text) None) ≡ Err NotUnderstood
    by true utf8 = rw (unread (IsUtf8-from_is_utf8 text utf8)) refl
    by false utf8 = refl

pub as_none : (text : List ℕ) (error : Error) (fault : ApiFault) → (¬ IsMemory error → IsUtf8 text → read text ≡ None)
    → (IsMemory error → fault ≡ Memory) → (¬ IsMemory error → fault ≡ NotUnderstood) → fault ≢ Memory → value_of text ≡ Err fault
as_none text error fault unread memory other not_memory =
    let sound : ¬ IsMemory error = λ is. not_memory (memory is) in
    rw (other sound) (none text (unread sound))
