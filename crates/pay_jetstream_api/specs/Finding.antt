-- What is found in a text of JSON, by JSON pointers (RFC 6901).
use Rattle.std.specs.Prelude.{ℕ, Bool, false, List, Option, Some, None, Result, Ok, Err, if◌then◌else◌, option_and_then, unwrap_or}
use Rattle.std.specs.Str.{is_utf8}
use Rattle.serde_json.specs.Data.{Data}
use Rattle.serde_json.specs.Find.{as_bool, as_number, as_str, as_u64, pointer}
use Rattle.serde_json.specs.Read.{read}
use Rattle.pay_jetstream_api.specs.declared.fault.ApiFault.{ApiFault}
use Rattle.pay_jetstream_api.specs.declared.fault.ApiFault.TheVariants.{NotUnderstood}

infixl 10 ◌>>=◌
abbrev pub ◌>>=◌ : {A B : Type 0} → Result A ApiFault → (A → Result B ApiFault) → Result B ApiFault
Ok x >>= f = f x
Err fault >>= f = Err fault

-- what has to be there
abbrev pub needed : {A : Type 0} → Option A → Result A ApiFault
needed (Some x) = Ok x
needed None = Err NotUnderstood

-- the value that a text is: UTF-8, and JSON
abbrev pub value_of : List ℕ → Result Data ApiFault
value_of text = needed (if is_utf8 text then read text else None)

-- the whole number at a pointer, if there is one of up to 64 bits
unfoldable pub number_at : List ℕ → Data → Option ℕ
number_at path value = option_and_then as_u64 (option_and_then as_number (pointer path value))

-- the text at a pointer, if there is one
unfoldable pub text_at : List ℕ → Data → Option (List ℕ)
text_at path value = option_and_then as_str (pointer path value)

-- whether `true` stands there
unfoldable pub is_said : List ℕ → Data → Bool
is_said path value = unwrap_or (option_and_then as_bool (pointer path value)) false
