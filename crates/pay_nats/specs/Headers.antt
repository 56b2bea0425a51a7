-- The headers of a message.
use Rattle.std.specs.Prelude.{ℕ, ◌≡◌, ◌==◌, Bool, true, not, ◌&&◌, List, [], ◌∷◌, ◌++◌, Option, Some, None, Contains, IfSome, find, option_map, codes, refl}
use Rattle.std.specs.List.{AllByRecursion, flat_map, list_all, slice_split}
use Rattle.std.specs.Str.{bytes_eq}
use Rattle.pay_nats.specs.Frames.{is_text}
use Rattle.pay_nats.specs.Lines.{crlf, spaced}
use Rattle.pay_nats.specs.Parts.{is_byte}
use Rattle.pay_nats.specs.Subjects.{is_visible}
use Rattle.pay_nats.specs.declared.headers.Field.{Field}

-- a field, without where it lies in memory
pub record FieldOf : Type 0 where
  pub name : List ℕ
  pub value : List ℕ

abbrev pub field_of : Field → FieldOf
field_of it = record { name = it.name.now; value = it.value.now }

-- headers: what the server says of the message, as `100 Idle Heartbeat`, and the fields
pub record HeadersOf : Type 0 where
  pub status : Option (List ℕ)
  pub fields : List FieldOf

-- `name: value` and a CR LF
abbrev pub field_bytes : FieldOf → List ℕ
field_bytes it = it.name ++ (codes ": " ++ (it.value ++ crlf))

-- a space and the status, if there is one
abbrev pub status_bytes : Option (List ℕ) → List ℕ
status_bytes None = []
status_bytes (Some status) = spaced status

-- `NATS/1.0` and the status, the fields, and an empty line
abbrev pub headers_bytes : HeadersOf → List ℕ
headers_bytes it = codes "NATS/1.0" ++ (status_bytes it.status ++ (crlf ++ (flat_map field_bytes it.fields ++ crlf)))

-- visible bytes without a colon, 58
abbrev pub is_name : List ℕ → Bool
is_name name = list_all (λ byte. is_visible byte && not (byte == 58)) name

pub record IsField (it : FieldOf) : Type 0 where
  pub named : is_name it.name ≡ true
  pub valued : is_text it.value ≡ true

-- what headers may be
pub record AreHeaders (it : HeadersOf) : Type 0 where
  pub said : IfSome it.status (λ status. is_text status ≡ true)
  pub each : AllByRecursion IsField it.fields

-- a field has this name
abbrev pub has_name : List ℕ → FieldOf → Bool
has_name name it = bytes_eq it.name name

-- the value of the first field with a name
abbrev pub value_in : List ℕ → List FieldOf → Option (List ℕ)
value_in name fields = option_map (λ it. it.value) (find (has_name name) fields)

-- the status stands in the first line
abbrev pub HasStatus : List ℕ → List ℕ → Type 0
HasStatus headers status = (rest : List ℕ) × (headers ≡ codes "NATS/1.0 " ++ (status ++ (crlf ++ rest)))

-- a field stands in a line
abbrev pub HasField : List ℕ → FieldOf → Type 0
HasField headers it = Contains (slice_split (is_byte 10) headers) (it.name ++ (codes ": " ++ (it.value ++ 13 ∷ [])))

-- ---- worked rows, of bytes that nats-server 2.9.10 sent

an_idle_heartbeat : headers_bytes (record { status = Some (codes "100 Idle Heartbeat"); fields = record { name = codes "Nats-Last-Consumer"; value = codes "2" } ∷ record { name = codes "Nats-Last-Stream"; value = codes "2" } ∷ [] })
    ≡ codes "NATS/1.0 100 Idle Heartbeat\r\nNats-Last-Consumer: 2\r\nNats-Last-Stream: 2\r\n\r\n"
an_idle_heartbeat = refl

its_place : value_in (codes "Nats-Last-Stream") (record { name = codes "Nats-Last-Consumer"; value = codes "1" } ∷ record { name = codes "Nats-Last-Stream"; value = codes "2" } ∷ []) ≡ Some (codes "2")
its_place = refl
