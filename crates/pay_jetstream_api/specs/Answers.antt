-- What a server's answers say.
use Rattle.std.specs.Prelude.{ℕ, [], List, Option, Result, Ok, Err, not, is_some, if◌then◌else◌, codes, option_map, string_bytes, unwrap_or, ⊤}
use Rattle.serde_json.specs.Data.{Data}
use Rattle.serde_json.specs.Find.{as_object, get}
use Rattle.pay_jetstream_api.specs.Finding.{◌>>=◌, is_said, needed, number_at, text_at, value_of}
use Rattle.pay_jetstream_api.specs.StreamNumbers.{numbers_in}
use Rattle.pay_jetstream_api.specs.Versions.{version_of}
use Rattle.pay_jetstream_api.specs.declared.fault.ApiFault.{ApiFault}
use Rattle.pay_jetstream_api.specs.declared.fault.ApiFault.TheVariants.{NotUnderstood, Refused}
use Rattle.pay_jetstream_api.specs.declared.server.Server.{Server}
use Rattle.pay_jetstream_api.specs.declared.stream.Counts.{Counts}
use Rattle.pay_jetstream_api.specs.declared.stream.Stream.{Stream}

-- ---- what the server says of itself

abbrev pub server_in : Data → Result Server ApiFault
server_in info = do
  version ← needed (text_at (codes "/version") info)
  numbers ← needed (version_of version)
  Ok (record { major = numbers.0; minor = numbers.1; has_headers = is_said (codes "/headers") info; has_jetstream = is_said (codes "/jetstream") info })

abbrev pub server_of : List ℕ → Result Server ApiFault
server_of text = do
  info ← value_of text
  server_in info

-- ---- any answer

-- the code of its error, and 0 where the error has none
abbrev pub code_in : Data → ℕ
code_in answer = unwrap_or (number_at (codes "/error/err_code") answer) 0

-- an answer is an object, and a refusal if it has an error
abbrev pub taken_in : Data → Result ⊤ ApiFault
taken_in answer =
    if not (is_some (as_object answer)) then Err NotUnderstood
    else if is_some (get (codes "error") answer) then Err (Refused (code_in answer))
    else Ok tt

abbrev pub taken_of : List ℕ → Result ⊤ ApiFault
taken_of text = do
  answer ← value_of text
  taken_in answer

-- ---- the acknowledgement of a publication

-- the place in the stream
abbrev pub place_in : Data → Result ℕ ApiFault
place_in answer = do
  _ ← taken_in answer
  needed (number_at (codes "/seq") answer)

abbrev pub place_of : List ℕ → Result ℕ ApiFault
place_of text = do
  answer ← value_of text
  place_in answer

-- ---- what is said of a stream

-- the numbers, if it is no refusal
abbrev pub counts_in : Data → Result Counts ApiFault
counts_in answer = do
  _ ← taken_in answer
  needed (numbers_in answer)

-- a stream, without where its texts lie in memory
pub record StreamOf : Type 0 where
  pub description : List ℕ
  pub first : ℕ
  pub last : ℕ
  pub replicas : ℕ
  pub leader : Option (List ℕ)

abbrev pub stream_seen : Stream → StreamOf
stream_seen it = record { description = string_bytes it.description; first = it.first; last = it.last; replicas = it.replicas; leader = option_map string_bytes it.leader }

abbrev pub description_in : Data → List ℕ
description_in answer = unwrap_or (text_at (codes "/config/description") answer) []

abbrev pub leader_in : Data → Option (List ℕ)
leader_in = text_at (codes "/cluster/leader")

abbrev pub stream_in : Data → Result StreamOf ApiFault
stream_in answer = do
  counts ← counts_in answer
  Ok (record { description = description_in answer; first = counts.first; last = counts.last; replicas = counts.replicas; leader = leader_in answer })

abbrev pub stream_of : List ℕ → Result StreamOf ApiFault
stream_of text = do
  answer ← value_of text
  stream_in answer
