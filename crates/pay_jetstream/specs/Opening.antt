-- How a partition is opened.
use Rattle.std.specs.Prelude.{◌≡◌, ℕ, suc, nat_lt, Bool, false, List, [], ◌∷◌, ◌++◌, Option, None, IfSome, Result, Ok, Err, ⊤, if◌then◌else◌, ◌&&◌, ◌||◌, ◌==◌, not, true, codes, refl}
use Rattle.std.specs.Str.{bytes_eq}
use Rattle.std.specs.Fmt.{digits}
use Rattle.json.specs.Print.{escape_byte}
use Rattle.serde_json.specs.Written.{compact_text}
use Rattle.pay_follow.specs.declared.stop.LogFault.{LogFault}
use Rattle.pay_follow.specs.declared.stop.LogFault.TheVariants as fault
use Rattle.pay_jetstream_api.specs.Words.{StreamOf, consumer_value, server_of}
use Rattle.pay_jetstream_api.specs.declared.server.Server.{Server}
use Rattle.pay_nats.specs.Frames.{Info, IsFrame, frame_bytes}
use Rattle.pay_nats.specs.Requests.{Asked, Subscribe, request_bytes}
use Rattle.pay_jetstream.specs.Asks.{question}

-- a server of version 2.10 or above is followed, if it has headers and JetStream
abbrev pub is_old : Server → Bool
is_old server = nat_lt server.major 2 || (server.major == 2 && nat_lt server.minor 10)

abbrev pub taken : Server → Result ⊤ LogFault
taken server =
    if is_old server then Err fault.TooOld
    else if server.has_headers && server.has_jetstream then Ok tt
    else Err fault.NotUnderstood

-- in the first frame a server says of itself what it is
abbrev pub SaysOfItself : List ℕ → Server → Type 0
SaysOfItself bytes server = (text : List ℕ) × (rest : List ℕ) × IsFrame (Info text) × (bytes ≡ frame_bytes (Info text) ++ rest) × (server_of text ≡ Ok server)

-- by it a server is followed, if it is known what the server sends
abbrev pub IsFollowed : Option (List ℕ) → Type 0
IsFollowed sent = IfSome sent (λ bytes. (server : Server) × SaysOfItself bytes server × (taken server ≡ Ok tt))

-- a stream is followed that has the description of a plan, its first line, and all that was read
abbrev pub had : StreamOf → List ℕ → ℕ → Result ⊤ LogFault
had stream description last =
    if not (bytes_eq stream.description description) then Err fault.Other
    else if nat_lt 1 stream.first then Err (fault.Cut stream.first)
    else if nat_lt stream.last last then Err (fault.Short last stream.last)
    else Ok tt

-- what JetStream is asked for, with an answer under a subject
abbrev pub api_request : List ℕ → List ℕ → List ℕ → List ℕ → Asked
api_request inbox asked stream payload = question inbox (codes "$JS.API." ++ (asked ++ stream)) payload

-- how a stream is
abbrev pub stream_request : List ℕ → List ℕ → Asked
stream_request inbox stream = api_request inbox (codes "STREAM.INFO.") stream []

-- a consumer that sends a subject the lines of a stream from a place on
abbrev pub consumer_request : List ℕ → List ℕ → List ℕ → ℕ → Asked
consumer_request inbox stream deliver place = api_request inbox (codes "CONSUMER.CREATE.") stream (compact_text (consumer_value stream deliver place))

-- the number of the subscription to lines
abbrev pub lines_sid : ℕ
lines_sid = 2

-- how the stream is, then the lines after a place, and only then the subscription to them
abbrev pub opening : List ℕ → List ℕ → List ℕ → ℕ → List Asked
opening inbox stream deliver last = stream_request inbox stream ∷ consumer_request inbox stream deliver (suc last) ∷ Subscribe deliver lines_sid ∷ []

-- ---- worked rows

abbrev a_stream : ℕ → ℕ → StreamOf
a_stream first last = record { description = codes "zone 3"; first = first; last = last; replicas = 3; leader = None }

all_there : had (a_stream 1 17) (codes "zone 3") 17 ≡ Ok tt
all_there = refl

nothing_yet : had (a_stream 0 0) (codes "zone 3") 0 ≡ Ok tt
nothing_yet = refl

another : had (a_stream 2 3) (codes "zone 4") 17 ≡ Err fault.Other
another = refl

cut : had (a_stream 2 3) (codes "zone 3") 17 ≡ Err (fault.Cut 2)
cut = refl

short : had (a_stream 1 16) (codes "zone 3") 17 ≡ Err (fault.Short 17 16)
short = refl

abbrev a_server : ℕ → ℕ → Bool → Server
a_server major minor has_jetstream = record { major = major; minor = minor; has_headers = true; has_jetstream = has_jetstream }

version_2_9 : taken (a_server 2 9 true) ≡ Err fault.TooOld
version_2_9 = refl

version_2_10 : taken (a_server 2 10 true) ≡ Ok tt
version_2_10 = refl

version_3_0 : taken (a_server 3 0 true) ≡ Ok tt
version_3_0 = refl

without_jetstream : taken (a_server 2 10 false) ≡ Err fault.NotUnderstood
without_jetstream = refl

after_the_first : request_bytes (consumer_request (codes "_INBOX.a") (codes "FARES_0") (codes "d.0") 2)
    ≡ codes "PUB $JS.API.CONSUMER.CREATE.FARES_0 _INBOX.a 235\r\n{\"config\":{\"ack_policy\":\"none\",\"deliver_policy\":\"by_start_sequence\",\"deliver_subject\":\"d.0\",\"flow_control\":true,\"idle_heartbeat\":1000000000,\"max_deliver\":1,\"mem_storage\":true,\"num_replicas\":1,\"opt_start_seq\":2},\"stream_name\":\"FARES_0\"}\r\n"
unfolding digits escape_byte
after_the_first = refl

lines : request_bytes (Subscribe (codes "d.0") lines_sid) ≡ codes "SUB d.0 2\r\n"
unfolding digits
lines = refl
