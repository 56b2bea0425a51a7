-- What a client writes.
use Rattle.std.specs.Prelude.{ℕ, ◌≡◌, ◌<◌, ◌^◌, true, List, ◌++◌, length, Option, Some, None, IfSome, option_copied, codes, decimal, refl}
use Rattle.std.specs.Fmt.{digits}
use Rattle.pay_nats.specs.Lines.{crlf, spaced, with_word, with_h, content, content_sizes}
use Rattle.pay_nats.specs.Subjects.{is_subject}
use Rattle.pay_nats.specs.declared.request.Publication.{Publication}
use Rattle.pay_nats.specs.declared.request.Request.{Request}
use Rattle.pay_nats.specs.declared.request.Request.TheVariants as request

-- what is published, without where it lies in memory
pub record Published : Type 0 where
  pub subject : List ℕ
  pub reply : Option (List ℕ)
  pub headers : Option (List ℕ)
  pub payload : List ℕ

abbrev pub published : Publication → Published
published it = record { subject = it.subject.now; reply = option_copied it.reply; headers = option_copied it.headers; payload = it.payload.now }

-- what a client asks, without where it lies in memory
pub data Asked : Type 0 where
  Connect : Asked
  Ping : Asked
  Pong : Asked
  Subscribe : (subject : List ℕ) (sid : ℕ) → Asked
  Unsubscribe : (sid : ℕ) → Asked
  Publish : (it : Published) → Asked

abbrev pub asked : Request → Asked
asked request.Connect = Connect
asked request.Ping = Ping
asked request.Pong = Pong
asked (request.Subscribe subject sid) = Subscribe subject.now sid
asked (request.Unsubscribe sid) = Unsubscribe sid
asked (request.Publish it) = Publish (published it)

-- `CONNECT` and what the client can do
abbrev pub connect_line : List ℕ
connect_line = codes "CONNECT {\"verbose\":false,\"pedantic\":false,\"headers\":true,\"no_responders\":true,\"lang\":\"rattle\",\"version\":\"0\",\"protocol\":1}"

-- `SUB subject sid`
abbrev pub subscribe_line : List ℕ → ℕ → List ℕ
subscribe_line subject sid = codes "SUB " ++ (subject ++ spaced (decimal sid))

-- `UNSUB sid`
abbrev pub unsubscribe_line : ℕ → List ℕ
unsubscribe_line sid = codes "UNSUB " ++ decimal sid

-- `PUB subject reply total`, or `HPUB subject reply headers total`, where the reply may be missing
abbrev pub publish_line : Published → List ℕ
publish_line it =
    with_h it.headers (codes "PUB ") ++ (it.subject ++ spaced (with_word it.reply (content_sizes it.headers it.payload)))

-- that line, the headers and the payload, with a CR LF after the line and after the payload
abbrev pub publish_bytes : Published → List ℕ
publish_bytes it = publish_line it ++ (crlf ++ (content it.headers it.payload ++ crlf))

-- the bytes of a request
abbrev pub request_bytes : Asked → List ℕ
request_bytes Connect = connect_line ++ crlf
request_bytes Ping = codes "PING" ++ crlf
request_bytes Pong = codes "PONG" ++ crlf
request_bytes (Subscribe subject sid) = subscribe_line subject sid ++ crlf
request_bytes (Unsubscribe sid) = unsubscribe_line sid ++ crlf
request_bytes (Publish it) = publish_bytes it

-- both subjects are such, and the content has fewer bytes than 64 bits can say
pub record IsPublished (it : Published) : Type 0 where
  pub named : is_subject it.subject ≡ true
  pub reply_named : IfSome it.reply (λ reply. is_subject reply ≡ true)
  pub small : length (content it.headers it.payload) < 2 ^ 64

-- what a server understands
abbrev pub IsRequest : Asked → Type 0
IsRequest Connect = Unit {0}
IsRequest Ping = Unit {0}
IsRequest Pong = Unit {0}
IsRequest (Subscribe subject sid) = (is_subject subject ≡ true) × (sid < 2 ^ 64)
IsRequest (Unsubscribe sid) = sid < 2 ^ 64
IsRequest (Publish it) = IsPublished it

-- ---- worked rows

a_publication : publish_bytes (record { subject = codes "fares.0"; reply = Some (codes "_INBOX.a1.7"); headers = None; payload = codes "{}" })
    ≡ codes "PUB fares.0 _INBOX.a1.7 2\r\n{}\r\n"
unfolding digits
a_publication = refl

with_headers : publish_bytes (record { subject = codes "fares.0"; reply = None; headers = Some (codes "NATS/1.0\r\n\r\n"); payload = codes "TAP" })
    ≡ codes "HPUB fares.0 12 15\r\nNATS/1.0\r\n\r\nTAP\r\n"
unfolding digits
with_headers = refl
