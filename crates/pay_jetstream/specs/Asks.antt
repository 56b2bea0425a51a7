-- What is written to a server, request after request.
use Rattle.std.specs.Prelude.{◌≡◌, ℕ, List, [], ◌∷◌, Option, None, Some, codes, refl}
use Rattle.std.specs.Fmt.{digits}
use Rattle.std.specs.Io.KnownBytes.{Appends}
use Rattle.std.specs.List.{AllByRecursion, flat_map}
use Rattle.pay_nats.specs.Requests.{Asked, Connect, Ping, Pong, Subscribe, Unsubscribe, Publish, request_bytes}

-- requests without those of `PONG`, which may come between any two
abbrev pub but_pongs : List Asked → List Asked
but_pongs [] = []
but_pongs (Pong ∷ requests) = but_pongs requests
but_pongs (Connect ∷ requests) = Connect ∷ but_pongs requests
but_pongs (Ping ∷ requests) = Ping ∷ but_pongs requests
but_pongs (Subscribe subject sid ∷ requests) = Subscribe subject sid ∷ but_pongs requests
but_pongs (Unsubscribe sid ∷ requests) = Unsubscribe sid ∷ but_pongs requests
but_pongs (Publish it ∷ requests) = Publish it ∷ but_pongs requests

-- these requests alone were written, each once and in order, beside `PONG`
pub record Asks (own : List Asked) (before after : Option (List ℕ)) : Type 0 where
  pub requests : List Asked
  pub are : but_pongs requests ≡ own
  pub written : Appends before after (flat_map request_bytes requests)

-- the number of the subscription to answers
abbrev pub answers_sid : ℕ
answers_sid = 1

-- what a client writes first, with answers under a subject
abbrev pub greeting : List ℕ → List Asked
greeting inbox = Connect ∷ Subscribe inbox answers_sid ∷ Ping ∷ []

-- something that is asked for under a subject, with an answer under another
abbrev pub question : List ℕ → List ℕ → List ℕ → Asked
question inbox subject payload = Publish (record { subject = subject; reply = Some inbox; headers = None; payload = payload })

-- an empty publication under a subject, by which a server goes on
abbrev pub go_on : List ℕ → Asked
go_on subject = Publish (record { subject = subject; reply = None; headers = None; payload = [] })

abbrev pub IsGoingOn : Asked → Type 0
IsGoingOn request = (subject : List ℕ) × (request ≡ go_on subject)

-- nothing was written but empty publications and `PONG`
abbrev pub Answers : Option (List ℕ) → Option (List ℕ) → Type 0
Answers before after = (own : List Asked) × AllByRecursion IsGoingOn own × Asks own before after

-- ---- worked rows

between_two : but_pongs (Pong ∷ Connect ∷ Pong ∷ Pong ∷ Subscribe (codes "a") 1 ∷ Ping ∷ Pong ∷ []) ≡ Connect ∷ Subscribe (codes "a") 1 ∷ Ping ∷ []
between_two = refl

a_greeting : flat_map request_bytes (greeting (codes "_INBOX.a"))
    ≡ codes "CONNECT {\"verbose\":false,\"pedantic\":false,\"headers\":true,\"no_responders\":true,\"lang\":\"rattle\",\"version\":\"0\",\"protocol\":1}\r\nSUB _INBOX.a 1\r\nPING\r\n"
unfolding digits
a_greeting = refl

a_question : request_bytes (question (codes "_INBOX.a") (codes "fares.0") (codes "{}")) ≡ codes "PUB fares.0 _INBOX.a 2\r\n{}\r\n"
unfolding digits
a_question = refl

flow_control : request_bytes (go_on (codes "$JS.FC.FARES_0.x.y")) ≡ codes "PUB $JS.FC.FARES_0.x.y 0\r\n\r\n"
unfolding digits
flow_control = refl
