-- What is written to a server, one request after another.
use Rattle.std.proofs.Common.{◌≡◌, ℕ, suc, List, [], ◌∷◌, ◌++◌, append-nil, refl, sym, ap, ◌∙◌, subst, Option, Some, None, Ok, Err}
use Rattle.std.specs.Prelude.{Result, OnOk, codes}
use Rattle.std.specs.Io.KnownBytes.{Appends}
use Rattle.std.specs.List.{AllByRecursion}
use Rattle.std.proofs.KnownBytes.{Appends-nil, Appends-trans}
use Rattle.std.proofs.lemmas.Grind.{flat_map-append}
use Rattle.pay_nats.specs.Requests.{Asked, Connect, Ping, Pong, Subscribe, Unsubscribe, Publish, Published, request_bytes}
use Rattle.serde_json.specs.Written.{compact_text}
use Rattle.pay_jetstream_api.specs.Words.{consumer_value}
use Rattle.pay_jetstream.specs.Asks.{Answers, Asks, IsGoingOn, answers_sid, but_pongs, go_on, greeting, question}
use Rattle.pay_jetstream.specs.Opening.{consumer_request, lines_sid, opening, stream_request}

but_pongs-append : (xs ys : List Asked) → but_pongs (xs ++ ys) ≡ but_pongs xs ++ but_pongs ys
but_pongs-append [] ys = refl
but_pongs-append (Pong ∷ xs) ys = but_pongs-append xs ys
but_pongs-append (Connect ∷ xs) ys = ap (λ l. Connect ∷ l) (but_pongs-append xs ys)
but_pongs-append (Ping ∷ xs) ys = ap (λ l. Ping ∷ l) (but_pongs-append xs ys)
but_pongs-append (Subscribe subject sid ∷ xs) ys = ap (λ l. Subscribe subject sid ∷ l) (but_pongs-append xs ys)
but_pongs-append (Unsubscribe sid ∷ xs) ys = ap (λ l. Unsubscribe sid ∷ l) (but_pongs-append xs ys)
but_pongs-append (Publish it ∷ xs) ys = ap (λ l. Publish it ∷ l) (but_pongs-append xs ys)

all_both : (xs ys : List Asked) → AllByRecursion IsGoingOn xs → AllByRecursion IsGoingOn ys → AllByRecursion IsGoingOn (xs ++ ys)
all_both [] ys all more = more
all_both (x ∷ xs) ys all more = (all.0, all_both xs ys all.1 more)

-- ---- in requests that are asked for

pub asks_none : (a : Option (List ℕ)) → Asks [] a a
asks_none a = record { requests = []; are = refl; written = Appends-nil a }

-- one request, by what is left of it without `PONG`
pub asks_one : (request : Asked) (own : List Asked) (a b : Option (List ℕ)) → but_pongs (request ∷ []) ≡ own → Appends a b (request_bytes request) → Asks own a b
asks_one request own a b are written = record { requests = request ∷ []; are = are; written = subst (Appends a b) (sym (append-nil (request_bytes request))) written }

pub asks_then : (xs ys : List Asked) (a b c : Option (List ℕ)) → Asks xs a b → Asks ys b c → Asks (xs ++ ys) a c
asks_then xs ys a b c first later = record {
  requests = first.requests ++ later.requests;
  are = but_pongs-append first.requests later.requests ∙ ap (λ l. l ++ but_pongs later.requests) first.are ∙ ap (λ l. xs ++ l) later.are;
  written = subst (Appends a c) (sym (flat_map-append request_bytes first.requests later.requests)) (Appends-trans a b c _ _ first.written later.written);
}

-- a `PONG` more
pub asks_pong : (xs : List Asked) (a b c : Option (List ℕ)) → Asks xs a b → Appends b c (request_bytes Pong) → Asks xs a c
asks_pong xs a b c first written = subst (λ l. Asks l a c) (append-nil xs) (asks_then xs [] a b c first (asks_one Pong [] b c refl written))

-- ---- in answers

pub answers_none : (a : Option (List ℕ)) → Answers a a
answers_none a = ([], tt, asks_none a)

pub answers_pong : (a b : Option (List ℕ)) → Appends a b (request_bytes Pong) → Answers a b
answers_pong a b written = ([], tt, asks_one Pong [] a b refl written)

pub answers_go_on : (subject : List ℕ) (a b : Option (List ℕ)) → Appends a b (request_bytes (go_on subject)) → Answers a b
answers_go_on subject a b written = (go_on subject ∷ [], ((subject, refl), tt), asks_one (go_on subject) (go_on subject ∷ []) a b refl written)

pub answers_then : (a b c : Option (List ℕ)) → Answers a b → Answers b c → Answers a c
answers_then a b c first later = (first.0 ++ later.0, all_both first.0 later.0 first.1 later.1, asks_then first.0 later.0 a b c first.2 later.2)

-- ---- whole openings

pub greets : (inbox lent : List ℕ) (a b c d : Option (List ℕ)) → lent ≡ inbox → Appends a b (request_bytes Connect) → Appends b c (request_bytes (Subscribe lent answers_sid)) → Appends c d (request_bytes Ping) → Asks (greeting inbox) a d
greets inbox lent a b c d same first then_answers last =
    subst (λ l. Asks (greeting l) a d) same
    (asks_then (Connect ∷ []) (Subscribe lent answers_sid ∷ Ping ∷ []) a b d (asks_one Connect (Connect ∷ []) a b refl first)
    (asks_then (Subscribe lent answers_sid ∷ []) (Ping ∷ []) b c d (asks_one (Subscribe lent answers_sid) (Subscribe lent answers_sid ∷ []) b c refl then_answers) (asks_one Ping (Ping ∷ []) c d refl last)))

pub asks_question : {A E : Type 0} (r : Result A E) (inbox lent subject payload : List ℕ) (it : Published) (a b c : Option (List ℕ)) → lent ≡ inbox
    → it ≡ record { subject = subject; reply = Some lent; headers = None; payload = payload } → Appends a b (request_bytes (Publish it)) → OnOk r (Asks [] b c) → OnOk r (Asks (question inbox subject payload ∷ []) a c)
asks_question (Err e) inbox lent subject payload it a b c same is written waits = tt
asks_question (Ok x) inbox lent subject payload it a b c same is written waits =
    subst (λ l. Asks (question l subject payload ∷ []) a c) same
    (asks_then (question lent subject payload ∷ []) [] a b c
    (asks_one (question lent subject payload) (question lent subject payload ∷ []) a b refl (subst (λ p. Appends a b (request_bytes (Publish p))) is written)) waits)

pub opens : (inbox mid subject payload stream deliver lines : List ℕ) (last next : ℕ) (a b c d e : Option (List ℕ)) → Asks (stream_request inbox stream ∷ []) a b → mid ≡ inbox
    → subject ≡ codes "$JS.API." ++ (codes "CONSUMER.CREATE." ++ stream) → payload ≡ compact_text (consumer_value stream deliver next) → next ≡ suc last → Asks (question mid subject payload ∷ []) b c
    → lines ≡ deliver → Appends c d (request_bytes (Subscribe lines lines_sid)) → e ≡ d → Asks (opening inbox stream deliver last) a e
opens inbox mid subject payload stream deliver lines last next a b c d e first same subject_is payload_is next_is second lines_is third end =
    let asked_second : Asks (consumer_request inbox stream deliver (suc last) ∷ []) b c =
    subst (λ n. Asks (question inbox (codes "$JS.API." ++ (codes "CONSUMER.CREATE." ++ stream)) (compact_text (consumer_value stream deliver n)) ∷ []) b c) next_is
    (subst (λ p. Asks (question inbox (codes "$JS.API." ++ (codes "CONSUMER.CREATE." ++ stream)) p ∷ []) b c) payload_is
    (subst (λ s. Asks (question inbox s payload ∷ []) b c) subject_is
    (subst (λ i. Asks (question i subject payload ∷ []) b c) same second))) in
    let subscribed : Asks (Subscribe deliver lines_sid ∷ []) c d =
    subst (λ l. Asks (Subscribe l lines_sid ∷ []) c d) lines_is (asks_one (Subscribe lines lines_sid) (Subscribe lines lines_sid ∷ []) c d refl third) in
    subst (λ o. Asks (opening inbox stream deliver last) a o) (sym end)
    (asks_then (stream_request inbox stream ∷ []) (consumer_request inbox stream deliver (suc last) ∷ Subscribe deliver lines_sid ∷ []) a b d first
    (asks_then (consumer_request inbox stream deliver (suc last) ∷ []) (Subscribe deliver lines_sid ∷ []) b c d asked_second subscribed))
