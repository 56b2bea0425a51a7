-- What a server sends.
use Rattle.std.specs.Prelude.{ℕ, ◌≡◌, ◌<◌, ◌≤◌, ◌^◌, ◌==◌, Bool, true, not, ◌&&◌, List, [], ◌++◌, length, drop, Option, Some, None, IfSome, option_map, codes, decimal, refl}
use Rattle.std.specs.Fmt.{digits}
use Rattle.std.specs.List.{list_all}
use Rattle.pay_nats.specs.Lines.{crlf, spaced, with_word, sizes, with_h, content}
use Rattle.pay_nats.specs.Subjects.{is_subject}
use Rattle.pay_nats.specs.declared.limits.TheConstants.{MOST_INFO_BYTES, MOST_LINE_BYTES, MOST_PAYLOAD_BYTES}

-- to whom a message is sent: the subject under which it was published, the number of the subscription, and the subject for an answer, if one is wanted
pub record Address : Type 0 where
  pub subject : List ℕ
  pub sid : ℕ
  pub reply : Option (List ℕ)

-- what a server sends, without where it lies in memory
pub data Told : Type 0 where
  Info : (text : List ℕ) → Told
  Message : (address : Address) (headers : Option (List ℕ)) (payload : List ℕ) → Told
  Ping : Told
  Pong : Told
  Done : Told
  Fault : (text : List ℕ) → Told

-- `MSG subject sid reply total`, or `HMSG subject sid reply headers total`, where the reply may be missing
abbrev pub message_line : Address → Option ℕ → ℕ → List ℕ
message_line address headers total =
    with_h headers (codes "MSG ") ++ (address.subject ++ spaced (decimal address.sid ++ spaced (with_word address.reply (sizes headers total))))

-- the line of a frame, without its CR LF
abbrev pub frame_line : Told → List ℕ
frame_line (Info text) = codes "INFO " ++ text
frame_line (Message address headers payload) = message_line address (option_map length headers) (length (content headers payload))
frame_line Ping = codes "PING"
frame_line Pong = codes "PONG"
frame_line Done = codes "+OK"
frame_line (Fault text) = codes "-ERR " ++ text

-- what stands after the line: of a message its content and a CR LF
abbrev pub frame_body : Told → List ℕ
frame_body (Info text) = []
frame_body (Message address headers payload) = content headers payload ++ crlf
frame_body Ping = []
frame_body Pong = []
frame_body Done = []
frame_body (Fault text) = []

-- the bytes of a frame
abbrev pub frame_bytes : Told → List ℕ
frame_bytes frame = frame_line frame ++ (crlf ++ frame_body frame)

-- no CR or LF
abbrev pub is_text : List ℕ → Bool
is_text text = list_all (λ byte. not (byte == 13) && not (byte == 10)) text

-- both subjects are such, and the number has up to 64 bits
pub record IsAddress (address : Address) : Type 0 where
  pub subject : is_subject address.subject ≡ true
  pub sid : address.sid < 2 ^ 64
  pub reply : IfSome address.reply (λ reply. is_subject reply ≡ true)

-- each part of a frame is what it has to be
abbrev pub HasParts : Told → Type 0
HasParts (Info text) = is_text text ≡ true
HasParts (Message address headers payload) = IsAddress address × (length (content headers payload) ≤ MOST_PAYLOAD_BYTES)
HasParts Ping = Unit {0}
HasParts Pong = Unit {0}
HasParts Done = Unit {0}
HasParts (Fault text) = is_text text ≡ true

-- how many bytes its line may have
abbrev pub most_line : Told → ℕ
most_line (Info text) = MOST_INFO_BYTES
most_line (Message address headers payload) = MOST_LINE_BYTES
most_line Ping = MOST_LINE_BYTES
most_line Pong = MOST_LINE_BYTES
most_line Done = MOST_LINE_BYTES
most_line (Fault text) = MOST_LINE_BYTES

-- what a server may send
pub record IsFrame (frame : Told) : Type 0 where
  pub parts : HasParts frame
  pub line : length (frame_line frame) ≤ most_line frame

-- a frame stands at the front of some bytes, and has so many of them
pub record StandsAt (bytes : List ℕ) (frame : Told) (taken : ℕ) : Type 0 where
  pub sound : IsFrame frame
  pub taken_are : taken ≡ length (frame_bytes frame)
  pub whole : bytes ≡ frame_bytes frame ++ drop taken bytes

-- what a line says: a whole frame, or to whom a message is and how many bytes of headers and in all follow
pub data Meaning : Type 0 where
  Whole : (frame : Told) → Meaning
  Sized : (address : Address) (headers : Option ℕ) (total : ℕ) → Meaning

-- the line that says it
abbrev pub meaning_line : Meaning → List ℕ
meaning_line (Whole frame) = frame_line frame
meaning_line (Sized address headers total) = message_line address headers total

-- a frame is its line alone
abbrev pub IsAlone : Told → Type 0
IsAlone (Info text) = Unit {0}
IsAlone (Message address headers payload) = ⊥
IsAlone Ping = Unit {0}
IsAlone Pong = Unit {0}
IsAlone Done = Unit {0}
IsAlone (Fault text) = Unit {0}

-- the numbers have up to 64 bits, and the headers are a part of all bytes
pub record IsSized (address : Address) (headers : Option ℕ) (total : ℕ) : Type 0 where
  pub addressed : IsAddress address
  pub within : IfSome headers (λ bytes. bytes ≤ total)
  pub small : total < 2 ^ 64

-- what a line of a server may say
abbrev pub IsMeaning : Meaning → Type 0
IsMeaning (Whole frame) = IsAlone frame × HasParts frame
IsMeaning (Sized address headers total) = IsSized address headers total

-- ---- worked rows, of bytes that nats-server 2.9.10 sent

a_message : frame_bytes (Message (record { subject = codes "_INBOX.a1.7"; sid = 1; reply = None }) None (codes "{\"stream\":\"FARES_0\", \"seq\":1}"))
    ≡ codes "MSG _INBOX.a1.7 1 29\r\n{\"stream\":\"FARES_0\", \"seq\":1}\r\n"
unfolding digits
a_message = refl

a_flow_control : frame_bytes (Message (record { subject = codes "d.0"; sid = 2; reply = Some (codes "$JS.FC.FARES_0.xZZJyTEe.qW8T") }) (Some (codes "NATS/1.0 100 FlowControl Request\r\n\r\n")) [])
    ≡ codes "HMSG d.0 2 $JS.FC.FARES_0.xZZJyTEe.qW8T 36 36\r\nNATS/1.0 100 FlowControl Request\r\n\r\n\r\n"
unfolding digits
a_flow_control = refl

an_error : frame_bytes (Fault (codes "'Unknown Protocol Operation'")) ≡ codes "-ERR 'Unknown Protocol Operation'\r\n"
an_error = refl
