-- How a frame is read, a step at a time. Only private functions have these words in their contracts: what is read is said by the bytes of a frame alone.
use Rattle.std.specs.Prelude.{ℕ, ◌+◌, ◌-◌, ◌==◌, nat_lt, nat_le, List, [], ◌∷◌, ◌++◌, length, take, drop, Option, Some, None, Result, Ok, Err, if◌then◌else◌, codes, option_map, option_and_then}
use Rattle.std.specs.List.{position_or_len}
use Rattle.std.specs.Str.{bytes_eq}
use Rattle.pay_nats.specs.Faults.{is_newline, most_at}
use Rattle.pay_nats.specs.Lines.{crlf, spaced, with_word}
use Rattle.pay_nats.specs.Frames.{Address, Told, Meaning, Whole, Sized, is_text}
use Rattle.pay_nats.specs.Frames.{Info, Message, Ping, Pong, Done, Fault}
use Rattle.pay_numeral.specs.Numerals.{number_of}
use Rattle.pay_nats.specs.Parts.{is_space, parted}
use Rattle.pay_nats.specs.Subjects.{is_subject}
use Rattle.pay_nats.specs.declared.frame.FrameFault.{FrameFault}
use Rattle.pay_nats.specs.declared.frame.FrameFault.TheVariants.{Line, LongLine, LongPayload, Unended}
use Rattle.pay_nats.specs.declared.meaning.Verb.{Verb}
use Rattle.pay_nats.specs.declared.meaning.Verb.TheVariants as verb
use Rattle.pay_nats.specs.declared.limits.TheConstants.{MOST_PAYLOAD_BYTES}

infixl 10 ◌>>=◌
abbrev pub ◌>>=◌ : {A B : Type 0} → Option A → (A → Option B) → Option B
option >>= f = option_and_then f option

-- ---- the line

-- a line that ends with a CR, without it
abbrev pub without_cr : List ℕ → Result (Option (List ℕ)) FrameFault
without_cr line = if bytes_eq (drop (length line - 1) line) (13 ∷ []) then Ok (Some (take (length line - 1) line)) else Err Line

-- by where the first LF stands, or the length where there is none
abbrev pub line_to : List ℕ → ℕ → Result (Option (List ℕ)) FrameFault
line_to bytes end =
    if nat_lt (most_at bytes + 1) end then Err LongLine
    else if end == length bytes then Ok None
    else without_cr (take end bytes)

-- the first line without its CR LF, if there is a whole one
unfoldable pub first_line : List ℕ → Result (Option (List ℕ)) FrameFault
first_line bytes = line_to bytes (position_or_len is_newline bytes)

-- ---- what it says

-- the words of a message's line, the first apart
pub record Words : Type 0 where
  pub subject : List ℕ
  pub sid : List ℕ
  pub reply : Option (List ℕ)
  pub headers : Option (List ℕ)
  pub total : List ℕ

-- the text of the words
abbrev pub words_text : Words → List ℕ
words_text words = words.subject ++ spaced (words.sid ++ spaced (with_word words.reply (with_word words.headers words.total)))

-- the last words of a `MSG`
abbrev pub last_words : List ℕ → Option (List ℕ × List ℕ) → Option (List ℕ) × List ℕ
last_words text None = (None, text)
last_words text (Some it) = (Some it.0, it.1)

-- the words of a `MSG`
unfoldable pub message_words : List ℕ → Option Words
message_words text = do
  subject ← parted is_space text
  sid ← parted is_space subject.1
  Some (let it = last_words sid.1 (parted is_space sid.1) in record { subject = subject.0; sid = sid.0; reply = it.0; headers = None; total = it.1 })

-- the last words of an `HMSG`, after one that is the reply or the size of the headers
abbrev pub headed_by : List ℕ → List ℕ → List ℕ × List ℕ → Option (List ℕ × List ℕ) → Words
headed_by subject sid it None = record { subject = subject; sid = sid; reply = None; headers = Some it.0; total = it.1 }
headed_by subject sid it (Some sizes) = record { subject = subject; sid = sid; reply = Some it.0; headers = Some sizes.0; total = sizes.1 }

-- the words of an `HMSG`
unfoldable pub headed_words : List ℕ → Option Words
headed_words text = do
  subject ← parted is_space text
  sid ← parted is_space subject.1
  it ← parted is_space sid.1
  Some (headed_by subject.0 sid.0 it (parted is_space it.1))

-- some bytes, if they are a subject
abbrev pub if_subject : List ℕ → Option (List ℕ)
if_subject name = if is_subject name then Some name else None

-- a subject for an answer, if there is none or it is a subject
abbrev pub reply_of : Option (List ℕ) → Option (Option (List ℕ))
reply_of None = Some None
reply_of (Some name) = option_map (λ (it : List ℕ). Some it) (if_subject name)

-- how many bytes the headers have, of so many in all
abbrev pub headers_of : ℕ → Option (List ℕ) → Option (Option ℕ)
headers_of total None = Some None
headers_of total (Some word) = do
  headers ← number_of word
  if nat_le headers total then Some (Some headers) else None

unfoldable pub meaning_of_words : Words → Option Meaning
meaning_of_words words = do
  subject ← if_subject words.subject
  sid ← number_of words.sid
  reply ← reply_of words.reply
  total ← number_of words.total
  headers ← headers_of total words.headers
  Some (Sized (record { subject = subject; sid = sid; reply = reply }) headers total)

-- a text, if it has no CR and no LF
abbrev pub if_text : List ℕ → Option (List ℕ)
if_text text = if is_text text then Some text else None

-- the first word of a line of two words or more
unfoldable pub verb_of : List ℕ → Option Verb
verb_of word =
    if bytes_eq word (codes "MSG") then Some verb.Message
    else if bytes_eq word (codes "HMSG") then Some verb.Headed
    else if bytes_eq word (codes "INFO") then Some verb.Info
    else if bytes_eq word (codes "-ERR") then Some verb.Fault
    else None

-- what such a line says by that word, and what stands after it
abbrev pub meaning_by_verb : List ℕ → Verb → Option Meaning
meaning_by_verb text verb.Message = option_and_then meaning_of_words (message_words text)
meaning_by_verb text verb.Headed = option_and_then meaning_of_words (headed_words text)
meaning_by_verb text verb.Info = option_map (λ (it : List ℕ). Whole (Info it)) (if_text text)
meaning_by_verb text verb.Fault = option_map (λ (it : List ℕ). Whole (Fault it)) (if_text text)

-- what a line of one word says
unfoldable pub meaning_of_word : List ℕ → Option Meaning
meaning_of_word word =
    if bytes_eq word (codes "PING") then Some (Whole Ping)
    else if bytes_eq word (codes "PONG") then Some (Whole Pong)
    else if bytes_eq word (codes "+OK") then Some (Whole Done)
    else None

abbrev pub meaning_by : List ℕ → Option (List ℕ × List ℕ) → Option Meaning
meaning_by line None = meaning_of_word line
meaning_by line (Some it) = option_and_then (meaning_by_verb it.1) (verb_of it.0)

abbrev pub meaning_of : List ℕ → Option Meaning
meaning_of line = meaning_by line (parted is_space line)

-- ---- the frame

-- a message by its content
abbrev pub message_of : Address → Option ℕ → List ℕ → Told
message_of address None content = Message address None content
message_of address (Some headers) content = Message address (Some (take headers content)) (drop headers content)

-- the message whose content stands at the front, if all of it is there
unfoldable pub message_at : Address → Option ℕ → ℕ → List ℕ → Result (Option Told) FrameFault
message_at address headers total rest =
    if nat_lt MOST_PAYLOAD_BYTES total then Err LongPayload
    else if nat_lt (length rest) (total + 2) then Ok None
    else if bytes_eq (take 2 (drop total rest)) crlf then Ok (Some (message_of address headers (take total rest)))
    else Err Unended

-- a frame with the number of its bytes
abbrev pub with_taken : ℕ → Result (Option Told) FrameFault → Result (Option (Told × ℕ)) FrameFault
with_taken taken (Err fault) = Err fault
with_taken taken (Ok None) = Ok None
with_taken taken (Ok (Some frame)) = Ok (Some (frame, taken))

-- the frame of a line that says this, and of what stands after its CR LF
abbrev pub frame_by : ℕ → List ℕ → Option Meaning → Result (Option (Told × ℕ)) FrameFault
frame_by line rest None = Err Line
frame_by line rest (Some (Whole frame)) = Ok (Some (frame, line + 2))
frame_by line rest (Some (Sized address headers total)) = with_taken (line + total + 4) (message_at address headers total rest)

-- the first frame, if there is a line
abbrev pub frame_after : List ℕ → Result (Option (List ℕ)) FrameFault → Result (Option (Told × ℕ)) FrameFault
frame_after bytes (Err fault) = Err fault
frame_after bytes (Ok None) = Ok None
frame_after bytes (Ok (Some line)) = frame_by (length line) (drop (length line + 2) bytes) (meaning_of line)

abbrev pub frame_at : List ℕ → Result (Option (Told × ℕ)) FrameFault
frame_at bytes = frame_after bytes (first_line bytes)
