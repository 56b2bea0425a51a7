-- When no frame begins with some bytes.
use Rattle.std.specs.Prelude.{ℕ, ◌≡◌, ◌≢◌, ◌+◌, ◌<◌, ◌≤◌, ◌==◌, nat_eq, Bool, false, List, [], ◌∷◌, ◌++◌, length, take, drop, Option, if◌then◌else◌, codes}
use Rattle.std.specs.List.{list_any, starts_with}
use Rattle.pay_nats.specs.Frames.{Address, IsMeaning, IsSized, Meaning, meaning_line, message_line}
use Rattle.pay_nats.specs.Lines.{crlf}
use Rattle.pay_nats.specs.declared.frame.FrameFault.{FrameFault}
use Rattle.pay_nats.specs.declared.frame.FrameFault.TheVariants.{Line, LongLine, LongPayload, Unended}
use Rattle.pay_nats.specs.declared.limits.TheConstants.{MOST_INFO_BYTES, MOST_LINE_BYTES, MOST_PAYLOAD_BYTES}

-- 10
abbrev pub is_newline : ℕ → Bool
is_newline byte = byte == 10

-- no LF
abbrev pub HasNoNewline : List ℕ → Type 0
HasNoNewline text = list_any is_newline text ≡ false

-- how many bytes the line may have with which some bytes begin
abbrev pub most_at : List ℕ → ℕ
most_at bytes = if starts_with nat_eq bytes (codes "INFO ") then MOST_INFO_BYTES else MOST_LINE_BYTES

-- no line ends within the bytes that it and its CR LF may have
pub record HasLongLine (bytes : List ℕ) : Type 0 where
  pub many : most_at bytes + 2 ≤ length bytes
  pub none_ends : HasNoNewline (take (most_at bytes + 2) bytes)

-- a line ends there, and says nothing that a server says
pub record HasStrangeLine (bytes : List ℕ) : Type 0 where
  pub text : List ℕ
  pub rest : List ℕ
  pub whole : bytes ≡ text ++ 10 ∷ rest
  pub first : HasNoNewline text
  pub short : length text ≤ most_at bytes + 1
  pub strange : (meaning : Meaning) → IsMeaning meaning → text ≢ meaning_line meaning ++ 13 ∷ []

-- the line of a message with so many bytes stands there, before the rest
pub record HasMessage (bytes : List ℕ) (total : ℕ) (rest : List ℕ) : Type 0 where
  pub address : Address
  pub headers : Option ℕ
  pub sized : IsSized address headers total
  pub short : length (message_line address headers total) ≤ MOST_LINE_BYTES
  pub whole : bytes ≡ message_line address headers total ++ (crlf ++ rest)

-- that are too many
abbrev pub HasLongPayload : List ℕ → Type 0
HasLongPayload bytes = (total : ℕ) × (rest : List ℕ) × HasMessage bytes total rest × (MOST_PAYLOAD_BYTES < total)

-- after which no CR LF stands
pub record HasNoEnd (bytes : List ℕ) : Type 0 where
  pub total : ℕ
  pub rest : List ℕ
  pub message : HasMessage bytes total rest
  pub few : total ≤ MOST_PAYLOAD_BYTES
  pub all : total + 2 ≤ length rest
  pub unended : take 2 (drop total rest) ≢ crlf

-- why no frame begins so
abbrev pub Because : FrameFault → List ℕ → Type 0
Because Line bytes = HasStrangeLine bytes
Because LongLine bytes = HasLongLine bytes
Because LongPayload bytes = HasLongPayload bytes
Because Unended bytes = HasNoEnd bytes
