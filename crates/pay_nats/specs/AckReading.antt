-- How such a subject is read, a token at a time. Only private functions have these words in their contracts.
use Rattle.std.specs.Prelude.{ℕ, nat_eq, List, drop, Option, Some, None, option_and_then, if◌then◌else◌, codes}
use Rattle.std.specs.List.{starts_with}
use Rattle.pay_nats.specs.Acks.{AckOf}
use Rattle.pay_numeral.specs.Numerals.{number_of}
use Rattle.pay_nats.specs.Parts.{is_byte, parted}
use Rattle.pay_nats.specs.Reading.{◌>>=◌}
use Rattle.pay_nats.specs.declared.ack.Counts.{Counts}

-- the number before the first dot, and what stands after it
unfoldable pub number_before : List ℕ → Option (ℕ × List ℕ)
number_before text = do
  token ← parted (is_byte 46) text
  number ← number_of token.0
  Some (number, token.1)

-- the numbers of such a subject
unfoldable pub counts_of : List ℕ → Option Counts
counts_of text = do
  delivered ← number_before text
  place ← number_before delivered.1
  consumer_place ← number_before place.1
  time ← number_before consumer_place.1
  pending ← number_of time.1
  Some (record { delivered = delivered.0; place = place.0; consumer_place = consumer_place.0; time = time.0; pending = pending })

-- the names and the numbers after `$JS.ACK.`
unfoldable pub ack_in : List ℕ → Option AckOf
ack_in text = do
  stream ← parted (is_byte 46) text
  consumer ← parted (is_byte 46) stream.1
  counts ← counts_of consumer.1
  Some (record { stream = stream.0; consumer = consumer.0; delivered = counts.delivered; place = counts.place; consumer_place = counts.consumer_place; time = counts.time; pending = counts.pending })

-- what stands after the first two tokens, if they are those
abbrev pub without_prefix : List ℕ → Option (List ℕ)
without_prefix subject = if starts_with nat_eq subject (codes "$JS.ACK.") then Some (drop 8 subject) else None

abbrev pub ack_at : List ℕ → Option AckOf
ack_at subject = option_and_then ack_in (without_prefix subject)
