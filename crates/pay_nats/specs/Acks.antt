-- The subjects under which a stream sends for acknowledgements, which say where a message stands in the stream.
use Rattle.std.specs.Prelude.{ℕ, ◌≡◌, ◌<◌, ◌^◌, false, List, [], ◌∷◌, codes, decimal, refl}
use Rattle.std.specs.Fmt.{digits}
use Rattle.std.specs.List.{join_with_byte, list_any}
use Rattle.pay_nats.specs.Parts.{is_byte}
use Rattle.pay_nats.specs.declared.ack.Ack.{Ack}

-- what such a subject says, without where it lies in memory
pub record AckOf : Type 0 where
  pub stream : List ℕ
  pub consumer : List ℕ
  pub delivered : ℕ
  pub place : ℕ
  pub consumer_place : ℕ
  pub time : ℕ
  pub pending : ℕ

abbrev pub acked : Ack → AckOf
acked it = record { stream = it.stream.now; consumer = it.consumer.now; delivered = it.delivered; place = it.place; consumer_place = it.consumer_place; time = it.time; pending = it.pending }

-- its nine tokens, with a dot between each two
abbrev pub ack_subject : AckOf → List ℕ
ack_subject it =
    join_with_byte 46 (codes "$JS" ∷ codes "ACK" ∷ it.stream ∷ it.consumer ∷ decimal it.delivered ∷ decimal it.place ∷ decimal it.consumer_place ∷ decimal it.time ∷ decimal it.pending ∷ [])

-- no dot
abbrev pub HasNoDot : List ℕ → Type 0
HasNoDot token = list_any (is_byte 46) token ≡ false

-- the names have no dot, and the numbers up to 64 bits
pub record IsAck (it : AckOf) : Type 0 where
  pub stream_named : HasNoDot it.stream
  pub consumer_named : HasNoDot it.consumer
  pub few_delivered : it.delivered < 2 ^ 64
  pub place_small : it.place < 2 ^ 64
  pub consumer_place_small : it.consumer_place < 2 ^ 64
  pub time_small : it.time < 2 ^ 64
  pub few_pending : it.pending < 2 ^ 64

-- ---- worked rows, of bytes that nats-server 2.9.10 sent

first_of_a_stream : ack_subject (record { stream = codes "FARES_0"; consumer = codes "oaK71Pl4"; delivered = 1; place = 1; consumer_place = 1; time = 1_795_784_087_968_560_486; pending = 1 })
    ≡ codes "$JS.ACK.FARES_0.oaK71Pl4.1.1.1.1795784087968560486.1"
unfolding digits
first_of_a_stream = refl
