-- A subject for acknowledgements is found, and is the one that says so.
use Rattle.std.proofs.Common.{◌≡◌, ◌∙◌, ◌^◌, ℕ, ◌<◌, List, ◌∷◌, ◌++◌, drop, Option, Some, None, option_map, refl, sym, ap, subst, arith, codes}
use Rattle.std.specs.Prelude.{IfSome, decimal, nat_eq}
use Rattle.std.specs.List.{starts_with}
use Rattle.std.proofs.lemmas.Bool.{ne_eqb}
use Rattle.std.proofs.lemmas.Bool.Decides.{Decides-eqb}
use Rattle.std.proofs.lemmas.Fmt.{decimal_is_IsNumeral}
use Rattle.std.proofs.lemmas.Option.{cond_some, same_Some, some_pair_parts}
use Rattle.std.proofs.lemmas.Slice.Eq.{starts_is}
use Rattle.pay_nats.specs.AckReading.{ack_at, ack_in, without_prefix, counts_of, number_before}
use Rattle.pay_nats.specs.Acks.{AckOf, HasNoDot, IsAck, ack_subject, acked}
use Rattle.pay_numeral.specs.Numerals.{number_of}
use Rattle.pay_nats.specs.Parts.{is_byte, parted}
use Rattle.pay_nats.specs.declared.ack.Ack.{Ack}
use Rattle.pay_nats.specs.declared.ack.Counts.{Counts}
use Rattle.pay_nats.proofs.Bytes.{no_digit}
use Rattle.pay_nats.proofs.MessageWords.{bind_some}
use Rattle.pay_numeral.proofs.Numbered.{number_again, number_is}
use Rattle.pay_nats.proofs.TwoParts.{parted_again, parted_is}

no_dot_in : (n : ℕ) → n < 2 ^ 64 → HasNoDot (decimal n)
no_dot_in n small = no_digit (is_byte 46) (λ c low high. ne_eqb c 46 (λ e. omega arith)) (decimal n) (decimal_is_IsNumeral n small).0.1

-- ---- a number

before_again : (n : ℕ) (rest : List ℕ) → n < 2 ^ 64 → number_before (decimal n ++ 46 ∷ rest) ≡ Some (n, rest)
unfolding number_before
before_again n rest small = rw (parted_again 46 (decimal n) rest (no_dot_in n small), number_again n small) refl

before_is : (text rest : List ℕ) (n : ℕ) → number_before text ≡ Some (n, rest) → (text ≡ decimal n ++ 46 ∷ rest) × (n < 2 ^ 64)
unfolding number_before
before_is text rest n e =
    let token = bind_some (parted (is_byte 46) text) _ (n, rest) e in
    let number = bind_some (number_of token.0.0) _ (n, rest) token.2 in
    parts token.0.0 token.0.1 number.0 (parted_is 46 text token.0.0 token.0.1 token.1).0 (number_is token.0.0 number.0 number.1) (some_pair_parts number.0 n token.0.1 rest number.2)
  where
    parts : (token more : List ℕ) (m : ℕ) → text ≡ token ++ 46 ∷ more → (token ≡ decimal m) × (m < 2 ^ 64) → (m ≡ n) × (more ≡ rest) → (text ≡ decimal n ++ 46 ∷ rest) × (n < 2 ^ 64)
    parts token more m whole is same = (whole ∙ cc (is.0, same.0, same.1), omega (arith, is.1, same.0))

-- ---- the numbers

abbrev counts_text : Counts → List ℕ
counts_text it = decimal it.delivered ++ 46 ∷ (decimal it.place ++ 46 ∷ (decimal it.consumer_place ++ 46 ∷ (decimal it.time ++ 46 ∷ decimal it.pending)))

record AreSmall (it : Counts) : Type 0 where
  delivered_small : it.delivered < 2 ^ 64
  place_small : it.place < 2 ^ 64
  consumer_place_small : it.consumer_place < 2 ^ 64
  time_small : it.time < 2 ^ 64
  pending_small : it.pending < 2 ^ 64

counts_again : (it : Counts) → AreSmall it → counts_of (counts_text it) ≡ Some it
unfolding counts_of
counts_again it are =
    rw (
      before_again it.delivered (decimal it.place ++ 46 ∷ (decimal it.consumer_place ++ 46 ∷ (decimal it.time ++ 46 ∷ decimal it.pending))) are.delivered_small,
      before_again it.place (decimal it.consumer_place ++ 46 ∷ (decimal it.time ++ 46 ∷ decimal it.pending)) are.place_small,
      before_again it.consumer_place (decimal it.time ++ 46 ∷ decimal it.pending) are.consumer_place_small,
      before_again it.time (decimal it.pending) are.time_small,
      number_again it.pending are.pending_small,
    ) refl

counts_is : (text : List ℕ) (it : Counts) → counts_of text ≡ Some it → (text ≡ counts_text it) × AreSmall it
unfolding counts_of
counts_is text it e =
    let a = bind_some (number_before text) _ it e in
    let b = bind_some (number_before a.0.1) _ it a.2 in
    let c = bind_some (number_before b.0.1) _ it b.2 in
    let d = bind_some (number_before c.0.1) _ it c.2 in
    let f = bind_some (number_of d.0.1) _ it d.2 in
    subst (λ (x : Counts). (text ≡ counts_text x) × AreSmall x) (same_Some _ _ f.2)
    (parts a.0.0 b.0.0 c.0.0 d.0.0 f.0 a.0.1 b.0.1 c.0.1 d.0.1 (before_is text a.0.1 a.0.0 a.1) (before_is a.0.1 b.0.1 b.0.0 b.1) (before_is b.0.1 c.0.1 c.0.0 c.1) (before_is c.0.1 d.0.1 d.0.0 d.1) (number_is d.0.1 f.0 f.1))
  where
    parts : (delivered place consumer_place time pending : ℕ) (a b c d : List ℕ) → (text ≡ decimal delivered ++ 46 ∷ a) × (delivered < 2 ^ 64) → (a ≡ decimal place ++ 46 ∷ b) × (place < 2 ^ 64)
        → (b ≡ decimal consumer_place ++ 46 ∷ c) × (consumer_place < 2 ^ 64) → (c ≡ decimal time ++ 46 ∷ d) × (time < 2 ^ 64) → (d ≡ decimal pending) × (pending < 2 ^ 64)
        → let it : Counts = record { delivered = delivered; place = place; consumer_place = consumer_place; time = time; pending = pending } in (text ≡ counts_text it) × AreSmall it
    parts delivered place consumer_place time pending a b c d one two three four five = (
      cc (one.0, two.0, three.0, four.0, five.0),
      record { delivered_small = one.1; place_small = two.1; consumer_place_small = three.1; time_small = four.1; pending_small = five.1 },
    )

-- ---- all of it

counts_in : AckOf → Counts
counts_in it = record { delivered = it.delivered; place = it.place; consumer_place = it.consumer_place; time = it.time; pending = it.pending }

rest_again : (it : AckOf) → IsAck it → ack_in (it.stream ++ 46 ∷ (it.consumer ++ 46 ∷ counts_text (counts_in it))) ≡ Some it
unfolding ack_in counts_in
rest_again it is =
    let small : AreSmall (counts_in it) = record { delivered_small = is.few_delivered; place_small = is.place_small; consumer_place_small = is.consumer_place_small; time_small = is.time_small; pending_small = is.few_pending } in
    rw (parted_again 46 it.stream (it.consumer ++ 46 ∷ counts_text (counts_in it)) is.stream_named, parted_again 46 it.consumer (counts_text (counts_in it)) is.consumer_named, counts_again (counts_in it) small) refl

pub ack_again : (subject : List ℕ) (it : AckOf) → IsAck it → subject ≡ ack_subject it → ack_at subject ≡ Some it
unfolding counts_in
ack_again subject it is e = ap ack_at e ∙ rest_again it is

-- the subject that is spelled so
abbrev Spells : List ℕ → AckOf → Type 0
Spells subject it = IsAck it × (subject ≡ ack_subject it)

front_is : (text : List ℕ) (it : AckOf) → ack_in text ≡ Some it → Spells (codes "$JS.ACK." ++ text) it
unfolding ack_in
front_is text it e =
    let stream = bind_some (parted (is_byte 46) text) _ it e in
    let consumer = bind_some (parted (is_byte 46) stream.0.1) _ it stream.2 in
    let counts = bind_some (counts_of consumer.0.1) _ it consumer.2 in
    subst (λ (x : AckOf). Spells (codes "$JS.ACK." ++ text) x) (same_Some _ _ counts.2)
    (parts stream.0.0 consumer.0.0 stream.0.1 consumer.0.1 counts.0 (parted_is 46 text stream.0.0 stream.0.1 stream.1) (parted_is 46 stream.0.1 consumer.0.0 consumer.0.1 consumer.1) (counts_is consumer.0.1 counts.0 counts.1))
  where
    parts : (stream consumer a b : List ℕ) (counts : Counts) → (text ≡ stream ++ 46 ∷ a) × HasNoDot stream → (a ≡ consumer ++ 46 ∷ b) × HasNoDot consumer → (b ≡ counts_text counts) × AreSmall counts
        → Spells (codes "$JS.ACK." ++ text) (record { stream = stream; consumer = consumer; delivered = counts.delivered; place = counts.place; consumer_place = counts.consumer_place; time = counts.time; pending = counts.pending })
    parts stream consumer a b counts one two three = (
      record { stream_named = one.1; consumer_named = two.1; few_delivered = three.1.delivered_small; place_small = three.1.place_small; consumer_place_small = three.1.consumer_place_small; time_small = three.1.time_small; few_pending = three.1.pending_small },
      ap (λ (x : List ℕ). codes "$JS.ACK." ++ x) (cc (one.0, two.0, three.0)),
    )

pub ack_is : (subject : List ℕ) (it : AckOf) → ack_at subject ≡ Some it → Spells subject it
ack_is subject it e =
    let text = bind_some (without_prefix subject) ack_in it e in
    let prefix = cond_some (starts_with nat_eq subject (codes "$JS.ACK.")) (drop 8 subject) text.0 text.1 in
    let whole : subject ≡ codes "$JS.ACK." ++ drop 8 subject = (starts_is Decides-eqb subject (codes "$JS.ACK.") (starts_with nat_eq subject (codes "$JS.ACK.")) refl).0 prefix.0 in
    let same : subject ≡ codes "$JS.ACK." ++ text.0 = whole ∙ ap (λ (x : List ℕ). codes "$JS.ACK." ++ x) prefix.1 in
    subst (λ (x : List ℕ). Spells x it) (sym same) (front_is text.0 it text.2)

pub ack_seen : (subject : List ℕ) (r : Option Ack) → option_map acked r ≡ ack_at subject → IfSome r (λ it. IsAck (acked it) × (subject ≡ ack_subject (acked it)))
ack_seen subject None e = tt
ack_seen subject (Some it) e = ack_is subject (acked it) (sym e)
