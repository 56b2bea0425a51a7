-- A journal by its front and what is after it.
use Rattle.std.specs.List.{slice_get}
use Rattle.std.specs.Option.{option_map}
use Rattle.std.proofs.Common.{◌≡◌, ℕ, ◌+◌, List, [], ◌∷◌, ◌++◌, length, refl, ap, arith, Some}
use Rattle.pay_tables.specs.Words.{FareEditions}
use Rattle.pay_rules.specs.State.{State}
use Rattle.pay_shard.specs.Words.{item_step, replay, answers_from, AreInPlace}
use Rattle.pay_shard.specs.declared.reply.Answer.{Answer}
use Rattle.pay_shard.specs.declared.item.Item.{Item}

-- what is after a front is replayed from where the front ends
pub replay_after : (editions : FareEditions) (base : State) (front back : List Item) → replay editions base (front ++ back) ≡ replay editions (replay editions base front) back
replay_after editions base [] back = refl
replay_after editions base (item ∷ front) back = replay_after editions (item_step editions base item).after front back

-- the reply after a front
pub reply_after : (number place : ℕ) (editions : FareEditions) (base : State) (front : List Item) (item : Item) (back : List Item)
    → option_map (λ (a : Answer). a.reply) (slice_get (answers_from number place editions base (front ++ item ∷ back)) (length front)) ≡ Some (item_step editions (replay editions base front) item).reply
reply_after number place editions base [] item back = refl
reply_after number place editions base (first ∷ front) item back = reply_after number (place + 1) editions (item_step editions base first).after front item back

-- the ticket after a front
pub ticket_after : (place : ℕ) (front : List Item) (item : Item) (back : List Item) → AreInPlace place (front ++ item ∷ back) → item.entry.ticket ≡ place + length front
ticket_after place [] item back are = omega (arith, are.0.1)
ticket_after place (first ∷ front) item back are = omega (arith, ticket_after (place + 1) front item back are.1)

-- one more of a front
pub one_more : (front : List Item) (item : Item) (back : List Item) → front ++ item ∷ back ≡ (front ++ item ∷ []) ++ back
one_more [] item back = refl
one_more (first ∷ front) item back = ap (λ l. first ∷ l) (one_more front item back)
