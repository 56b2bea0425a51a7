-- What comes of a journal goes on from what came of its first items.
use Rattle.std.proofs.Common.{◌≡◌, ℕ, zero, suc, ◌+◌, ◌<◌, List, [], ◌∷◌, ◌++◌, length, Some, refl, sym, ap, ◌∙◌, arith}
use Rattle.std.specs.List.{slice_get}
use Rattle.std.specs.Option.{option_map}
use Rattle.pay_tables.specs.Words.{FareEditions}
use Rattle.pay_rules.specs.State.{State}
use Rattle.pay_shard.specs.Desks.{IsReplyTo}
use Rattle.pay_shard.specs.LocalParts.{commands_of, transcript_of, AreInPlace}
use Rattle.pay_shard.specs.Machine.{item_step}
use Rattle.pay_shard.specs.Runs.{replay, answers_from}
use Rattle.pay_shard.specs.ShardParts.{ShardParts, with_items}
use Rattle.pay_shard.specs.declared.item.Item.{Item}
use Rattle.pay_shard.specs.declared.reply.Answer.{Answer}
use Rattle.pay_shard.specs.declared.reply.Reply.{Reply}
use Rattle.pay_shard.proofs.LocalDesks.{reply_to}

pub replay_goes_on : (editions : FareEditions) (base : State) (items more : List Item) → replay editions base (items ++ more) ≡ replay editions (replay editions base items) more
replay_goes_on editions base [] more = refl
replay_goes_on editions base (first ∷ items) more = replay_goes_on editions (item_step editions base first).after items more

-- the answers to the first items are the same whatever stands after these
same_answer : (shard place : ℕ) (editions : FareEditions) (state : State) (items more : List Item) (k : ℕ) → k < length items
    → slice_get (answers_from shard place editions state (items ++ more)) k ≡ slice_get (answers_from shard place editions state items) k
same_answer shard place editions state [] more k low = absurd (omega (arith, low))
same_answer shard place editions state (first ∷ items) more zero low = refl
same_answer shard place editions state (first ∷ items) more (suc k) low = same_answer shard (place + 1) editions (item_step editions state first).after items more k (omega (arith, low))

pub front_has_reply : (front whole : ShardParts) (more : List Item) (ticket : ℕ) (reply : Reply) → whole ≡ with_items front more whole.memory → AreInPlace 0 front.journal → ticket < length front.journal
    → IsReplyTo ticket (commands_of whole.journal) (transcript_of whole) reply → IsReplyTo ticket (commands_of front.journal) (transcript_of front) reply
front_has_reply front whole more ticket reply is placed low given =
    let same = same_answer front.number 0 front.editions front.base front.journal more ticket low in
    let there : transcript_of whole ticket ≡ transcript_of front ticket = ap (λ (s : ShardParts). transcript_of s ticket) is ∙ same in
    reply_to front ticket reply placed (ap (option_map (λ (a : Answer). a.reply)) (sym there ∙ given.stands) ∙ ap (λ (r : Reply). Some r) given.told)
