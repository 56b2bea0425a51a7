-- What is so of all journals and of all desks.
use Rattle.std.specs.Prelude.{◌≡◌, ◌↔◌, ℕ, ◌<◌, false, length, List, [], ◌∷◌, ◌++◌, map, filter, Some}
use Rattle.std.specs.List.{slice_get}
use Rattle.pay_rules.specs.InTurn.{IsIn}
use Rattle.pay_tables.specs.Words.{FareEditions}
use Rattle.pay_rules.specs.State.{State}
use Rattle.pay_shard.specs.declared.asked.Asked.{Asked}
use Rattle.pay_shard.specs.declared.item.Item.{Item}
use Rattle.pay_shard.specs.declared.reply.Answer.{Answer}
use Rattle.pay_shard.specs.declared.reply.Reply.{Reply}
use Rattle.pay_shard.specs.Machine.{item_step}
use Rattle.pay_shard.specs.NewItems.{is_new, AreAllNew, new_items}
use Rattle.pay_shard.specs.Runs.{run, replay, answers, reply_at, answer_to, IsHistory}
use Rattle.pay_shard.specs.Changes.{AreAllPriced, asked_by, AreUnmarked, accepted_asked}
use Rattle.pay_shard.specs.Desks.{Standing, with_waiting, IsAfterAll, IsNoneOf, without, command_under, IsReplyTo}
use Rattle.pay_shard.specs.LocalParts.{commands_of, transcript_of, AreInPlace}
use Rattle.pay_shard.specs.ShardParts.{ShardParts, with_items}
use Rattle.pay_shard.specs.Merges.{items_of, all_items, replies_of, AreAskedOf, IsWhole}

-- ---- merges, of so many shards, each from its own state, into one machine over all accounts

-- each shard's replies in a merge are those of its own run
abbrev pub MergeRepliesAsShards : Type 0
MergeRepliesAsShards = (editions : FareEditions) (of : ℕ) (each : ℕ → State) (whole : State) (merged : List (ℕ × Item)) → IsWhole of each whole → AreAskedOf of merged
    → (shard : ℕ) → replies_of shard merged (run editions whole (all_items merged)).replies ≡ (run editions (each shard) (items_of shard merged)).replies

-- in the end the machine has of each account what its shard has
abbrev pub MergeEndsAsShards : Type 0
MergeEndsAsShards = (editions : FareEditions) (of : ℕ) (each : ℕ → State) (whole : State) (merged : List (ℕ × Item)) → IsWhole of each whole → AreAskedOf of merged
    → IsWhole of (λ shard. replay editions (each shard) (items_of shard merged)) (replay editions whole (all_items merged))

-- what is marked rightly in each journal is so in the merge
abbrev pub MergeIsHistory : Type 0
MergeIsHistory = (editions : FareEditions) (of : ℕ) (each : ℕ → State) (whole : State) (merged : List (ℕ × Item)) → IsWhole of each whole → AreAskedOf of merged
    → ((shard : ℕ) → IsHistory editions (each shard) (items_of shard merged)) → IsHistory editions whole (all_items merged)

-- ---- answers

-- the answers to a journal have the replies of its run
abbrev pub AnswersHaveReplies : Type 0
AnswersHaveReplies = (shard : ℕ) (editions : FareEditions) (base : State) (items : List Item) → map (λ (a : Answer). a.reply) (answers shard editions base items) ≡ (run editions base items).replies

-- at each place is the answer to the item there, by the reply there
abbrev pub AnswersStandAtPlaces : Type 0
AnswersStandAtPlaces = (shard : ℕ) (editions : FareEditions) (base : State) (items : List Item) (place : ℕ)
    → slice_get (answers shard editions base items) place ≡ answer_to shard place (slice_get items place) (reply_at editions base items place)

-- ---- fronts

-- what is replayed of more items goes on from where the first have led
abbrev pub ReplayGoesOn : Type 0
ReplayGoesOn = (editions : FareEditions) (base : State) (items more : List Item) → replay editions base (items ++ more) ≡ replay editions (replay editions base items) more

-- A reply to one of the first tickets of a desk is that of a desk which has the first items alone.
abbrev pub FrontHasReply : Type 0
FrontHasReply = (front whole : ShardParts) (more : List Item) (ticket : ℕ) (reply : Reply) → whole ≡ with_items front more whole.memory → AreInPlace 0 front.journal → ticket < length front.journal
    → IsReplyTo ticket (commands_of whole.journal) (transcript_of whole) reply → IsReplyTo ticket (commands_of front.journal) (transcript_of front) reply

-- ---- order

-- where each that is asked in a journal is accepted, or a repeat, it is so in any other that asks for the same ones, and both end alike
abbrev pub AskedAlikeEndsAlike : Type 0
AskedAlikeEndsAlike = (editions : FareEditions) (base : State) (list other : List Item) → ((a : Asked) → IsIn (asked_by list) a ↔ IsIn (asked_by other) a) → AreUnmarked other
    → AreAllPriced (run editions base list).replies → AreAllPriced (run editions base other).replies × (replay editions base other ≡ replay editions base list)

-- two journals that accept the same ones end alike
abbrev pub AcceptedAlikeEndsAlike : Type 0
AcceptedAlikeEndsAlike = (editions : FareEditions) (base : State) (list other : List Item) → ((a : Asked) → IsIn (accepted_asked editions base list) a ↔ IsIn (accepted_asked editions base other) a)
    → replay editions base other ≡ replay editions base list

-- ---- what is newly accepted

-- the newly accepted items of a journal are replied to by themselves as they were in it, and end where it ends
abbrev pub NewRunAlone : Type 0
NewRunAlone = (editions : FareEditions) (base : State) (items : List Item)
    → run editions base (new_items editions base items) ≡ record { replies = filter is_new (run editions base items).replies; after = replay editions base items }

-- each of them newly
abbrev pub NewStayNew : Type 0
NewStayNew = (editions : FareEditions) (base : State) (items : List Item) → AreAllNew (run editions base (new_items editions base items)).replies

-- an item that is not newly accepted changes nothing
abbrev pub OthersChangeNothing : Type 0
OthersChangeNothing = (editions : FareEditions) (state : State) (item : Item) → is_new (item_step editions state item).reply ≡ false → (item_step editions state item).after ≡ state

-- where a journal goes on, those that are newly accepted then stand after those of before
abbrev pub NewStandAfter : Type 0
NewStandAfter = (editions : FareEditions) (base : State) (items more : List Item)
    → new_items editions base (items ++ more) ≡ new_items editions base items ++ new_items editions (replay editions base items) more

-- ---- desks

-- the command that was taken last is the one under its ticket, which is above all others
abbrev pub LastCommandIsUnderTicket : Type 0
LastCommandIsUnderTicket = (ticket : ℕ) (command found : Asked) (before after : List (ℕ × Asked)) → IsAfterAll ticket before → after ≡ before ++ (ticket, command) ∷ []
    → command_under ticket after ≡ Some found → found ≡ command

-- the ticket that was given last waits
abbrev pub LastTicketWaits : Type 0
LastTicketWaits = (ticket : ℕ) (before after : List ℕ) → after ≡ before ++ ticket ∷ [] → IsIn after ticket

-- a new ticket that was given and got leaves a desk as it stood
abbrev pub StandsAsBefore : Type 0 → Type 0
StandsAsBefore O = (before between after : Standing O) (ticket : ℕ) → IsNoneOf ticket before.waiting → between ≡ with_waiting (before.waiting ++ ticket ∷ []) before
    → after ≡ with_waiting (without ticket between.waiting) between → after ≡ before
