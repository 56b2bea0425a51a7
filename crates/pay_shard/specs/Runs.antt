-- What the machine replies to the items of a journal, one after another.
use Rattle.std.specs.Prelude.{◌≡◌, ℕ, ◌+◌, true, false, List, [], ◌∷◌, Option, Some, None, ⊤, refl}
use Rattle.std.specs.List.{slice_get}
use Rattle.pay_tables.specs.Words.{FareEditions}
use Rattle.pay_rules.specs.Lines.{shown}
use Rattle.pay_rules.specs.Quotes.{quote}
use Rattle.pay_rules.specs.State.{State, accepted_of}
use Rattle.pay_shard.specs.Machine.{step, item_step, is_refusal}
use Rattle.pay_shard.specs.declared.asked.Asked.TheVariants as asked
use Rattle.pay_shard.specs.declared.item.Entry.{Entry}
use Rattle.pay_shard.specs.declared.item.Item.{Item}
use Rattle.pay_shard.specs.declared.reply.Reply.{Reply}
use Rattle.pay_shard.specs.declared.reply.Reply.TheVariants as replies
use Rattle.pay_shard.specs.declared.reply.Answer.{Answer}

-- the replies to a list of items, and the state after them
pub record Run : Type 0 where
  pub replies : List Reply
  pub after : State

-- a reply before those of a run
abbrev pub reply_then : Reply → Run → Run
reply_then reply later = record { replies = reply ∷ later.replies; after = later.after }

abbrev pub run : FareEditions → State → List Item → Run
run editions state [] = record { replies = []; after = state }
run editions state (item ∷ items) = reply_then (item_step editions state item).reply (run editions (item_step editions state item).after items)

-- the state that a run ends in
abbrev pub replay : FareEditions → State → List Item → State
replay editions state items = (run editions state items).after

-- the answer to an item at a place of a shard's journal
abbrev pub answer_at : ℕ → ℕ → FareEditions → State → Item → Answer
answer_at shard place editions state item = record {
  shard = shard;
  place = place;
  ticket = item.entry.ticket;
  command = item.entry.command;
  reply = (item_step editions state item).reply;
}

-- the answers to the items from a place on
abbrev pub answers_from : ℕ → ℕ → FareEditions → State → List Item → List Answer
answers_from shard place editions state [] = []
answers_from shard place editions state (item ∷ items) = answer_at shard place editions state item ∷ answers_from shard (place + 1) editions (item_step editions state item).after items

-- the answers of a shard, whose first item is at place 0
abbrev pub answers : ℕ → FareEditions → State → List Item → List Answer
answers shard editions state items = answers_from shard 0 editions state items

-- the reply at a place of the run, where there is one
abbrev pub reply_at : FareEditions → State → List Item → ℕ → Option Reply
reply_at editions state items place = slice_get (run editions state items).replies place

-- a reply to an item as the answer of a shard at a place, where there are both
abbrev pub answer_to : ℕ → ℕ → Option Item → Option Reply → Option Answer
answer_to shard place (Some item) (Some reply) = Some (record { shard = shard; place = place; ticket = item.entry.ticket; command = item.entry.command; reply = reply })
answer_to shard place _ _ = None

-- what was to be refused is refused: it takes no memory
abbrev pub IsMarkedRightly : FareEditions → State → Item → Type 0
IsMarkedRightly editions state item = item.refused_memory ≡ true → is_refusal (step editions state item.entry.command).reply ≡ false

-- a list of items as a journal may have it
abbrev pub IsHistory : FareEditions → State → List Item → Type 0
IsHistory editions state [] = ⊤
IsHistory editions state (item ∷ items) = IsMarkedRightly editions state item × IsHistory editions (item_step editions state item).after items

-- an entry whose command was refused for memory
abbrev refused : Entry → Item
refused entry = record { entry = entry; refused_memory = true }

-- two of them change nothing, and are answered at their places in order
two_refused : (editions : FareEditions) (state : State) (first second : Entry) → replay editions state (refused first ∷ refused second ∷ []) ≡ state
two_refused editions state first second = refl

two_answers : (editions : FareEditions) (state : State) (first second : Entry) → answers 3 editions state (refused first ∷ refused second ∷ [])
    ≡ record { shard = 3; place = 0; ticket = first.ticket; command = first.command; reply = replies.Memory } ∷ record { shard = 3; place = 1; ticket = second.ticket; command = second.command; reply = replies.Memory } ∷ []
two_answers editions state first second = refl

-- what is due and what is shown is of the state before it, which it leaves
due_and_shown : (editions : FareEditions) (state : State) (lane ticket : ℕ)
    → run editions state (record { entry = record { lane = lane; ticket = ticket; command = asked.Due 7 19_730 }; refused_memory = false } ∷ record { entry = record { lane = lane; ticket = ticket; command = asked.Show 7 19_730 }; refused_memory = false } ∷ [])
    ≡ record { replies = replies.Due (quote editions 7 (accepted_of state 7) 19_730) ∷ replies.Shown (shown editions 7 (accepted_of state 7) 19_730) ∷ []; after = state }
due_and_shown editions state lane ticket = refl
