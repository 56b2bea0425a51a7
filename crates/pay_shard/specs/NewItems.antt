-- The taps and corrections that are newly accepted, and no repeats.
use Rattle.std.specs.Prelude.{◌≡◌, ℕ, Bool, true, false, not, if◌then◌else◌, List, [], ◌∷◌, filter, refl}
use Rattle.std.specs.List.{AllByRecursion}
use Rattle.pay_tables.specs.Words.{FareEditions}
use Rattle.pay_rules.specs.State.{State}
use Rattle.pay_shard.specs.Machine.{item_step}
use Rattle.pay_shard.specs.declared.asked.Asked.TheVariants as asked
use Rattle.pay_shard.specs.declared.item.Entry.{Entry}
use Rattle.pay_shard.specs.declared.item.Item.{Item}
use Rattle.pay_shard.specs.declared.refusal.ShardRefusal.TheVariants as refusal
use Rattle.pay_shard.specs.declared.reply.Reply.{Reply}
use Rattle.pay_shard.specs.declared.reply.Reply.TheVariants as replies

-- whether a reply says that a tap or a correction is newly accepted
abbrev pub is_new : Reply → Bool
is_new (replies.Priced priced) = not priced.again
is_new _ = false

-- each of these is
abbrev pub AreAllNew : List Reply → Type 0
AreAllNew = AllByRecursion (λ reply. is_new reply ≡ true)

-- of items, those that are newly accepted, each where it stood
abbrev pub new_items : FareEditions → State → List Item → List Item
new_items editions state [] = []
new_items editions state (item ∷ items) = if is_new (item_step editions state item).reply
    then item ∷ new_items editions (item_step editions state item).after items
    else new_items editions (item_step editions state item).after items

-- a repeat is not new
repeat_not_new : (day price week : ℕ) → is_new (replies.Priced (record { day = day; day_price = price; week_price = week; again = true })) ≡ false
repeat_not_new day price week = refl

-- neither is what was refused for memory
refused_not_new : (editions : FareEditions) (state : State) (entry : Entry) → new_items editions state (record { entry = entry; refused_memory = true } ∷ []) ≡ []
refused_not_new editions state entry = refl

-- and neither is a question
question_not_new : (editions : FareEditions) (state : State) (lane ticket : ℕ)
    → new_items editions state (record { entry = record { lane = lane; ticket = ticket; command = asked.Due 7 19_730 }; refused_memory = false } ∷ []) ≡ []
question_not_new editions state lane ticket = refl

-- a first tap, a refusal, its repeat and want of memory: one reply is new
one_of_four : filter is_new (
    replies.Priced (record { day = 19_730; day_price = 175; week_price = 175; again = false }) ∷ replies.No refusal.Conflict
    ∷ replies.Priced (record { day = 19_730; day_price = 175; week_price = 175; again = true }) ∷ replies.Memory ∷ []
    ) ≡ replies.Priced (record { day = 19_730; day_price = 175; week_price = 175; again = false }) ∷ []
one_of_four = refl
