-- The taps and corrections of a journal that are accepted.
use Rattle.std.specs.Prelude.{◌≡◌, Bool, true, false, if◌then◌else◌, List, [], ◌∷◌, map, refl}
use Rattle.std.specs.List.{AllByRecursion}
use Rattle.pay_tables.specs.Words.{FareEditions}
use Rattle.pay_rules.specs.declared.priced.Priced.{Priced}
use Rattle.pay_rules.specs.State.{State}
use Rattle.pay_shard.specs.Runs.{run}
use Rattle.pay_shard.specs.declared.asked.Asked.{Asked}
use Rattle.pay_shard.specs.declared.item.Item.{Item}
use Rattle.pay_shard.specs.declared.refusal.ShardRefusal.TheVariants as refusal
use Rattle.pay_shard.specs.declared.reply.Reply.{Reply}
use Rattle.pay_shard.specs.declared.reply.Reply.TheVariants as replies

-- an accepted tap or correction is answered by prices, and so is a repeat of it; nothing else is
abbrev pub is_priced : Reply → Bool
is_priced (replies.Priced priced) = true
is_priced _ = false

-- each reply is prices
abbrev pub AreAllPriced : List Reply → Type 0
AreAllPriced = AllByRecursion (λ reply. is_priced reply ≡ true)

-- what a journal asks for
abbrev pub asked_by : List Item → List Asked
asked_by items = map (λ (i : Item). i.entry.command) items

-- memory was refused for no item
abbrev pub AreUnmarked : List Item → Type 0
AreUnmarked = AllByRecursion (λ (i : Item). i.refused_memory ≡ false)

-- what was asked by the items whose replies are prices
abbrev pub with_prices : List Item → List Reply → List Asked
with_prices (item ∷ items) (reply ∷ later) = if is_priced reply then item.entry.command ∷ with_prices items later else with_prices items later
with_prices _ _ = []

-- the taps and corrections of a journal that are accepted, and their repeats, in the order in which they came
abbrev pub accepted_asked : FareEditions → State → List Item → List Asked
accepted_asked editions state items = with_prices items (run editions state items).replies

-- a tap, one that is refused, the first again, and it again where memory was wanting
repeat_and_marked : (tap other marked : Item) (first repeat : Priced)
    → with_prices (tap ∷ other ∷ tap ∷ marked ∷ []) (replies.Priced first ∷ replies.No refusal.Conflict ∷ replies.Priced repeat ∷ replies.Memory ∷ []) ≡ tap.entry.command ∷ tap.entry.command ∷ []
repeat_and_marked tap other marked first repeat = refl
