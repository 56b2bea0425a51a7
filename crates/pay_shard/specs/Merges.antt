-- Journals of several shards as one list.
use Rattle.std.specs.Prelude.{◌≡◌, ℕ, ◌%◌, ◌==◌, List, [], ◌∷◌, map, filter, refl}
use Rattle.std.specs.FinMap as finite
use Rattle.std.specs.List.{AllByRecursion, zip}
use Rattle.pay_rules.specs.State.{State}
use Rattle.pay_shard.specs.declared.asked.Asked.{Asked}
use Rattle.pay_shard.specs.declared.asked.Asked.TheVariants as asked
use Rattle.pay_shard.specs.declared.item.Item.{Item}
use Rattle.pay_shard.specs.declared.reply.Reply.{Reply}

-- the items of a merge that are a shard's, in their order; each stands beside the number of its shard
abbrev pub items_of : ℕ → List (ℕ × Item) → List Item
items_of shard merged = map (λ (m : ℕ × Item). m.1) (filter (λ (m : ℕ × Item). m.0 == shard) merged)

-- all items of a merge
abbrev pub all_items : List (ℕ × Item) → List Item
all_items merged = map (λ (m : ℕ × Item). m.1) merged

-- of the replies to a merge those to a shard's items
abbrev pub replies_of : ℕ → List (ℕ × Item) → List Reply → List Reply
replies_of shard merged replies = map (λ (r : ℕ × Reply). r.1) (filter (λ (r : ℕ × Reply). r.0 == shard) (zip (map (λ (m : ℕ × Item). m.0) merged) replies))

-- a command names only an account of that shard of so many, or asks for that shard's quotes
abbrev pub IsAskedOf : ℕ → ℕ → Asked → Type 0
IsAskedOf of shard (asked.Tap tap) = tap.account % of ≡ shard
IsAskedOf of shard (asked.Fix fix) = fix.account % of ≡ shard
IsAskedOf of shard (asked.Due account day) = account % of ≡ shard
IsAskedOf of shard (asked.Show account day) = account % of ≡ shard
IsAskedOf of shard (asked.Quotes day named shards) = (named ≡ shard) × (shards ≡ of)

-- each item of a merge is of its shard
abbrev pub AreAskedOf : ℕ → List (ℕ × Item) → Type 0
AreAskedOf of = AllByRecursion (λ (m : ℕ × Item). IsAskedOf of m.0 m.1.entry.command)

-- one state of all accounts has of each what its shard has
abbrev pub IsWhole : ℕ → (ℕ → State) → State → Type 0
IsWhole of each whole = (account : ℕ) → finite.get whole account ≡ finite.get (each (account % of)) account

-- of three items of the shards 0 and 1
of_shard_1 : (first second third : Item) → items_of 1 ((1, first) ∷ (0, second) ∷ (1, third) ∷ []) ≡ first ∷ third ∷ []
of_shard_1 first second third = refl

of_shard_0 : (first second third : Item) → items_of 0 ((1, first) ∷ (0, second) ∷ (1, third) ∷ []) ≡ second ∷ []
of_shard_0 first second third = refl
