-- What replicas come to beside one another.
use Rattle.std.specs.Prelude.{◌≡◌, ◌≤◌, ℕ, List, ◌++◌}
use Rattle.pay_run.specs.Words.{Machine}
use Rattle.pay_follow.specs.Partitions.{PartitionParts}
use Rattle.pay_follow.specs.Following.{HasFollowed}

-- each place has one line, for two who read it
abbrev pub HasOneLine : (ℕ → List ℕ → Type 0) → (ℕ → List ℕ → Type 0) → Type 0
HasOneLine HasLine HasLine' = (place : ℕ) (line line' : List ℕ) → HasLine place line → HasLine' place line' → line ≡ line'

-- Two replicas that began alike, where each place has one line for both: what the one published first is what the other did, byte by byte;
-- and where both have read as far, they are one machine.
abbrev pub ReplicasAgree : (ℕ → List ℕ → Type 0) → (ℕ → List ℕ → Type 0) → Type 0
ReplicasAgree HasLine HasLine' = HasOneLine HasLine HasLine' → (was now now' : Machine) (before after after' : PartitionParts)
    → HasFollowed HasLine before after was now → HasFollowed HasLine' before after' was now' → after.last ≤ after'.last
    → ((more : List (ℕ × List ℕ)) × (after'.published ≡ after.published ++ more)) × (after.last ≡ after'.last → now ≡ now')
