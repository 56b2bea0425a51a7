-- A partition of a replicated log, as whoever follows it has it.
use Rattle.std.specs.Prelude.{◌≡◌, ℕ, suc, codes, List, [], ◌∷◌, ◌++◌, ⊤, refl}

-- the last place that was read, 0 before the first, and what was published, each under the place of its line
pub record PartitionParts : Type 0 where
  pub last : ℕ
  pub published : List (ℕ × List ℕ)

-- a partition of which nothing was published, from a place on
abbrev pub read_up_to : ℕ → PartitionParts
read_up_to place = record { last = place; published = [] }

-- the next place was read
abbrev pub read_on : PartitionParts → PartitionParts
read_on p = record { last = suc p.last; published = p.published }

-- the reply to what was read last was published
abbrev pub publish : PartitionParts → List ℕ → PartitionParts
publish p reply = record { last = p.last; published = p.published ++ (p.last, reply) ∷ [] }

-- one place was read, and something was published under it
abbrev pub HasGrownByOne : PartitionParts → PartitionParts → Type 0
HasGrownByOne before after = (reply : List ℕ) × (after ≡ publish (read_on before) reply)

-- each of these lines stands at its place, from a place on, with `HasLine` for which line stands where
abbrev pub AreLines : (ℕ → List ℕ → Type 0) → ℕ → List (List ℕ) → Type 0
AreLines HasLine place [] = ⊤
AreLines HasLine place (line ∷ lines) = HasLine place line × AreLines HasLine (suc place) lines

-- what stands at a place by the one, stands there by the other
abbrev pub Within : (ℕ → List ℕ → Type 0) → (ℕ → List ℕ → Type 0) → Type 0
Within HasLine HasLine' = (place : ℕ) (line : List ℕ) → HasLine place line → HasLine' place line

-- ---- worked rows

-- two lines, the first of which was answered
first_answered : publish (read_on (record { last = 0; published = [] })) (codes "OK 0 0 240\n") ≡ record { last = 1; published = (1, codes "OK 0 0 240\n") ∷ [] }
first_answered = refl

second_read : read_on (record { last = 1; published = (1, codes "OK 0 0 240\n") ∷ [] }) ≡ record { last = 2; published = (1, codes "OK 0 0 240\n") ∷ [] }
second_read = refl
