-- Commands that a desk took.
use Rattle.std.specs.Prelude.{◌≡◌, ℕ, List, map, Option, Some, IfSome}
use Rattle.std.specs.List.{AllByRecursion}
use Rattle.pay_shard.specs.declared.asked.Asked.{Asked}
use Rattle.pay_shard.specs.declared.reply.Answer.{Answer}

-- a command that a desk took, and the answer to it, where it came
pub record Taken : Type 0 where
  pub ticket : ℕ
  pub asked : Asked
  pub answer : Option Answer

-- the commands, each with its ticket
abbrev pub commands_of : List Taken → List (ℕ × Asked)
commands_of = map (λ (t : Taken). (t.ticket, t.asked))

-- an answer is the transcript's at a command's ticket, has that ticket, and is to that command
abbrev pub IsAnswerTo : (ℕ → Option Answer) → Taken → Answer → Type 0
IsAnswerTo transcript t answer = (transcript t.ticket ≡ Some answer) × (answer.ticket ≡ t.ticket) × (answer.command ≡ t.asked)

-- each answer that came is the transcript's to its command
abbrev pub AreAnswered : (ℕ → Option Answer) → List Taken → Type 0
AreAnswered transcript = AllByRecursion (λ (t : Taken). IfSome t.answer (IsAnswerTo transcript t))
