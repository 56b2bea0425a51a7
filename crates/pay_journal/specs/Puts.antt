-- One command at a desk that keeps lines.
use Rattle.std.specs.Prelude.{◌≡◌, ◌⊎◌, ℕ, Bool, true, false, List, [], ◌∷◌, ◌++◌, take, Option, Some, None}
use Rattle.std.specs.Io.KnownBytes.{Appends}
use Rattle.pay_shard.specs.Words.{LocalParts, commands_of, transcript_of, IsTaken, with_items, state_now, is_new, new_items, IsAfterAll, IsNoneOf, NothingIsLost}
use Rattle.pay_shard.specs.declared.asked.Asked.{Asked}
use Rattle.pay_shard.specs.declared.desk.DeskFault.{DeskFault}
use Rattle.pay_shard.specs.declared.desk.DeskFault.TheVariants.{Memory, NotKept}
use Rattle.pay_shard.specs.declared.item.Item.{Item}
use Rattle.pay_shard.specs.declared.reply.Answer.{Answer}
use Rattle.pay_journal.specs.Lines.{line_of, lines_of_items}

-- whether there is an answer, which says that something is newly accepted
abbrev pub is_new_answer : Option Answer → Bool
is_new_answer None = false
is_new_answer (Some answer) = is_new answer.reply

abbrev pub is_not_kept : DeskFault → Bool
is_not_kept NotKept = true
is_not_kept _ = false

-- A command was taken, and its line was kept if it is newly accepted.
pub record IsPutKept (ticket : ℕ) (command : Asked) (before after : LocalParts) (held holds : Option (List ℕ)) : Type 0 where
  pub taken : IsTaken ticket command before.shard after.shard
  pub later : IsAfterAll ticket (commands_of before.shard.journal)
  pub fresh : IsNoneOf ticket before.waiting
  pub waits : after.waiting ≡ before.waiting ++ ticket ∷ []
  pub transcript : NothingIsLost (transcript_of before.shard) (transcript_of after.shard)
  pub bytes : Appends held holds (lines_of_items (new_items before.shard.editions (state_now before.shard) (taken.item ∷ [])))

-- A command was not taken, for want of memory; or it could not be kept, and stands in the journal or not.
pub record IsNotPut (Failed : Type 0) (fault : DeskFault) (command : Asked) (before after : LocalParts) (held holds : Option (List ℕ)) : Type 0 where
  pub more : List Item
  pub is_more : after.shard ≡ with_items before.shard more after.shard.memory
  pub same : after.waiting ≡ before.waiting
  pub front : ℕ
  pub bytes : Appends held holds (take front (line_of command))
  pub cause : ((fault ≡ Memory) × (more ≡ []) × (front ≡ 0)) ⊎ ((fault ≡ NotKept) × Failed)
