-- How a desk stands, what it took, and what it answered.
use Rattle.std.specs.Prelude.{◌≡◌, ℕ, ◌<◌, ◌==◌, false, not, if◌then◌else◌, List, [], ◌∷◌, filter, Option, Some, None, ⊤, refl}
use Rattle.std.specs.List.{AllByRecursion}
use Rattle.pay_shard.specs.declared.asked.Asked.{Asked}
use Rattle.pay_shard.specs.declared.asked.Asked.TheVariants as asked
use Rattle.pay_shard.specs.declared.desk.DeskFault.{DeskFault}
use Rattle.pay_shard.specs.declared.reply.Answer.{Answer}
use Rattle.pay_shard.specs.declared.reply.Reply.{Reply}

-- What a desk began with and keeps, how many shards answer, and the tickets that were given and not got. Where all that was put
-- was got, it stands as before.
pub record Standing (O : Type 0) : Type 0 where
  pub origin : O
  pub shards : ℕ
  pub waiting : List ℕ

-- a desk that so stands, and these tickets
abbrev pub with_waiting : {O : Type 0} → List ℕ → Standing O → Standing O
with_waiting tickets s = record { origin = s.origin; shards = s.shards; waiting = tickets }

-- What a desk is at a moment: how it stands; the commands that it took, each with its ticket, in ascending order of ticket; the
-- answer to a ticket, where there is one; how it may refuse a command; and whether a reply of it may be late.
pub record DeskParts (O : Type 0) : Type 1 where
  pub standing : Standing O
  pub taken : List (ℕ × Asked)
  pub transcript : ℕ → Option Answer
  pub MayRefuse : DeskFault → Type 0
  pub MayBeLate : Type 0

-- quotes are asked for by one of that many shards
abbrev pub IsForShards : ℕ → Asked → Type 0
IsForShards shards (asked.Quotes day shard of) = of ≡ shards
IsForShards shards _ = ⊤

-- a ticket is above those of all commands that were taken
abbrev pub IsAfterAll : ℕ → List (ℕ × Asked) → Type 0
IsAfterAll ticket taken = AllByRecursion (λ (t : ℕ × Asked). t.0 < ticket) taken

-- a ticket is none of these
abbrev pub IsNoneOf : ℕ → List ℕ → Type 0
IsNoneOf ticket tickets = AllByRecursion (λ t. (t == ticket) ≡ false) tickets

-- tickets without one
abbrev pub without : ℕ → List ℕ → List ℕ
without ticket tickets = filter (λ t. not (t == ticket)) tickets

-- the command that was taken under a ticket, the first where there are several
abbrev pub command_under : ℕ → List (ℕ × Asked) → Option Asked
command_under ticket [] = None
command_under ticket (t ∷ taken) = if t.0 == ticket then Some t.1 else command_under ticket taken

-- A reply to a ticket is that of the ticket's answer, which has this ticket, and is to the command that was taken under it.
pub record IsReplyTo (ticket : ℕ) (taken : List (ℕ × Asked)) (transcript : ℕ → Option Answer) (reply : Reply) : Type 0 where
  pub answer : Answer
  pub stands : transcript ticket ≡ Some answer
  pub of_ticket : answer.ticket ≡ ticket
  pub of_command : command_under ticket taken ≡ Some answer.command
  pub told : answer.reply ≡ reply

-- no answer of a transcript is lost or changed
abbrev pub NothingIsLost : (ℕ → Option Answer) → (ℕ → Option Answer) → Type 0
NothingIsLost before after = (ticket : ℕ) (answer : Answer) → before ticket ≡ Some answer → after ticket ≡ Some answer

-- the middle one of three
middle_one : without 5 (3 ∷ 5 ∷ 8 ∷ []) ≡ 3 ∷ 8 ∷ []
middle_one = refl

-- of two commands the one under the second's ticket, and none under a third
second_command : (first second : Asked) → command_under 9 ((7, first) ∷ (9, second) ∷ []) ≡ Some second
second_command first second = refl

no_command : (first second : Asked) → command_under 8 ((7, first) ∷ (9, second) ∷ []) ≡ None
no_command first second = refl
