-- Commands that wait at a desk over a lane, and the answers that the lane took.
use Rattle.std.specs.Prelude.{◌≡◌, ℕ, zero, suc, ◌<◌, ◌==◌, cond, List, [], ◌∷◌, ◌++◌, map, Option, Some, None, refl}
use Rattle.std.specs.List.{AllByRecursion, IsDistinct, find}
use Rattle.pay_shard.specs.Words.{command_under}
use Rattle.pay_shard.specs.declared.asked.Asked.{Asked}
use Rattle.pay_shard.specs.declared.item.Entry.{Entry}
use Rattle.pay_shard.specs.declared.reply.Answer.{Answer}
use Rattle.pay_lanes.specs.Words.{LaneParts, having_taken, all_sent}
use Rattle.pay_office.specs.declared.waiting.Waiting.{Waiting}

-- ---- what a lane sent and took

-- the first entry under a ticket
abbrev pub entry_under : ℕ → List Entry → Option Entry
entry_under ticket entries = find (λ (e : Entry). e.ticket == ticket) entries

-- the command of an entry beside its ticket, if there is one
abbrev pub command_beside : ℕ → Option Entry → List (ℕ × Asked)
command_beside ticket None = []
command_beside ticket (Some entry) = (ticket, entry.command) ∷ []

-- the commands of entries under the tickets below one, in ascending order of these
abbrev pub commands_below : ℕ → List Entry → List (ℕ × Asked)
commands_below zero entries = []
commands_below (suc ticket) entries = commands_below ticket entries ++ command_beside ticket (entry_under ticket entries)

-- the commands that a lane sent, each beside its ticket, in ascending order of ticket
abbrev pub commands_sent : LaneParts → List (ℕ × Asked)
commands_sent l = commands_below l.next (all_sent l.shards)

-- Each entry that a lane sent stands among its commands, since no two are under one ticket.
abbrev pub NoneIsHidden : LaneParts → Type 0
NoneIsHidden l = AllByRecursion (λ (e : Entry). command_under e.ticket (commands_sent l) ≡ Some e.command) (all_sent l.shards)

-- the first of answers that is to a ticket
abbrev pub answer_to : ℕ → List Answer → Option Answer
answer_to ticket answers = find (λ (a : Answer). a.ticket == ticket) answers

-- a lane, once it has taken these answers too
abbrev pub having_taken_all : LaneParts → List Answer → LaneParts
having_taken_all l [] = l
having_taken_all l (answer ∷ answers) = having_taken_all (having_taken l answer) answers

-- a lane has taken some answers more
abbrev pub HasTaken : LaneParts → LaneParts → Type 0
HasTaken before after = (came : List Answer) × (after ≡ having_taken_all before came)

-- ---- what waits

-- the tickets of what waits
abbrev pub tickets_of : List Waiting → List ℕ
tickets_of waiting = map (λ (w : Waiting). w.ticket) waiting

-- A command waits at a desk over a lane under a ticket that was given for it, with the first answer that the lane took to this ticket.
pub record IsWaiting (l : LaneParts) (w : Waiting) : Type 0 where
  pub given : w.ticket < l.next
  pub command : command_under w.ticket (commands_sent l) ≡ Some w.command
  pub answer : w.answer ≡ answer_to w.ticket l.answers.got

-- no ticket stands twice
abbrev pub AreDistinct : List ℕ → Type 0
AreDistinct tickets = IsDistinct (λ x y. y == x) tickets

-- each entry is under a ticket below the next
abbrev pub AreBelow : ℕ → List Entry → Type 0
AreBelow next entries = AllByRecursion (λ (e : Entry). e.ticket < next) entries

-- What waits at a desk over a lane: each command with its answer, no two under one ticket. All that the lane sent is under tickets that
-- were given.
pub record AreWaiting (l : LaneParts) (waiting : List Waiting) : Type 0 where
  pub sent : AreBelow l.next (all_sent l.shards)
  pub each : AllByRecursion (IsWaiting l) waiting
  pub distinct : AreDistinct (tickets_of waiting)

-- the answer that is there, or else another
abbrev pub first_of : Option Answer → Answer → Answer
first_of None other = other
first_of (Some answer) other = answer

-- what waits, once an answer came: the first that waits under its ticket has it, unless that has one
abbrev pub having_answer : Answer → List Waiting → List Waiting
having_answer answer [] = []
having_answer answer (w ∷ waiting) =
    cond (w.ticket == answer.ticket) (record { ticket = w.ticket; command = w.command; answer = Some (first_of w.answer answer) } ∷ waiting) (w ∷ having_answer answer waiting)

-- what waits, without the first under a ticket
abbrev pub waiting_without : ℕ → List Waiting → List Waiting
waiting_without ticket [] = []
waiting_without ticket (w ∷ waiting) = cond (w.ticket == ticket) waiting (w ∷ waiting_without ticket waiting)

-- the answer of the first that waits under a ticket, which is to its command
abbrev pub IsToldOf : ℕ → List Waiting → Answer → Type 0
IsToldOf ticket waiting answer =
    (w : Waiting) × (find (λ (x : Waiting). x.ticket == ticket) waiting ≡ Some w) × (w.answer ≡ Some answer) × (answer.command ≡ w.command)

-- the first that waits under a ticket has no answer that is to its command
abbrev pub IsUntoldOf : ℕ → List Waiting → Type 0
IsUntoldOf ticket waiting = (answer : Answer) → IsToldOf ticket waiting answer → ⊥

-- two entries, of which that of the second shard was sent first
two_sent : (first second : Asked) → commands_below 2 (record { lane = 3; ticket = 1; command = second } ∷ record { lane = 3; ticket = 0; command = first } ∷ []) ≡ (0, first) ∷ (1, second) ∷ []
two_sent first second = refl

-- of two entries under one ticket the second is hidden
one_hidden : (first second : Asked) → commands_below 2 (record { lane = 3; ticket = 1; command = first } ∷ record { lane = 3; ticket = 1; command = second } ∷ []) ≡ (1, first) ∷ []
one_hidden first second = refl
