-- How shards are asked for their quotes of a day, and why these may not all come.
use Rattle.std.specs.Prelude.{◌≡◌, ◌⊎◌, ℕ, suc, ◌≤◌, ◌<◌, Bool, true, false, List, [], ◌∷◌, ◌++◌, length, Option, Some, None, Result, Ok, Err, ⊤}
use Rattle.pay_ledger.specs.Words.{wants_memory}
use Rattle.pay_shard.specs.Words.{BatchParts, DeskParts, Standing, with_waiting, IsAfterAll, IsNoneOf}
use Rattle.pay_shard.specs.declared.asked.Asked.{Asked}
use Rattle.pay_shard.specs.declared.asked.Asked.TheVariants as asked
use Rattle.pay_shard.specs.declared.desk.DeskFault.{DeskFault}
use Rattle.pay_shard.specs.declared.desk.DeskFault.TheVariants as desk
use Rattle.pay_shard.specs.declared.reply.Answer.{Answer}
use Rattle.pay_shard.specs.declared.reply.Reply.{Reply}
use Rattle.pay_shard.specs.declared.reply.Reply.TheVariants.{Quotes}
use Rattle.pay_till.specs.Words.{Taken, commands_of, AreAnswered, AreInTime, MaySometimeRefuse, MaySometimeBeLate, brings_quotes}
use Rattle.pay_close.specs.Batches.{both, AreBrought, IsWhole}
use Rattle.pay_close.specs.declared.asking.Answered.{Answered}
use Rattle.pay_close.specs.declared.fault.NotClosed.{NotClosed}
use Rattle.pay_close.specs.declared.fault.NotClosed.TheVariants.{Desk, Ledger}

-- the fault of an answer that brings no quotes: it did not come, or it is another reply, as where its memory was refused
abbrev pub fault_of_answer : Option Answer → DeskFault
fault_of_answer None = desk.Late
fault_of_answer (Some answer) = desk.Memory

-- ---- commands that are put for a close

-- the commands that ask the shards from one on, of so many, for their quotes, each beside its ticket
abbrev pub quotes_put : ℕ → ℕ → ℕ → List ℕ → List (ℕ × Asked)
quotes_put day of from [] = []
quotes_put day of from (ticket ∷ tickets) = (ticket, asked.Quotes day from of) ∷ quotes_put day of (suc from) tickets

-- each of their tickets is above those of all commands that were taken before, and none of what waits
abbrev pub AreNew : (day of from : ℕ) → List (ℕ × Asked) → List ℕ → List ℕ → Type 0
AreNew day of from taken waiting [] = ⊤
AreNew day of from taken waiting (ticket ∷ tickets) =
    IsAfterAll ticket taken × IsNoneOf ticket waiting × AreNew day of (suc from) (taken ++ (ticket, asked.Quotes day from of) ∷ []) (waiting ++ ticket ∷ []) tickets

-- A desk took the commands to the first shards under these tickets, which wait after what waited.
pub record ArePut {O : Type 0} (day of : ℕ) (tickets : List ℕ) (before after : List (ℕ × Asked)) (stood stands : Standing O) : Type 0 where
  pub taken : after ≡ before ++ quotes_put day of 0 tickets
  pub waits : stands ≡ with_waiting (stood.waiting ++ tickets) stood
  pub new : AreNew day of 0 before stood.waiting tickets

-- ---- answers that are got

-- the fault that is there, or else another
abbrev pub first_fault : Option DeskFault → DeskFault → DeskFault
first_fault None other = other
first_fault (Some fault) other = fault

-- what a reply that was got, or not, makes of what is known so far
abbrev pub Keeps : Answered → Result Reply DeskFault → Answered → Type 0
Keeps before (Ok (Quotes batch)) after = (after.fault ≡ before.fault) × (after.lacked_memory ≡ false → (before.lacked_memory ≡ false) × (after.all ≡ both before.all batch))
Keeps before (Ok _) after = after.fault ≡ Some (first_fault before.fault desk.Memory)
Keeps before (Err fault) after = after.fault ≡ Some (first_fault before.fault fault)

-- what is told in the end
abbrev pub told_by : Option DeskFault → Bool → BatchParts → Result BatchParts NotClosed
told_by (Some fault) lacked_memory all = Err (Desk fault)
told_by None true all = Err (Ledger wants_memory)
told_by None false all = Ok all

abbrev pub told_of : Answered → Option DeskFault → Result BatchParts NotClosed
told_of answered (Some refused) = Err (Desk refused)
told_of answered None = told_by answered.fault answered.lacked_memory answered.all

-- the first of some answers that brought no quotes, and this is its fault
pub record IsFirst (fault : DeskFault) (put : List Taken) : Type 0 where
  pub front : List Taken
  pub first : Taken
  pub later : List Taken
  pub parts : put ≡ front ++ first ∷ later
  pub brought : AreBrought front
  pub without : brings_quotes first.answer ≡ false
  pub told : fault ≡ fault_of_answer first.answer

-- With `Refuses` for how a desk may refuse a command, and `Late` for whether a reply of it may be late.
module _ (Refuses : DeskFault → Type 0) (Late : Type 0) where
  -- the desk refused the command to the next of so many shards
  pub record IsNextRefused (count : ℕ) (fault : DeskFault) (put : List Taken) : Type 0 where
    pub more : length put < count
    pub refuses : Refuses fault

  -- An answer brought no quotes, and the answers of all shards before did. By then a command to each of so many shards had been put.
  pub record IsFirstWithout (count : ℕ) (fault : DeskFault) (put : List Taken) : Type 0 where
    pub all_put : length put ≡ count
    pub first : IsFirst fault put

  -- Why the quotes of so many shards did not all come, which is the first cause in the order of the calls: all commands are put before the
  -- first answer is got, and once one is refused no more is put.
  abbrev pub IsStopped : ℕ → DeskFault → List Taken → Type 0
  IsStopped count fault put = IsNextRefused count fault put ⊎ IsFirstWithout count fault put

  -- What is told of asking so many shards: what `made` makes of what they brought, or why they brought not all. Memory is refused
  -- for what was brought only once all of them brought theirs.
  abbrev pub IsTold : ℕ → (List Taken → BatchParts) → List Taken → Result BatchParts NotClosed → Type 0
  IsTold count made put (Ok batch) = IsWhole count put × (batch ≡ made put)
  IsTold count made put (Err (Desk fault)) = IsStopped count fault put
  IsTold count made put (Err (Ledger fault)) = (fault ≡ wants_memory) × IsWhole count put × (1 ≤ length put)

  -- Shards were asked, as far as it came: what was put is `AreAsked`, it was taken, the answers that came are the transcript's, and `Told`
  -- is so of it.
  pub record IsAsked (AreAsked : List Taken → Type 0) (before after : List (ℕ × Asked)) (transcript : ℕ → Option Answer) (Told : List Taken → Type 0) : Type 0 where
    pub put : List Taken
    pub quotes : AreAsked put
    pub in_time : AreInTime Refuses Late put
    pub added : after ≡ before ++ commands_of put
    pub answered : AreAnswered transcript put
    pub told : Told put

-- From one state of a desk to another, with `parts` for what it is at a moment.
module _ {D O : Type 0} (parts : D → DeskParts O) where
  -- its shards were asked
  abbrev pub IsAskedAt : D → D → (List Taken → Type 0) → (List Taken → Type 0) → Type 0
  IsAskedAt before after AreAsked Told =
      IsAsked (MaySometimeRefuse parts (parts before).standing) (MaySometimeBeLate parts (parts before).standing) AreAsked (parts before).taken (parts after).taken (parts after).transcript Told

  -- and this is told of it
  abbrev pub IsToldAt : D → ℕ → (List Taken → BatchParts) → Result BatchParts NotClosed → List Taken → Type 0
  IsToldAt before count made result put = IsTold (MaySometimeRefuse parts (parts before).standing) (MaySometimeBeLate parts (parts before).standing) count made put result
