-- What a close asks of a desk, and how it may be refused.
use Rattle.std.specs.Prelude.{◌≡◌, ◌⊎◌, ℕ, ◌<◌, suc, Bool, true, false, not, List, [], ◌∷◌, ◌++◌, length, Option, Some, None, IfNone, Result, Ok, Err, IsTrue, IfErr, ⊤, refl}
use Rattle.std.specs.List.{AllByRecursion, list_any}
use Rattle.pay_rules.specs.declared.posting.Posting.{Posting}
use Rattle.pay_shard.specs.declared.asked.Asked.{Asked}
use Rattle.pay_shard.specs.declared.asked.Asked.TheVariants as asked
use Rattle.pay_shard.specs.declared.desk.DeskFault.{DeskFault}
use Rattle.pay_shard.specs.declared.reply.Answer.{Answer}
use Rattle.pay_shard.specs.declared.reply.Reply.{Reply}
use Rattle.pay_shard.specs.declared.reply.Reply.TheVariants as desk_reply
use Rattle.pay_shard.specs.Words.{Standing, DeskParts}
use Rattle.pay_wire.specs.declared.refusal.Refusal.{Refusal}
use Rattle.pay_wire.specs.declared.refusal.Refusal.TheVariants as refusal
use Rattle.pay_till.specs.Taken.{Taken, commands_of, AreAnswered}

-- a close asks the shards for the quotes of its day, each once, from one on in ascending order, as far as it comes
abbrev pub AreQuotes : ℕ → ℕ → ℕ → List Taken → Type 0
AreQuotes day of from [] = ⊤
AreQuotes day of from (t ∷ ts) = (from < of) × (t.asked ≡ asked.Quotes day from of) × AreQuotes day of (suc from) ts

-- whether quotes came
abbrev pub gives_quotes : Reply → Bool
gives_quotes (desk_reply.Quotes batch) = true
gives_quotes _ = false

abbrev pub brings_quotes : Option Answer → Bool
brings_quotes (Some answer) = gives_quotes answer.reply
brings_quotes None = false

-- whether a close may be refused so: nothing is closed here, the day is not over, the quotes did not come, the ledger refuses, or
-- memory ran out
abbrev pub is_of_close : Refusal → Bool
is_of_close refusal.NotHere = true
is_of_close refusal.StaleQuote = true
is_of_close refusal.Store = true
is_of_close refusal.DeskFault = true
is_of_close refusal.BadArchive = true
is_of_close refusal.ArchiveConflict = true
is_of_close refusal.QuoteDiffers = true
is_of_close refusal.NotOver = true
is_of_close refusal.Memory = true
is_of_close _ = false

-- that a reply did not come in time is no refusal of a close
not_late : is_of_close refusal.Late ≡ false
not_late = refl

-- What the close comes to whose quotes are only counted, by the answer: it is refused where nothing is closed here, or where the desk, the
-- store or memory failed; else it is put off.
abbrev pub put_off : Result ℕ Refusal → Result (List Posting) Refusal
put_off (Err refusal.NotHere) = Err refusal.NotHere
put_off (Err refusal.DeskFault) = Err refusal.DeskFault
put_off (Err refusal.Store) = Err refusal.Store
put_off (Err refusal.Memory) = Err refusal.Memory
put_off _ = Err refusal.NotOver

-- two accounts are open
two_are_open : put_off (Ok 2) ≡ Err refusal.NotOver
two_are_open = refl

-- a posting is none, which the ledger says, and the close does not
bad_posting : put_off (Err refusal.BadArchive) ≡ Err refusal.NotOver
bad_posting = refl

failed_store : put_off (Err refusal.Store) ≡ Err refusal.Store
failed_store = refl

-- With `Refuses` for how a desk may refuse a command, and `Late` for whether a reply of it may be late.
module _ (Refuses : DeskFault → Type 0) (Late : Type 0) where
  -- an answer is missing where it may be late alone
  abbrev pub AreInTime : List Taken → Type 0
  AreInTime = AllByRecursion (λ (t : Taken). IfNone t.answer Late)

  -- Why the quotes are not all there: the desk refused to take a command for them, or some that were put brought none.
  abbrev pub IsShort : List Taken → Type 0
  IsShort put = ((fault : DeskFault) × Refuses fault) ⊎ (list_any (λ (t : Taken). not (brings_quotes t.answer)) put ≡ true)

  -- A close, with `Closes` for what the till says of it: what was put, and the answer.
  pub record IsClose (Closes : List Taken → Result (List Posting) Refusal → Type 0) (day of : ℕ) (put : List Taken) (result : Result (List Posting) Refusal) : Type 0 where
    pub quotes : AreQuotes day of 0 put
    pub in_time : AreInTime put
    pub short : result ≡ Err refusal.DeskFault → IsShort put
    pub of_close : IfErr result (λ why. IsTrue (is_of_close why))
    pub closes : Closes put result

  -- What a close did over a desk: what was put for it was taken, and the answers are the transcript's.
  pub record IsClosed (Closes : List Taken → Result (List Posting) Refusal → Type 0) (day of : ℕ) (before after : List (ℕ × Asked)) (transcript : ℕ → Option Answer) (result : Result (List Posting) Refusal) : Type 0 where
    pub put : List Taken
    pub close : IsClose Closes day of put result
    pub added : after ≡ before ++ commands_of put
    pub answered : AreAnswered transcript put

-- A desk stood so before a line and does so within it: beside what waits of before, no more than a close has put, which is one
-- for each shard.
pub record IsWithin {O : Type 0} (before now : Standing O) : Type 0 where
  pub same_origin : now.origin ≡ before.origin
  pub same_shards : now.shards ≡ before.shards
  pub more : List ℕ
  pub waits : now.waiting ≡ before.waiting ++ more
  pub few : (more ≡ []) ⊎ (length more < before.shards)

-- the desk, as it stands at some time within a line, may refuse a command so
unfoldable pub MaySometimeRefuse : {D O : Type 0} → (D → DeskParts O) → Standing O → DeskFault → Type 0
MaySometimeRefuse {D = D} parts before fault = (desk : D) × IsWithin before (parts desk).standing × (parts desk).MayRefuse fault

-- and a reply of it may be late
unfoldable pub MaySometimeBeLate : {D O : Type 0} → (D → DeskParts O) → Standing O → Type 0
MaySometimeBeLate {D = D} parts before = (desk : D) × ((parts desk).standing.origin ≡ before.origin) × ((parts desk).standing.shards ≡ before.shards) × (parts desk).MayBeLate

-- From one state of a desk to another, with `parts` for what it is at a moment.
module _ {D O : Type 0} (parts : D → DeskParts O) where
  -- A till closed a day over it. `Closes` says of the till what a close comes to, by how many shards answer, what was put, and
  -- the answer.
  abbrev pub IsClosedAt : D → D → ℕ → (ℕ → List Taken → Result (List Posting) Refusal → Type 0) → Result (List Posting) Refusal → Type 0
  IsClosedAt before after day Closes result =
      IsClosed (MaySometimeRefuse parts (parts before).standing) (MaySometimeBeLate parts (parts before).standing) (Closes (parts before).standing.shards) day (parts before).standing.shards
      (parts before).taken (parts after).taken (parts after).transcript result
