-- What the gates of workers have let pass.
use Rattle.std.specs.Prelude.{◌≡◌, ℕ, eqb, Bool, true, false, if◌then◌else◌, IsTrue, List, [], ◌∷◌, ◌++◌, All, zip, Some, slice_get}
use Rattle.std.specs.List.{AllZip}
use mathlib.Core.List.{IsPrefix}
use Rattle.pay_mailbox.specs.Words.{SenderParts, of}
use Rattle.pay_shard.specs.Words.{ShardParts, answers_given}
use Rattle.pay_shard.specs.declared.reply.Answer.{Answer}
use Rattle.pay_lanes.specs.Parts.{LaneParts, WorkerParts}
use Rattle.pay_lanes.specs.Passing.{Passed}
use Rattle.pay_lanes.specs.Turns.{by_shard}
use Rattle.pay_lanes.specs.Working.{entries_of}

-- the entries of a shard's journal, each with what the journal's run answers
abbrev pub all_answered : ShardParts → List Passed
all_answered s = zip (entries_of s.journal) (answers_given s)

-- of these the answers to a lane
abbrev pub passed_to : ℕ → List Passed → List Answer
passed_to lane [] = []
passed_to lane (p ∷ passed) = if eqb p.0.lane lane then p.1 ∷ passed_to lane passed else passed_to lane passed

-- what was let pass of a shard: all, or all but the last where its worker is shut
abbrev pub IsLetPass : ShardParts → Bool → List Passed → Type 0
IsLetPass s false passed = all_answered s ≡ passed
IsLetPass s true passed = (last : Passed) × (all_answered s ≡ passed ++ last ∷ [])

-- The gate of a worker holds what was let pass, and that it then refused one more, exactly if the worker is shut: all that was let pass has been
-- sent to the lanes then, and nothing else.
pub record IsGated (Holds : List Passed → Bool → Type 0) (s : ShardParts) (shut : Bool) (ways : List (SenderParts Answer)) : Type 0 where
  pub passed : List Passed
  pub are : IsLetPass s shut passed
  pub gate : Holds passed shut
  pub sent : IsTrue shut → (lane : ℕ) (way : SenderParts Answer) → slice_get ways lane ≡ Some way → way.sent ≡ passed_to lane passed

-- what a lane took from the shard of this number is the first of what was let pass to it
abbrev pub IsFirstOf : ℕ → List Passed → LaneParts → Type 0
IsFirstOf shard passed l = IsPrefix (of by_shard shard l.answers.got) (passed_to l.number passed)

-- The gate of a worker holds what was let pass, and that it then refused one more, exactly if the worker is shut. Each lane took the first of what
-- was let pass.
pub record HasPassed (Holds : List Passed → Bool → Type 0) (lanes : List LaneParts) (w : WorkerParts) : Type 0 where
  pub passed : List Passed
  pub are : IsLetPass w.shard w.shut passed
  pub gate : Holds passed w.shut
  pub taken : All (IsFirstOf w.shard.number passed) lanes

module _ {G : Type 0} (Holds : G → List Passed → Bool → Type 0) (lanes : List LaneParts) where
  -- each worker has such a gate
  abbrev pub HavePassed : List WorkerParts → List G → Type 0
  HavePassed workers gates = AllZip (λ w gate. HasPassed (Holds gate) lanes w) workers gates

  -- the gate of one more worker
  pub record IsNextGate (w : WorkerParts) (before after : List G) : Type 0 where
    pub gate : G
    pub pushed : after ≡ before ++ gate ∷ []
    pub passed : HasPassed (Holds gate) lanes w
