-- What a service leaves in its journals gives its accounts back.
use Rattle.std.proofs.Common.{◌≡◌, ℕ, false, List, [], ◌∷◌, ◌++◌, All, length, map, Option, Result, Ok, Bool, sym, ap, ◌∙◌, subst}
use Rattle.std.specs.List.{AllByRecursion, AllZip}
use Rattle.pay_shard.specs.Words.{items_of, AreAskedOf, NothingIsLost}
use Rattle.pay_shard.specs.declared.item.Item.{Item}
use Rattle.pay_lanes.specs.Words.{LaneParts, WorkerParts, IsNewLane, IsSameLane, Passed}
use Rattle.pay_till.specs.Words.{Taken, AreQuotes, commands_of}
use Rattle.pay_serve.specs.KeepingGates.{GateParts}
use Rattle.pay_serve.specs.Kept.{HasKept}
use Rattle.pay_journal_laws.specs.Texts.{AskAlike, AskWithin, AreWholeOf}
use Rattle.pay_journal_laws.specs.GivenBack.{GiveBack, AreTaken}
use Rattle.pay_journal_laws.specs.HaveKept.{texts_then}
use Rattle.pay_serve.specs.declared.limits.TheConstants.{SPARED_LANE}
use Rattle.pay_office.specs.Words.{desk_parts, commands_sent, NoneIsHidden, HaveLetPass}
use Rattle.pay_serve.specs.Closes.{Closing, Terms, new_desk, IsServedBy}
use Rattle.pay_serve.specs.Journals.{AreTakenThrough, is_one_stuck}
use Rattle.pay_serve.specs.Lanes.{AreAllWith, HasAskedIn}
use Rattle.pay_serve.specs.Machines.{IsNewOffice, IsOver}
use Rattle.pay_serve.specs.declared.fault.ServeFault.{ServeFault}

-- What a service has left that was served by these terms, but for its ledger and what it wrote: what stands of its lanes, its shards' journals and its
-- gates. The first lane took the texts of the journals again, and then what a close puts; the others took what lines ask for.
pub record IsLeft (Holds : GateParts → List Passed → Bool → Type 0) (terms : Terms) : Type 0 where
  pub office : List WorkerParts
  pub new : IsNewOffice terms.fares office
  pub first : LaneParts
  pub spared : (first.number ≡ SPARED_LANE) × IsNewLane (length office) first
  pub last : LaneParts
  pub past : AreTakenThrough terms.zone terms.texts first last (Ok tt)
  pub others : List LaneParts
  pub all : AreAllWith office others last
  pub spelled : All (HasAskedIn terms.zone) others
  -- the first lane once the day was closed over it, or not
  pub lane : LaneParts
  pub same : IsSameLane last lane
  pub answered : NothingIsLost (desk_parts (new_desk last)).transcript (desk_parts (new_desk lane)).transcript
  pub put : List Taken
  pub quotes : AreQuotes terms.day (length last.shards) 0 put
  pub added : commands_sent lane ≡ commands_sent last ++ commands_of put
  pub none_hidden : NoneIsHidden lane
  pub over : IsOver office (others ++ lane ∷ [])
  pub gates : List GateParts
  pub began : map (λ (g : GateParts). g.held_first) gates ≡ terms.held
  pub passed : HaveLetPass Holds office (others ++ lane ∷ []) over.0 gates
  pub kept : AllZip (HasKept (others ++ lane ∷ [])) passed.workers gates

-- each service leaves that
pub left_by : {Holds : GateParts → List Passed → Bool → Type 0} {terms : Terms} {Closed : Closing} {before after : Option (List ℕ)} {result : Result Bool ServeFault}
    → IsServedBy Holds terms Closed before after result → IsLeft Holds terms
left_by served =
    let through = served.closed.through in
    record {
      office = served.office;
      new = served.new;
      first = served.first;
      spared = served.spared;
      last = served.last;
      past = served.past;
      others = served.others;
      all = served.all;
      spelled = served.asked;
      lane = served.closed.lane;
      same = served.closed.same;
      answered = subst (λ (l : LaneParts). NothingIsLost (desk_parts (new_desk served.last)).transcript (desk_parts (new_desk l)).transcript) (sym through.lane) through.kept;
      put = through.closed.closed.put;
      quotes = through.closed.closed.close.quotes;
      added = ap commands_sent through.lane ∙ through.closed.closed.added;
      none_hidden = served.closed.none_hidden;
      over = served.closed.one.over;
      gates = served.gates;
      began = served.began;
      passed = served.closed.gates;
      kept = served.kept;
    }

-- of a merge, of each shard its worker's journal
abbrev pub HasJournals : List (ℕ × Item) → List WorkerParts → Type 0
HasJournals merged = AllByRecursion (λ (w : WorkerParts). items_of w.shard.number merged ≡ w.shard.journal)

module _ {Holds : GateParts → List Passed → Bool → Type 0} {terms : Terms} where
  -- Some texts are taken again after a service that could keep everything, and whose keepers held the whole lines of its journals' texts: they ask
  -- for what its journals then have. A merge has of each of its shards the journal.
  pub record TakesUp (left : IsLeft Holds terms) (merged : List (ℕ × Item)) (later : List (List ℕ)) : Type 0 where
    pub kept : is_one_stuck left.gates ≡ false
    pub whole : AreWholeOf terms.held terms.texts
    pub asked : AreAskedOf (length left.office) merged
    pub merge : HasJournals merged left.passed.workers
    pub alike : AskAlike (texts_then left.gates terms.texts) later

-- What a service leaves in its journals gives the accounts of its shards back, in whatever order its lines are taken again, and however often.
abbrev pub ServiceGivesBack : (GateParts → List Passed → Bool → Type 0) → Type 0
ServiceGivesBack Holds = (terms : Terms) (left : IsLeft Holds terms) (merged : List (ℕ × Item)) (later : List (List ℕ))
    → TakesUp left merged later → GiveBack terms.fares terms.zone merged later

-- So is whatever asks for no more than that accepted, such as journals that were cut.
abbrev pub ServicePartsAreTaken : (GateParts → List Passed → Bool → Type 0) → Type 0
ServicePartsAreTaken Holds = (terms : Terms) (left : IsLeft Holds terms) (merged : List (ℕ × Item)) (later part : List (List ℕ))
    → TakesUp left merged later → AskWithin later part → AreTaken terms.fares terms.zone part
