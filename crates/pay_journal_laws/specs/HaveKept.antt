-- What the gates of a service's shards have kept, after texts that were there.
use Rattle.std.specs.Prelude.{◌≡◌, ◌≤◌, ◌+◌, ℕ, false, true, List, [], ◌∷◌, codes, length, map, Some, unwrap_or, ⊤, refl}
use Rattle.std.specs.Io.KnownBytes.{Appends}
use Rattle.std.specs.List.{AllByRecursion}
use Rattle.jiff.specs.declared.tz.timezone.TimeZone.{TimeZone}
use Rattle.pay_rules.specs.InTurn.{IsIn}
use Rattle.pay_tables.specs.Words.{FareEditions}
use Rattle.pay_wire.specs.Words.{IsSpelled}
use Rattle.pay_wire.specs.declared.command.SpelledCommand.{SpelledCommand}
use Rattle.pay_shard.specs.Words.{items_of, AreAskedOf}
use Rattle.pay_shard.specs.declared.asked.Asked.{Asked}
use Rattle.pay_shard.specs.declared.item.Item.{Item}
use Rattle.pay_session.specs.declared.request.Request.{Request}
use Rattle.pay_session.specs.declared.request.Request.TheVariants as requests
use Rattle.pay_journal.specs.Words.{lines_of_items}
use Rattle.pay_journal_laws.specs.Texts.{requests_in, Puts, AskAlike, AreWholeOf}
use Rattle.pay_journal_laws.specs.GivenBack.{new_of, IsPricedIn, GiveBack}
use Rattle.pay_lanes.specs.Words.{WorkerParts}
use Rattle.pay_serve.specs.Keeping.{is_other, of_others}
use Rattle.pay_serve.specs.KeepingGates.{GateParts}
use Rattle.pay_serve.specs.Kept.{IsAllOrButLast}

-- what journals then have: that of each shard what its gate holds, and the others what they had
abbrev pub texts_then : List GateParts → List (List ℕ) → List (List ℕ)
texts_then [] texts = texts
texts_then (g ∷ gates) [] = unwrap_or g.holds [] ∷ texts_then gates []
texts_then (g ∷ gates) (text ∷ texts) = unwrap_or g.holds [] ∷ texts_then gates texts

-- of a merge, of each shard all items of its worker's journal; or where the worker takes nothing more, all but the last one
abbrev pub IsMergeOf : List (ℕ × Item) → List WorkerParts → Type 0
IsMergeOf merged = AllByRecursion (λ (w : WorkerParts). IsAllOrButLast w.shut (items_of w.shard.number merged) w.shard.journal)

module _ (fares : FareEditions) (merged : List (ℕ × Item)) where
  -- The gates of the shards from one on hold, after what they held first, the line of each newly accepted item of theirs, but those of the
  -- spared lane.
  abbrev pub KeepNew : ℕ → List GateParts → Type 0
  KeepNew shard [] = ⊤
  KeepNew shard (g ∷ gates) = Appends g.held_first g.holds (lines_of_items (of_others (new_of fares merged shard))) × KeepNew (shard + 1) gates

-- In a zone, these gates have kept after these texts what so many shards newly accepted of a merge. What the texts ask for was answered by prices, and
-- is all that the spared lane asked anew; and what other lanes asked anew is what a line asks for.
pub record HaveKept (fares : FareEditions) (zone : TimeZone) (merged : List (ℕ × Item)) (gates : List GateParts) (texts : List (List ℕ)) : Type 0 where
  pub some : 1 ≤ length gates
  pub asked : AreAskedOf (length gates) merged
  pub whole : AreWholeOf (map (λ (g : GateParts). g.held_first) gates) texts
  pub kept : KeepNew fares merged 0 gates
  pub priced : (r : Request) → IsIn (requests_in texts) r → (a : Asked) × Puts zone r a × IsPricedIn fares merged a
  pub spared : (shard : ℕ) (i : Item) → IsIn (new_of fares merged shard) i → is_other i.entry.lane ≡ false
      → (r : Request) × IsIn (requests_in texts) r × Puts zone r i.entry.command
  pub others : (shard : ℕ) (i : Item) → IsIn (new_of fares merged shard) i → is_other i.entry.lane ≡ true
      → (c : SpelledCommand) × IsSpelled c × Puts zone (requests.Command c) i.entry.command

-- ---- laws

-- What gates have kept, and the texts that were there, give the accounts of their shards back, whatever order the lines have, and however often
-- some of them stand there.
abbrev pub KeptGivesBack : Type 0
KeptGivesBack = (fares : FareEditions) (zone : TimeZone) (merged : List (ℕ × Item)) (gates : List GateParts) (texts later : List (List ℕ))
    → HaveKept fares zone merged gates texts → AskAlike (texts_then gates texts) later → GiveBack fares zone merged later

-- ---- worked rows

-- of two shards the first, whose journal had a whole line and the front of another, has kept one line more; the third journal stays as it was
two_shards : texts_then
    (record { held_first = Some (codes "A\n"); holds = Some (codes "A\nC\n"); stuck = false } ∷ record { held_first = Some []; holds = Some []; stuck = false } ∷ [])
    (codes "A\nB" ∷ [] ∷ codes "D\n" ∷ [])
    ≡ codes "A\nC\n" ∷ [] ∷ codes "D\n" ∷ []
two_shards = refl
