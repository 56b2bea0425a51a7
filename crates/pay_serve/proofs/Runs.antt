-- What a gate keeps of what the run of a journal answers.
use Rattle.std.proofs.Common.{◌≡◌, ℕ, ◌+◌, Bool, true, false, List, [], ◌∷◌, ◌++◌, All, Option, refl, sym, ap, ◌∙◌, subst}
use Rattle.std.specs.Prelude.{if◌then◌else◌, zip}
use Rattle.std.specs.Io.KnownBytes.{Appends}
use Rattle.pay_tables.specs.Words.{FareEditions}
use Rattle.pay_rules.specs.State.{State}
use Rattle.pay_shard.specs.Words.{item_step, is_new, answer_at, answers_from, new_items}
use Rattle.pay_shard.specs.declared.item.Item.{Item}
use Rattle.pay_journal.specs.Words.{line_of, lines_of_items}
use Rattle.pay_lanes.specs.Words.{LaneParts, WorkerParts, Passed, entries_of, IsLetPass, IsFirstOf}
use Rattle.pay_serve.specs.Keeping.{is_other, kept_lines, of_others}
use Rattle.pay_serve.specs.KeepingGates.{GateParts, HoldsPassed}
use Rattle.pay_serve.specs.Kept.{IsAllOrButLast, answered_of, HasKept, PassedAreKept, KeptAreNew}

module _ (item : Item) (rest : List ℕ) (news : List Item) (same : rest ≡ lines_of_items (of_others news)) where
  newly : (other : Bool) → (if if other then true else false then line_of item.entry.command else []) ++ rest ≡ lines_of_items (if other then item ∷ of_others news else of_others news)
  newly true = ap (λ l. line_of item.entry.command ++ l) same
  newly false = same

  not_newly : (other : Bool) → (if if other then false else false then line_of item.entry.command else []) ++ rest ≡ lines_of_items (of_others news)
  not_newly true = same
  not_newly false = same

  of_item : (new : Bool) → (if if is_other item.entry.lane then new else false then line_of item.entry.command else []) ++ rest ≡ lines_of_items (of_others (if new then item ∷ news else news))
  of_item true = newly (is_other item.entry.lane)
  of_item false = not_newly (is_other item.entry.lane)

from_place : (shard place : ℕ) (editions : FareEditions) (base : State) (items : List Item)
    → kept_lines (zip (entries_of items) (answers_from shard place editions base items)) ≡ lines_of_items (of_others (new_items editions base items))
from_place shard place editions base [] = refl
from_place shard place editions base (item ∷ items) =
    let after = (item_step editions base item).after in
    of_item item (kept_lines (zip (entries_of items) (answers_from shard (place + 1) editions after items))) (new_items editions after items) (from_place shard (place + 1) editions after items)
    (is_new (item_step editions base item).reply)

pub kept_are_new : KeptAreNew
kept_are_new shard editions base items = from_place shard 0 editions base items

-- ---- what passed, of a journal

none_answered : (shard place : ℕ) (editions : FareEditions) (base : State) (journal : List Item) → zip (entries_of journal) (answers_from shard place editions base journal) ≡ [] → journal ≡ []
none_answered shard place editions base [] e = refl
none_answered shard place editions base (item ∷ journal) e = absurd (cc)

record IsButLast (shard place : ℕ) (editions : FareEditions) (base : State) (journal : List Item) (passed : List Passed) : Type 0 where
  items : List Item
  last : Item
  parts : journal ≡ items ++ last ∷ []
  answered : passed ≡ zip (entries_of items) (answers_from shard place editions base items)

but_last : (shard place : ℕ) (editions : FareEditions) (base : State) (journal : List Item) (passed : List Passed) (last : Passed)
    → zip (entries_of journal) (answers_from shard place editions base journal) ≡ passed ++ last ∷ [] → IsButLast shard place editions base journal passed
but_last shard place editions base [] [] last e = absurd (cc)
but_last shard place editions base [] (p ∷ passed) last e = absurd (cc)
but_last shard place editions base (item ∷ journal) [] last e =
    let rest : zip (entries_of journal) (answers_from shard (place + 1) editions (item_step editions base item).after journal) ≡ [] = cc in
    record { items = []; last = item; parts = ap (λ l. item ∷ l) (none_answered shard (place + 1) editions (item_step editions base item).after journal rest); answered = refl }
but_last shard place editions base (item ∷ journal) (p ∷ passed) last e =
    let rest : zip (entries_of journal) (answers_from shard (place + 1) editions (item_step editions base item).after journal) ≡ passed ++ last ∷ [] = cc in
    let first : (item.entry, answer_at shard place editions base item) ≡ p = cc in
    let more = but_last shard (place + 1) editions (item_step editions base item).after journal passed last rest in
    record { items = item ∷ more.items; last = more.last; parts = ap (λ l. item ∷ l) more.parts; answered = (λ i. sym first i ∷ more.answered i) }

module _ {K : Type 0} (holds : K → Option (List ℕ)) (HasFailed IsSettled : K → Type 0) where
  its_bytes : (w : WorkerParts) (g : GateParts) (items : List Item) (passed : List Passed) (rest : List ℕ) → passed ≡ answered_of w items → Appends g.held_first g.holds (kept_lines passed ++ rest)
      → Appends g.held_first g.holds (lines_of_items (of_others (new_items w.shard.editions w.shard.base items)) ++ rest)
  its_bytes w g items passed rest are bytes =
      subst (λ l. Appends g.held_first g.holds (l ++ rest)) (ap kept_lines are ∙ kept_are_new w.shard.number w.shard.editions w.shard.base items) bytes

  as_items : (lanes : List LaneParts) (w : WorkerParts) (g : GateParts) (items : List Item) (passed : List Passed) → IsAllOrButLast w.shut items w.shard.journal → passed ≡ answered_of w items
      → HoldsPassed holds HasFailed IsSettled g passed w.shut → All (IsFirstOf w.shard.number passed) lanes → HasKept lanes w g
  as_items lanes w g items passed are same it taken = record {
    is_stuck = it.is_stuck;
    items = items;
    are = are;
    rest = it.rest;
    bytes = its_bytes w g items passed it.rest same it.bytes;
    is_rest = it.is_rest;
    taken = subst (λ ps. All (IsFirstOf w.shard.number ps) lanes) same taken;
  }

  pub passed_are_kept : PassedAreKept holds HasFailed IsSettled
  passed_are_kept lanes w g has = by w.shut refl has.are
    where
      by : (shut : Bool) → w.shut ≡ shut → IsLetPass w.shard shut has.passed → HasKept lanes w g
      by false is are = as_items lanes w g w.shard.journal has.passed (subst (λ b. IsAllOrButLast b w.shard.journal w.shard.journal) (sym is) refl) (sym are) has.gate has.taken
      by true is are =
          let front = but_last w.shard.number 0 w.shard.editions w.shard.base w.shard.journal has.passed are.0 are.1 in
          as_items lanes w g front.items has.passed (subst (λ b. IsAllOrButLast b front.items w.shard.journal) (sym is) (front.last, front.parts)) front.answered has.gate has.taken
