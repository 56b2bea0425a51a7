-- One command at a local desk, and its line at a keeper.
use Rattle.std.proofs.Common.{◌≡◌, inl, inr, ℕ, Bool, true, false, List, [], ◌∷◌, ◌++◌, Option, refl, sym, ap, ◌∙◌, subst}
use Rattle.std.specs.Prelude.{if◌then◌else◌}
use Rattle.std.specs.Io.KnownBytes.{Appends}
use Rattle.std.proofs.KnownBytes.{Appends-nil}
use Rattle.std.proofs.lemmas.List.{append-nil}
use Rattle.pay_tables.specs.Words.{FareEditions}
use Rattle.pay_wire.specs.Words.{AppendsFront}
use Rattle.pay_rules.specs.State.{State}
use Rattle.pay_shard.specs.Words.{LocalParts, commands_of, transcript_of, desk_parts, IsTaken, ShardParts, JournalMemory, with_items, with_memory, state_now, item_step, is_new, new_items, Standing, with_waiting, without, IsAfterAll, IsNoneOf, NothingIsLost, StandsAsBefore}
use Rattle.pay_shard.specs.declared.asked.Asked.{Asked}
use Rattle.pay_shard.specs.declared.desk.DeskFault.{DeskFault}
use Rattle.pay_shard.specs.declared.desk.DeskFault.TheVariants.{Memory, NotKept}
use Rattle.pay_shard.specs.declared.item.Item.{Item}
use Rattle.pay_journal.specs.KeptAnswers.{line_if}
use Rattle.pay_journal.specs.Lines.{line_of, lines_of_items}
use Rattle.pay_journal.specs.Puts.{is_new_answer, IsPutKept, IsNotPut}

-- ---- the line of one item

lines_of_one : (editions : FareEditions) (state : State) (item : Item) → lines_of_items (new_items editions state (item ∷ [])) ≡ line_if (is_new (item_step editions state item).reply) item.entry.command
lines_of_one editions state item = by (is_new (item_step editions state item).reply)
  where
    by : (b : Bool) → lines_of_items (if b then item ∷ [] else []) ≡ line_if b item.entry.command
    by true = append-nil (line_of item.entry.command)
    by false = refl

its_line : (ticket : ℕ) (command : Asked) (before after : ShardParts) (taken : IsTaken ticket command before after)
    → lines_of_items (new_items before.editions (state_now before) (taken.item ∷ [])) ≡ line_if (is_new_answer (transcript_of after ticket)) command
its_line ticket command before after taken =
    let new : is_new_answer (transcript_of after ticket) ≡ is_new (item_step before.editions (state_now before) taken.item).reply = ap is_new_answer taken.answered in
    lines_of_one before.editions (state_now before) taken.item ∙ (λ i. line_if (sym new i) (taken.is_entry i).command)

-- ---- a shard with no more

pub with_none : (s : ShardParts) (memory : JournalMemory) → with_items s [] memory ≡ with_memory s memory
with_none s memory = ap (λ (j : List Item). record { number = s.number; editions = s.editions; base = s.base; journal = j; memory = memory }) (append-nil s.journal)

-- ---- what came of a command

module _ (ticket : ℕ) (command : Asked) (before put after : LocalParts) (held holds : Option (List ℕ)) where
  pub put_kept : IsTaken ticket command before.shard put.shard → IsAfterAll ticket (commands_of before.shard.journal) → IsNoneOf ticket before.waiting
      → (desk_parts put).standing ≡ with_waiting (before.waiting ++ ticket ∷ []) (desk_parts before).standing → NothingIsLost (transcript_of before.shard) (transcript_of put.shard)
      → after.shard ≡ put.shard → after.waiting ≡ put.waiting → Appends held holds (line_if (is_new_answer (transcript_of put.shard ticket)) command)
      → IsPutKept ticket command before after held holds
  put_kept taken later fresh waits transcript same_shard same_waiting more =
      subst (λ (s : ShardParts). IsPutKept ticket command before (record { shard = s; waiting = after.waiting }) held holds) (sym same_shard)
      (record {
        taken = taken;
        later = later;
        fresh = fresh;
        waits = same_waiting ∙ ap (λ (s : Standing (FareEditions × State)). s.waiting) waits;
        transcript = transcript;
        bytes = subst (Appends held holds) (sym (its_line ticket command before.shard put.shard taken)) more;
      })

  pub not_kept : (Failed : Type 0) → StandsAsBefore (FareEditions × State) → IsTaken ticket command before.shard put.shard → IsNoneOf ticket before.waiting
      → (desk_parts put).standing ≡ with_waiting (before.waiting ++ ticket ∷ []) (desk_parts before).standing
      → after.shard ≡ put.shard → after.waiting ≡ without ticket put.waiting → AppendsFront held holds (line_of command) → Failed
      → IsNotPut Failed NotKept command before after held holds
  not_kept Failed stands taken fresh waits same_shard dropped front failed =
      let between = (desk_parts put).standing in
      let as_before = stands (desk_parts before).standing between (with_waiting (without ticket between.waiting) between) ticket fresh waits refl in
      subst (λ (s : ShardParts). IsNotPut Failed NotKept command before (record { shard = s; waiting = after.waiting }) held holds) (sym same_shard)
      (record {
        more = taken.item ∷ [];
        is_more = taken.added;
        same = dropped ∙ ap (λ (s : Standing (FareEditions × State)). s.waiting) as_before;
        front = front.0;
        bytes = front.1;
        cause = inr (refl, failed);
      })

-- nothing was put, for want of memory
pub no_memory : (Failed : Type 0) (fault : DeskFault) (command : Asked) (before after : LocalParts) (held : Option (List ℕ)) → fault ≡ Memory → after.shard ≡ with_memory before.shard after.shard.memory
    → (desk_parts after).standing ≡ (desk_parts before).standing → IsNotPut Failed fault command before after held held
no_memory Failed fault command before after held is same stands = record {
  more = [];
  is_more = same ∙ sym (with_none before.shard after.shard.memory);
  same = ap (λ (s : Standing (FareEditions × State)). s.waiting) stands;
  front = 0;
  bytes = Appends-nil held;
  cause = inl (is, refl, refl);
}
