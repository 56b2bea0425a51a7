-- What a worker is after a turn.
use Rattle.std.proofs.Common.{◌≡◌, ℕ, Bool, true, false, List, [], ◌∷◌, ◌++◌, length, Option, Some, None, IfSome, is_some, sym, ap, ◌∙◌}
use Rattle.std.proofs.lemmas.List.{length-map}
use Rattle.pay_mailbox.specs.Words.{SenderParts, ReceiverParts, having_got}
use Rattle.pay_shard.specs.Words.{JournalMemory, ShardParts, with_memory, item_of}
use Rattle.pay_shard.specs.declared.item.Entry.{Entry}
use Rattle.pay_shard.specs.declared.reply.Answer.{Answer}
use Rattle.pay_lanes.specs.Parts.{WorkerParts, WasFullAt}
use Rattle.pay_lanes.specs.Working.{mailboxes, entries_of, AreTold, IsOfferable, HasItem, IsWorking}
use Rattle.pay_lanes.specs.Turns.{by_shard, HasDone, IsHeldUp}
use Rattle.pay_lanes.specs.declared.outgoing.Outgoing.{Outgoing}
use Rattle.pay_lanes.specs.declared.worker.Turn.TheVariants as turns
use Rattle.pay_lanes.proofs.Told.{with_other_memory}

pub same_length : {T : Type 0} (xs ys : List (SenderParts T)) → mailboxes xs ≡ mailboxes ys → length xs ≡ length ys
same_length xs ys same = sym (length-map xs (λ s. s.mailbox)) ∙ (ap length same ∙ length-map ys (λ s. s.mailbox))

pub told_none : (s : ShardParts) (held : Option Outgoing) (ways : List (SenderParts Answer)) → is_some held ≡ false → AreTold s held ways → AreTold s None ways
told_none s None ways none told = told
told_none s (Some o) ways none told = cc

none_offerable : (held : Option Outgoing) (ways : List (SenderParts Answer)) → is_some held ≡ false → IfSome held (IsOfferable ways)
none_offerable None ways none = tt
none_offerable (Some o) ways none = cc

-- it popped nothing
pub rested : (w : WorkerParts) (s : ShardParts) (r : ReceiverParts Entry) (ways : List (SenderParts Answer)) (held : Option Outgoing) (memory : JournalMemory)
    → IsWorking w → s ≡ with_memory w.shard memory → r ≡ w.requests → AreTold w.shard held ways → mailboxes ways ≡ mailboxes w.lanes → is_some held ≡ false
    → IsWorking (record { shard = s; requests = r; lanes = ways; held = held; shut = w.shut; began = w.began })
rested w s r ways held memory was same none told kept no_held = record {
  popped = ap (λ u. u.got) none ∙ (was.popped ∙ ap entries_of (sym (ap (λ u. u.journal) same)));
  made = ap (λ u. u.made) none ∙ (was.made ∙ sym (same_length ways w.lanes kept));
  told = with_other_memory w.shard s memory held ways same told;
  held = none_offerable held ways no_held;
}

-- it popped one entry
pub done : (w : WorkerParts) (s t : ShardParts) (r : ReceiverParts Entry) (ways : List (SenderParts Answer)) (held : Option Outgoing) (shut : Bool) (began : Option (List ℕ)) (entry : Entry) (memory : JournalMemory) (many place : ℕ)
    → s ≡ with_memory w.shard memory → HasItem s entry t → r ≡ having_got w.requests (entry ∷ []) → many ≡ length s.journal → turns.Did many ≡ turns.Did place
    → HasDone w place (record { shard = t; requests = r; lanes = ways; held = held; shut = shut; began = began })
done w s t r ways held shut began entry memory many place same item got is did =
    let at : place ≡ many = cc in
    let journal : s.journal ≡ w.shard.journal = ap (λ u. u.journal) same in record {
      next = at ∙ (is ∙ ap length journal);
      item = item_of entry item.0;
      journal = ap (λ u. u.journal) item.1 ∙ ap (λ l. l ++ item_of entry item.0 ∷ []) journal;
      popped = got;
    }

-- it holds an answer
pub held_up : (w : WorkerParts) (ways : List (SenderParts Answer)) (held : Option Outgoing) → is_some held ≡ true
    → IfSome held (λ o. (w.held ≡ Some o) × (ways ≡ w.lanes) × WasFullAt by_shard w.lanes o.lane)
    → ((record { shard = w.shard; requests = w.requests; lanes = ways; held = held; shut = w.shut; began = w.began }) ≡ w) × IsHeldUp w
held_up w ways None is h = cc
held_up w ways (Some o) is h = (
  ap (λ l. record { shard = w.shard; requests = w.requests; lanes = l; held = Some o; shut = w.shut; began = w.began }) h.1 ∙ ap (λ x. record { shard = w.shard; requests = w.requests; lanes = w.lanes; held = x; shut = w.shut; began = w.began }) (sym h.0),
  (o, h.0, h.2),
)
