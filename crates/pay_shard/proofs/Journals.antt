-- A journal with one more item.
use Rattle.std.proofs.Common.{◌≡◌, ℕ, zero, suc, ◌+◌, Bool, List, [], ◌∷◌, ◌++◌, map, length, Some, refl, sym, ap, ◌∙◌, subst, arith}
use Rattle.std.specs.List.{slice_get}
use Rattle.pay_tables.specs.Words.{FareEditions}
use Rattle.pay_rules.specs.State.{State}
use Rattle.pay_shard.specs.Machine.{Step, step, marked_step, item_step, is_memory, is_refusal, IsAnswered}
use Rattle.pay_shard.specs.Runs.{run, replay, answer_at, answers_from, answers, reply_at, answer_to, IsMarkedRightly, IsHistory}
use Rattle.pay_shard.specs.ShardParts.{item_of}
use Rattle.pay_shard.specs.declared.asked.Asked.{Asked}
use Rattle.pay_shard.specs.declared.item.Entry.{Entry}
use Rattle.pay_shard.specs.declared.item.Item.{Item}
use Rattle.pay_shard.specs.declared.reply.Reply.{Reply}
use Rattle.pay_shard.specs.declared.reply.Answer.{Answer}

pub replay_more : (editions : FareEditions) (state : State) (items : List Item) (item : Item) → replay editions state (items ++ item ∷ []) ≡ (item_step editions (replay editions state items) item).after
replay_more editions state [] item = refl
replay_more editions state (first ∷ items) item = replay_more editions (item_step editions state first).after items item

answers_from_more : (shard place : ℕ) (editions : FareEditions) (state : State) (items : List Item) (item : Item)
    → answers_from shard place editions state (items ++ item ∷ []) ≡ answers_from shard place editions state items ++ answer_at shard (place + length items) editions (replay editions state items) item ∷ []
answers_from_more shard place editions state [] item = ap (λ n. answer_at shard n editions state item ∷ []) (omega arith)
answers_from_more shard place editions state (first ∷ items) item =
    let after = (item_step editions state first).after in
    let at : place + 1 + length items ≡ place + length (first ∷ items) = omega arith in
    ap (λ (l : List Answer). answer_at shard place editions state first ∷ l) (answers_from_more shard (place + 1) editions after items item
    ∙ ap (λ n. answers_from shard (place + 1) editions after items ++ answer_at shard n editions (replay editions after items) item ∷ []) at)

pub answers_more : (shard : ℕ) (editions : FareEditions) (state : State) (items : List Item) (item : Item)
    → answers_from shard 0 editions state (items ++ item ∷ []) ≡ answers_from shard 0 editions state items ++ answer_at shard (length items) editions (replay editions state items) item ∷ []
answers_more shard editions state items item =
    let none : 0 + length items ≡ length items = omega arith in
    answers_from_more shard 0 editions state items item ∙ ap (λ n. answers_from shard 0 editions state items ++ answer_at shard n editions (replay editions state items) item ∷ []) none

-- ---- answers and replies

pub replies_answered : (shard place : ℕ) (editions : FareEditions) (state : State) (items : List Item) → map (λ (a : Answer). a.reply) (answers_from shard place editions state items) ≡ (run editions state items).replies
replies_answered shard place editions state [] = refl
replies_answered shard place editions state (item ∷ items) = ap (λ (l : List Reply). (item_step editions state item).reply ∷ l) (replies_answered shard (place + 1) editions (item_step editions state item).after items)

answered_from : (shard from : ℕ) (editions : FareEditions) (state : State) (items : List Item) (place : ℕ)
    → slice_get (answers_from shard from editions state items) place ≡ answer_to shard (from + place) (slice_get items place) (reply_at editions state items place)
answered_from shard from editions state [] place = refl
answered_from shard from editions state (item ∷ items) zero = let at : from ≡ from + 0 = omega arith in ap (λ n. Some (answer_at shard n editions state item)) at
answered_from shard from editions state (item ∷ items) (suc place) =
    let after = (item_step editions state item).after in
    let at : from + 1 + place ≡ from + suc place = omega arith in
    answered_from shard (from + 1) editions after items place ∙ ap (λ n. answer_to shard n (slice_get items place) (reply_at editions after items place)) at

pub answered_at : (shard : ℕ) (editions : FareEditions) (state : State) (items : List Item) (place : ℕ)
    → slice_get (answers_from shard 0 editions state items) place ≡ answer_to shard place (slice_get items place) (reply_at editions state items place)
answered_at shard editions state items place =
    let at : 0 + place ≡ place = omega arith in
    answered_from shard 0 editions state items place ∙ ap (λ n. answer_to shard n (slice_get items place) (reply_at editions state items place)) at

-- ---- one item more

pub history_more : (editions : FareEditions) (state : State) (items : List Item) (item : Item) → IsHistory editions state items → IsMarkedRightly editions (replay editions state items) item → IsHistory editions state (items ++ item ∷ [])
history_more editions state [] item are is = (is, tt)
history_more editions state (first ∷ items) item are is = (are.0, history_more editions (item_step editions state first).after items item are.1 is)

-- ---- an entry was answered

module _ (editions : FareEditions) (base : State) (items : List Item) (now after : State) (entry : Entry) (a : Asked) (reply : Reply) (mark : Bool) where
  item_answered : now ≡ replay editions base items → a ≡ entry.command → mark ≡ is_memory reply → IsAnswered editions now a reply after → item_step editions (replay editions base items) (item_of entry mark) ≡ record { reply = reply; after = after }
  item_answered replayed asked marked answered = sym (λ i. marked_step (sym marked i) editions (replayed i) (asked i)) ∙ answered.0

  marked_rightly : now ≡ replay editions base items → a ≡ entry.command → mark ≡ is_memory reply → IsAnswered editions now a reply after → IsMarkedRightly editions (replay editions base items) (item_of entry mark)
  marked_rightly replayed asked marked answered = λ is. ap (λ (s : Step). is_refusal s.reply) (sym (λ i. step editions (replayed i) (asked i))) ∙ answered.1 (sym marked ∙ is)

  pub still_replayed : (later : FareEditions) (written : List Item) → now ≡ replay editions base items → IsHistory editions base items → a ≡ entry.command → mark ≡ is_memory reply → IsAnswered editions now a reply after
      → later ≡ editions → written ≡ items ++ item_of entry mark ∷ [] → (after ≡ replay later base written) × IsHistory later base written
  still_replayed later written replayed history asked marked answered same more = (
    sym ((λ i. replay (same i) base (more i)) ∙ replay_more editions base items (item_of entry mark) ∙ ap (λ (s : Step). s.after) (item_answered replayed asked marked answered)),
    subst (λ t. IsHistory t base written) (sym same) (subst (IsHistory editions base) (sym more) (history_more editions base items (item_of entry mark) history (marked_rightly replayed asked marked answered))),
  )

  pub answers_next : (shard place : ℕ) (later : FareEditions) (written : List Item) → now ≡ replay editions base items → a ≡ entry.command → mark ≡ is_memory reply → IsAnswered editions now a reply after
      → later ≡ editions → written ≡ items ++ item_of entry mark ∷ [] → place ≡ length items
      → answers shard later base written ≡ answers shard editions base items ++ record { shard = shard; place = place; ticket = entry.ticket; command = entry.command; reply = reply } ∷ []
  answers_next shard place later written replayed asked marked answered same more at =
      (λ i. answers shard (same i) base (more i)) ∙ answers_more shard editions base items (item_of entry mark)
      ∙ (λ i. answers shard editions base items ++ record { shard = shard; place = sym at i; ticket = entry.ticket; command = entry.command; reply = (item_answered replayed asked marked answered i).reply } ∷ [])
