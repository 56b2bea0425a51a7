-- What a worker has sent to each lane, and what is held.
use Rattle.std.proofs.Common.{◌≡◌, ℕ, zero, suc, ◌+◌, ◌<◌, eqb, Bool, true, false, if◌then◌else◌, List, [], ◌∷◌, ◌++◌, length, Option, Some, None, IfSome, IfNone, slice_get, refl, sym, ap, ◌∙◌, subst, append-nil, arith}
use Rattle.std.proofs.Math.Dec.{eqb-zero-suc, eqb-suc-zero, eqb-suc-suc}
use Rattle.pay_mailbox.specs.Words.{SenderParts, having_sent}
use Rattle.pay_shard.specs.Words.{JournalMemory, ShardParts, answers_from, answers_given, item_step, with_memory}
use Rattle.pay_tables.specs.Words.{FareEditions}
use Rattle.pay_rules.specs.State.{State}
use Rattle.pay_shard.specs.declared.item.Item.{Item}
use Rattle.pay_shard.specs.declared.reply.Answer.{Answer}
use Rattle.pay_lanes.specs.Parts.{sent_at}
use Rattle.pay_lanes.specs.Working.{mailboxes, at_lane, answers_for, held_for, IsTold, AreTold, IsOfferable}
use Rattle.pay_lanes.specs.declared.outgoing.Outgoing.{Outgoing}

-- ---- one sender of several has sent one more

module _ {T : Type 0} where
  pub sent_length : (p : ℕ) (x : T) (xs : List (SenderParts T)) → length (sent_at p x xs) ≡ length xs
  sent_length p x [] = refl
  sent_length zero x (s ∷ xs) = refl
  sent_length (suc p) x (s ∷ xs) = ap suc (sent_length p x xs)

  pub sent_mailboxes : (p : ℕ) (x : T) (xs : List (SenderParts T)) → mailboxes (sent_at p x xs) ≡ mailboxes xs
  sent_mailboxes p x [] = refl
  sent_mailboxes zero x (s ∷ xs) = refl
  sent_mailboxes (suc p) x (s ∷ xs) = ap (λ l. s.mailbox ∷ l) (sent_mailboxes p x xs)

  -- what it sent, if it is the sender at the place k
  abbrev pub more : ℕ → T → ℕ → List T
  more p x k = if eqb p k then x ∷ [] else []

  none_after : (k : ℕ) (x : T) → more zero x (suc k) ≡ []
  none_after k x = ap (λ b. if b then x ∷ [] else []) (eqb-zero-suc k)

  none_first : (p : ℕ) (x : T) → more (suc p) x zero ≡ []
  none_first p x = ap (λ b. if b then x ∷ [] else []) (eqb-suc-zero p)

  one_less : (p : ℕ) (x : T) (k : ℕ) → more (suc p) x (suc k) ≡ more p x k
  one_less p x k = ap (λ b. if b then x ∷ [] else []) (eqb-suc-suc p k)

  with_none : (sent rest : List T) → rest ≡ [] → sent ≡ sent ++ rest
  with_none sent rest none = sym (ap (λ l. sent ++ l) none ∙ append-nil sent)

  -- the sender at a place, before
  abbrev pub Before : List (SenderParts T) → ℕ → T → ℕ → SenderParts T → Type 0
  Before xs p x k w = (v : SenderParts T) × (slice_get xs k ≡ Some v) × (w.number ≡ v.number) × (w.sent ≡ v.sent ++ more p x k)

  pub sent_before : (p : ℕ) (x : T) (xs : List (SenderParts T)) (k : ℕ) (w : SenderParts T) → slice_get (sent_at p x xs) k ≡ Some w → Before xs p x k w
  sent_before p x [] k w at = cc
  sent_before zero x (s ∷ xs) zero w at = let same : w ≡ having_sent s x = cc in (s, refl, ap (λ u. u.number) same, ap (λ u. u.sent) same)
  sent_before zero x (s ∷ xs) (suc k) w at = (w, at, refl, with_none w.sent (more zero x (suc k)) (none_after k x))
  sent_before (suc p) x (s ∷ xs) zero w at =
      let same : w ≡ s = cc in
      (s, refl, ap (λ u. u.number) same, ap (λ u. u.sent) same ∙ with_none s.sent (more (suc p) x zero) (none_first p x))
  sent_before (suc p) x (s ∷ xs) (suc k) w at =
      let h : Before xs p x k w = sent_before p x xs k w at in
      (h.0, h.1, h.2, h.3 ∙ ap (λ l. h.0.sent ++ l) (sym (one_less p x k)))

-- ---- the answers to the items of a lane

pub answers_length : (shard place : ℕ) (editions : FareEditions) (state : State) (items : List Item) → length (answers_from shard place editions state items) ≡ length items
answers_length shard place editions state [] = refl
answers_length shard place editions state (item ∷ items) = ap suc (answers_length shard (place + 1) editions (item_step editions state item).after items)

-- one more item, and the answer to it
pub at_lane_more : (lane : ℕ) (items : List Item) (answers : List Answer) (item : Item) (answer : Answer) → length answers ≡ length items
    → at_lane lane (items ++ item ∷ []) (answers ++ answer ∷ []) ≡ at_lane lane items answers ++ (if eqb item.entry.lane lane then answer ∷ [] else [])
at_lane_more lane [] [] item answer same = refl
at_lane_more lane [] (a ∷ answers) item answer same = cc
at_lane_more lane (i ∷ items) [] item answer same = cc
at_lane_more lane (i ∷ items) (a ∷ answers) item answer same = by (at_lane_more lane items answers item answer (omega arith)) (eqb i.entry.lane lane)
  where
    more_of : List Answer → Type 0
    more_of l = at_lane lane (items ++ item ∷ []) (answers ++ answer ∷ []) ≡ at_lane lane items answers ++ l

    by : more_of (if eqb item.entry.lane lane then answer ∷ [] else []) → (b : Bool)
        → (if b then a ∷ at_lane lane (items ++ item ∷ []) (answers ++ answer ∷ []) else at_lane lane (items ++ item ∷ []) (answers ++ answer ∷ []))
        ≡ (if b then a ∷ at_lane lane items answers else at_lane lane items answers) ++ (if eqb item.entry.lane lane then answer ∷ [] else [])
    by rest true = ap (λ l. a ∷ l) rest
    by rest false = rest

-- the shard t is the shard s, once it has answered one more item
pub record HasAnswered (s : ShardParts) (item : Item) (answer : Answer) (t : ShardParts) : Type 0 where
  pub number : t.number ≡ s.number
  pub journal : t.journal ≡ s.journal ++ item ∷ []
  pub answers : answers_given t ≡ answers_given s ++ answer ∷ []

pub answered : (s t : ShardParts) (item : Item) (answer : Answer) (lane : ℕ) → HasAnswered s item answer t
    → answers_for lane t ≡ answers_for lane s ++ held_for lane (Some (record { lane = item.entry.lane; answer = answer }))
answered s t item answer lane h =
    ap (λ j. at_lane lane j (answers_given t)) h.journal
    ∙ (ap (λ a. at_lane lane (s.journal ++ item ∷ []) a) h.answers
    ∙ at_lane_more lane s.journal (answers_given s) item answer (answers_length s.number 0 s.editions s.base s.journal))

-- ---- each lane is told

-- it is held from now on
pub now_held : (s t : ShardParts) (ways : List (SenderParts Answer)) (item : Item) (answer : Answer) → HasAnswered s item answer t → AreTold s None ways
    → AreTold t (Some (record { lane = item.entry.lane; answer = answer })) ways
now_held s t ways item answer h told lane way at =
    let was : IsTold s None lane way = told lane way at in (
      was.0 ∙ sym h.number,
      ap (λ l. l ++ held_for lane (Some (record { lane = item.entry.lane; answer = answer }))) (sym (append-nil way.sent) ∙ was.1) ∙ sym (answered s t item answer lane h),
    )

-- it is sent
pub now_sent : (s : ShardParts) (ways : List (SenderParts Answer)) (o : Outgoing) → AreTold s (Some o) ways → AreTold s None (sent_at o.lane o.answer ways)
now_sent s ways o told lane way at =
    let h : Before ways o.lane o.answer lane way = sent_before o.lane o.answer ways lane way at in
    let was : IsTold s (Some o) lane h.0 = told lane h.0 h.1 in
    (h.2 ∙ was.0, append-nil way.sent ∙ (h.3 ∙ was.1))

-- after it is offered it is sent, or held as before
pub offered : (s : ShardParts) (ways after : List (SenderParts Answer)) (o : Outgoing) (r : Option Outgoing) → AreTold s (Some o) ways
    → IfNone r (after ≡ sent_at o.lane o.answer ways) → IfSome r (λ back. (back ≡ o) × (after ≡ ways)) → AreTold s r after
offered s ways after o None told sent back = subst (AreTold s None) (sym sent) (now_sent s ways o told)
offered s ways after o (Some b) told sent back = subst (λ u. AreTold s (Some u) after) (sym back.0) (subst (AreTold s (Some o)) (sym back.1) told)

-- a shard with something else in memory is told alike
pub with_other_memory : (s t : ShardParts) (memory : JournalMemory) (held : Option Outgoing) (ways : List (SenderParts Answer)) → t ≡ with_memory s memory → AreTold s held ways → AreTold t held ways
with_other_memory s t memory held ways is told = subst (λ u. AreTold u held ways) (sym is) told

pub offered_mailboxes : (ways after : List (SenderParts Answer)) (o : Outgoing) (r : Option Outgoing) → IfNone r (after ≡ sent_at o.lane o.answer ways) → IfSome r (λ back. (back ≡ o) × (after ≡ ways)) → mailboxes after ≡ mailboxes ways
offered_mailboxes ways after o None sent back = ap mailboxes sent ∙ sent_mailboxes o.lane o.answer ways
offered_mailboxes ways after o (Some b) sent back = ap mailboxes back.1

-- an answer of the shard to a lane that is there
pub answer_offerable : (s : ShardParts) (ways : List (SenderParts Answer)) (lane : ℕ) (answer : Answer) → lane < length ways → AreTold s None ways → answer.shard ≡ s.number
    → IsOfferable ways (record { lane = lane; answer = answer })
answer_offerable s ways lane answer within told is = (within, (λ way at. let h : IsTold s None lane way = told lane way at in is ∙ sym h.0))

-- what comes back was not sent, so it can be offered again
pub still_offerable : (ways after : List (SenderParts Answer)) (o : Outgoing) (r : Option Outgoing) → IsOfferable ways o → IfSome r (λ back. (back ≡ o) × (after ≡ ways)) → IfSome r (IsOfferable after)
still_offerable ways after o None may back = tt
still_offerable ways after o (Some b) may back = subst (λ u. IsOfferable after u) (sym back.0) (subst (λ l. IsOfferable l o) (sym back.1) may)
