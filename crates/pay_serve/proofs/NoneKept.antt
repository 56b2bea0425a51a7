-- Where nothing was asked but over one lane, which no gate keeps, nothing is kept.
use Rattle.std.proofs.Common.{◌≡◌, ◌⊎◌, inl, inr, ℕ, zero, suc, ◌<◌, ◌≤◌, eqb, Bool, true, false, cond, if◌then◌else◌, List, [], ◌∷◌, ◌++◌, All, map, length, get_or, refl, sym, ap, ◌∙◌, subst, eq-eqb, arith}
use Rattle.std.specs.List.{range_with_len, AllZip}
use Rattle.std.specs.Prelude.{IsPermutation}
use Rattle.std.specs.Io.KnownBytes.{Appends}
use Rattle.std.proofs.lemmas.List.{length-map}
use Rattle.std.proofs.lemmas.List.Elements.{All-nil, All-cons, All-head, All-tail, All-push, All-map}
use Rattle.std.proofs.lemmas.List.FromFn.{length-range_with_len, get_or-range_with_len}
use Rattle.std.proofs.lemmas.List.Sorted.{All-permutation, IsPermutation-sym}
use Rattle.pay_tables.specs.Words.{FareEditions}
use Rattle.pay_mailbox.specs.Words.{SenderParts, of}
use Rattle.pay_rules.specs.State.{State}
use Rattle.pay_shard.specs.Words.{item_step, is_new, new_items}
use Rattle.pay_shard.specs.declared.item.Entry.{Entry}
use Rattle.pay_shard.specs.declared.item.Item.{Item}
use Rattle.pay_shard.specs.declared.reply.Answer.{Answer}
use Rattle.pay_journal.specs.Words.{lines_of_items}
use Rattle.pay_lanes.specs.Words.{LaneParts, WorkerParts, Passed, by_lane, entries_of, lanes_of, numbers, AreAll, AreKnown, arrived, sent_by, IsNewLane, IsSameWorker}
use Rattle.pay_serve.specs.KeepingGates.{GateParts}
use Rattle.pay_serve.specs.Kept.{HasKept, HasKeptNone, IsAllOrButLast}
use Rattle.pay_serve.specs.Keeping.{is_other, of_others}
use Rattle.pay_serve.specs.declared.limits.TheConstants.{SPARED_LANE}
use Rattle.pay_office.specs.Words.{HasEnded, HaveLetPass}
use Rattle.pay_serve.proofs.Begun.{of_last}

-- ---- workers and gates

pub same_count : (ws vs : List WorkerParts) → AllZip IsSameWorker ws vs → lanes_of vs ≡ lanes_of ws
same_count [] [] same = refl
same_count [] (v ∷ vs) same = absurd same
same_count (w ∷ ws) [] same = absurd same
same_count (w ∷ ws) (v ∷ vs) same =
    sym (length-map v.lanes (λ (s : SenderParts Answer). s.mailbox)) ∙ (ap length same.0.lanes ∙ length-map w.lanes (λ (s : SenderParts Answer). s.mailbox))

all_of_map : {X Y : Type 0} (f : X → Y) (P : Y → Type 0) (xs : List X) → All P (map f xs) → All (λ x. P (f x)) xs
all_of_map f P [] all = All-nil (λ x. P (f x))
all_of_map f P (x ∷ xs) all = All-cons (λ x. P (f x)) x xs (All-head P (f x) (map f xs) all) (all_of_map f P xs (All-tail P (f x) (map f xs) all))

abbrev IsEmpty : List Entry → Type 0
IsEmpty entries = entries ≡ []

abbrev IsSpared : Item → Type 0
IsSpared i = is_other i.entry.lane ≡ false

-- ---- items of one lane alone

first_stays : (b : Bool) (x : Entry) (xs : List Entry) → b ≡ true → cond b (x ∷ xs) xs ≡ [] → ⊥
first_stays true x xs is none = cc
first_stays false x xs is none = cc

others_too : (b : Bool) (x : Entry) (xs : List Entry) → cond b (x ∷ xs) xs ≡ [] → xs ≡ []
others_too true x xs none = absurd (cc)
others_too false x xs none = none

all_spared : (items : List Item) (left : List Entry) → ((n : ℕ) → is_other n ≡ true → of by_lane n (entries_of items ++ left) ≡ []) → All IsSpared items
all_spared [] left none = All-nil IsSpared
all_spared (i ∷ items) left none =
    All-cons IsSpared i items (here (is_other i.entry.lane) refl)
    (all_spared items left (λ n other. others_too (eqb i.entry.lane n) i.entry (of by_lane n (entries_of items ++ left)) (none n other)))
  where
    here : (b : Bool) → is_other i.entry.lane ≡ b → b ≡ false
    here false is = refl
    here true is = absurd (first_stays (eqb i.entry.lane i.entry.lane) i.entry (of by_lane i.entry.lane (entries_of items ++ left)) (eq-eqb i.entry.lane i.entry.lane refl) (none i.entry.lane is))

journals_spared : (ws : List WorkerParts) (left : List (List Entry)) → length left ≡ length ws → ((n : ℕ) → is_other n ≡ true → All IsEmpty (arrived n ws left))
    → All (All IsSpared) (map (λ (w : WorkerParts). w.shard.journal) ws)
journals_spared [] left same none = All-nil (All IsSpared)
journals_spared (w ∷ ws) [] same none = absurd (cc)
journals_spared (w ∷ ws) (entries ∷ left) same none =
    All-cons (All IsSpared) w.shard.journal (map (λ (v : WorkerParts). v.shard.journal) ws)
    (all_spared w.shard.journal entries (λ n other. All-head IsEmpty (of by_lane n (entries_of w.shard.journal ++ entries)) (arrived n ws left) (none n other)))
    (journals_spared ws left (omega (arith, same)) (λ n other. All-tail IsEmpty (of by_lane n (entries_of w.shard.journal ++ entries)) (arrived n ws left) (none n other)))

none_new : (editions : FareEditions) (base : State) (items : List Item) → All IsSpared items → of_others (new_items editions base items) ≡ []
none_new editions base [] all = refl
none_new editions base (i ∷ items) all =
    by (new_items editions (item_step editions base i).after items) (All-head IsSpared i items all) (none_new editions (item_step editions base i).after items (All-tail IsSpared i items all)) (is_new (item_step editions base i).reply)
  where
    by : (news : List Item) → is_other i.entry.lane ≡ false → of_others news ≡ [] → (b : Bool) → of_others (if b then i ∷ news else news) ≡ []
    by news spared none true = ap (λ b. cond b (i ∷ of_others news) (of_others news)) spared ∙ none
    by news spared none false = none

-- ---- what other lanes asked

below_or : (n m : ℕ) → (n < m) ⊎ (m ≤ n)
below_or n zero = inr (omega arith)
below_or zero (suc m) = inl (omega arith)
below_or (suc n) (suc m) = by (below_or n m)
  where
    by : (n < m) ⊎ (m ≤ n) → (suc n < suc m) ⊎ (suc m ≤ suc n)
    by (inl less) = inl (omega (arith, less))
    by (inr more) = inr (omega (arith, more))

module _ (ws : List WorkerParts) (left : List (List Entry)) where
  abbrev HasNone : ℕ → Type 0
  HasNone n = is_other n ≡ true → All IsEmpty (arrived n ws left)

  abbrev HasArrived : LaneParts → Type 0
  HasArrived l = arrived l.number ws left ≡ sent_by l

  of_new : (shards : ℕ) (l : LaneParts) → IsNewLane shards l → HasArrived l → HasNone l.number
  of_new shards l new there = λ other. subst (All IsEmpty) (sym there) (All-map IsEmpty (λ (s : SenderParts Entry). s.sent) l.shards new.sent)

  of_spared : (n : ℕ) → n ≡ SPARED_LANE → HasNone n
  of_spared n spared = λ other. let no : is_other 0 ≡ true = subst (λ m. is_other m ≡ true) spared other in absurd (cc)

  of_all : (shards : ℕ) (others : List LaneParts) (last : LaneParts) → All (IsNewLane shards) others → last.number ≡ SPARED_LANE → All HasArrived (others ++ last ∷ []) → All HasNone (numbers (others ++ last ∷ []))
  of_all shards others last new spared sent =
      let parts : All HasArrived others × HasArrived last = of_last HasArrived others last sent in
      All-map HasNone (λ (l : LaneParts). l.number) (others ++ last ∷ [])
      (All-push (λ (l : LaneParts). HasNone l.number) others last (λ k d lt. of_new shards (get_or others k d) (new k d lt) (parts.0 k d lt)) (of_spared last.number spared))

  of_any : (count : ℕ) (others : List LaneParts) (last : LaneParts) → IsPermutation (range_with_len 0 count) (numbers (others ++ last ∷ [])) → lanes_of ws ≡ count → AreKnown ws left
      → All HasNone (numbers (others ++ last ∷ [])) → (n : ℕ) → HasNone n
  of_any count others last all so_many known has n = by (below_or n count)
    where
      every : All HasNone (range_with_len 0 count)
      every = All-permutation HasNone (numbers (others ++ last ∷ [])) (range_with_len 0 count) (IsPermutation-sym (range_with_len 0 count) (numbers (others ++ last ∷ [])) all) has

      by : (n < count) ⊎ (count ≤ n) → HasNone n
      by (inl less) = subst HasNone (get_or-range_with_len 0 count n 0 less ∙ (omega arith)) (every n 0 (subst (λ k. n < k) (sym (length-range_with_len 0 count)) less))
      by (inr more) = λ other. known n (subst (λ k. k ≤ n) (sym so_many) more)

-- ---- what gates have kept

gate_kept_none : (lanes : List LaneParts) (w : WorkerParts) (g : GateParts) → HasKept lanes w g → All IsSpared w.shard.journal → HasKeptNone g
gate_kept_none lanes w g h spared = (
  h.rest,
  subst (λ (items : List Item). Appends g.held_first g.holds (lines_of_items items ++ h.rest)) (none_new w.shard.editions w.shard.base h.items (front w.shut h.are)) h.bytes,
  h.is_rest,
)
  where
    front : (shut : Bool) → IsAllOrButLast shut h.items w.shard.journal → All IsSpared h.items
    front false are = subst (All IsSpared) (sym are) spared
    front true are = (of_last IsSpared h.items are.0 (subst (All IsSpared) are.1 spared)).0

gates_kept_none : (lanes : List LaneParts) (ws : List WorkerParts) (gates : List GateParts) → AllZip (HasKept lanes) ws gates → All (λ (w : WorkerParts). All IsSpared w.shard.journal) ws → All HasKeptNone gates
gates_kept_none lanes [] [] kept spared = All-nil HasKeptNone
gates_kept_none lanes [] (g ∷ gates) kept spared = absurd kept
gates_kept_none lanes (w ∷ ws) [] kept spared = absurd kept
gates_kept_none lanes (w ∷ ws) (g ∷ gates) kept spared =
    All-cons HasKeptNone g gates (gate_kept_none lanes w g kept.0 (All-head (λ (v : WorkerParts). All IsSpared v.shard.journal) w ws spared))
    (gates_kept_none lanes ws gates kept.1 (All-tail (λ (v : WorkerParts). All IsSpared v.shard.journal) w ws spared))

-- an office has ended that was asked over its last lane alone, whose commands are spared
pub none_kept : (Holds : GateParts → List Passed → Bool → Type 0) (office : List WorkerParts) (others : List LaneParts) (last : LaneParts) (shards : ℕ) (gates : List GateParts) (journals : List (List Item)) (left : List (List Entry))
    → AreAll office (others ++ last ∷ []) → All (IsNewLane shards) others → last.number ≡ SPARED_LANE → HasEnded office (others ++ last ∷ []) journals left
    → (passed : HaveLetPass Holds office (others ++ last ∷ []) journals gates) → AllZip (HasKept (others ++ last ∷ [])) passed.workers gates → All HasKeptNone gates
none_kept Holds office others last shards gates journals left all new spared ended passed kept =
    let ws = ended.workers in
    let none = of_any ws left (lanes_of office) others last all (same_count office ws ended.same) ended.ends.known (of_all ws left shards others last new spared ended.ends.sent) in
    let journals_are : All (All IsSpared) journals = subst (All (All IsSpared)) (sym ended.ends.journals_are) (journals_spared ws left ended.ends.many none) in
    gates_kept_none (others ++ last ∷ []) passed.workers gates kept
    (all_of_map (λ (w : WorkerParts). w.shard.journal) (All IsSpared) passed.workers (subst (All (All IsSpared)) passed.journals_are journals_are))
