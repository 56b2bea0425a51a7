-- What lanes send to a shard is asked of it, and so is what stands in its journal.
use Rattle.std.proofs.Common.{◌≡◌, ℕ, zero, suc, ◌+◌, ◌<◌, ◌≤◌, ⊎_elim, eqb, Bool, true, if◌then◌else◌, List, [], ◌∷◌, ◌++◌, All, map, length, get_or, false, refl, sym, ap, ◌∙◌, subst, arith, eq-eqb}
use Rattle.std.specs.Prelude.{⊤}
use Rattle.std.proofs.lemmas.Bool.{cases_lt}
use Rattle.std.specs.List.{range_with_len}
use Rattle.std.proofs.lemmas.List.Elements.{All-nil, All-cons, All-head, All-tail, All-push, All-weaker}
use Rattle.pay_mailbox.specs.Words.{SenderParts, of}
use Rattle.pay_shard.specs.Words.{IsAskedOf, IsForShards}
use Rattle.pay_shard.specs.declared.asked.Asked.{Asked}
use Rattle.pay_shard.specs.declared.asked.Asked.TheVariants as asked
use Rattle.pay_shard.specs.declared.item.Entry.{Entry}
use Rattle.pay_shard.specs.declared.item.Item.{Item}
use Rattle.pay_shard.specs.declared.reply.Answer.{Answer}
use Rattle.pay_lanes.specs.Parts.{LaneParts, WorkerParts, sent_at, shard_of, next_entry}
use Rattle.pay_lanes.specs.Working.{entries_of, AreGiven, AreAskedFrom, IsOfShards, IsSameLane, mailboxes}
use Rattle.pay_lanes.specs.Turns.{by_lane}
use Rattle.pay_lanes.specs.Openings.{IsNewLane}
use Rattle.pay_lanes.specs.Ends.{lanes_of, numbers, arrived, sent_by, AreKnown, AreJournalsFrom}
use Rattle.pay_lanes.proofs.Told.{sent_length, sent_mailboxes}

-- ---- a lane

abbrev Asks : ℕ → ℕ → Entry → Type 0
Asks of shard entry = IsAskedOf of shard entry.command

none_asked : (of shard : ℕ) (xs : List (SenderParts Entry)) → All (λ (s : SenderParts Entry). s.sent ≡ []) xs → AreAskedFrom of shard xs
none_asked of shard [] none = tt
none_asked of shard (s ∷ xs) none = (
  subst (All (Asks of shard)) (sym (All-head (λ (x : SenderParts Entry). x.sent ≡ []) s xs none)) (All-nil (Asks of shard)),
  none_asked of (shard + 1) xs (All-tail (λ (x : SenderParts Entry). x.sent ≡ []) s xs none),
)

-- a new lane has sent and taken nothing
pub new_of_shards : (count : ℕ) (l : LaneParts) → IsNewLane count l → IsOfShards l
new_of_shards count l new = record {
  asked = none_asked (length l.shards) 0 l.shards new.sent;
  made = new.made ∙ sym new.shards;
  taken = subst (All (λ (a : Answer). a.shard < length l.shards)) (sym new.taken) (All-nil (λ (a : Answer). a.shard < length l.shards));
}

pub asked_itself : (count : ℕ) (a : Asked) → IsForShards count a → IsAskedOf count (shard_of count a) a
asked_itself count (asked.Tap tap) for = refl
asked_itself count (asked.Fix fix) for = refl
asked_itself count (asked.Due account day) for = refl
asked_itself count (asked.Show account day) for = refl
asked_itself count (asked.Quotes day shard of) for = (refl, for)

asked_more : (of shard place : ℕ) (entry : Entry) (xs : List (SenderParts Entry)) → Asks of (shard + place) entry → AreAskedFrom of shard xs → AreAskedFrom of shard (sent_at place entry xs)
asked_more of shard place entry [] asks all = tt
asked_more of shard zero entry (s ∷ xs) asks all = (All-push (Asks of shard) s.sent entry all.0 (subst (λ n. Asks of n entry) (here shard) asks), all.1)
  where
    here : (n : ℕ) → n + 0 ≡ n
    here n = omega arith
asked_more of shard (suc place) entry (s ∷ xs) asks all = (all.0, asked_more of (shard + 1) place entry xs (subst (λ n. Asks of n entry) (next shard place) asks) all.1)
  where
    next : (n k : ℕ) → n + suc k ≡ n + 1 + k
    next n k = omega arith

-- a lane that has asked for one more
pub same_asked : (l : LaneParts) (a : Asked) (place : ℕ) (now : List (SenderParts Entry)) → IsForShards (length l.shards) a → place ≡ shard_of (length l.shards) a → now ≡ sent_at place (next_entry l a) l.shards
    → IsSameLane l (record { number = l.number; shards = now; answers = l.answers; tickets = l.tickets + 1; next = l.next + 1 })
same_asked l a place now for is sent = record {
  number = refl;
  shards = ap mailboxes sent ∙ sent_mailboxes place (next_entry l a) l.shards;
  answers = refl;
  of_shards = λ h. record {
    asked =
        subst (λ n. AreAskedFrom n 0 now) (sym many)
        (subst (AreAskedFrom (length l.shards) 0) (sym sent)
        (asked_more (length l.shards) 0 place (next_entry l a) l.shards (subst (λ n. IsAskedOf (length l.shards) n a) (sym is ∙ sym (from_zero place)) (asked_itself (length l.shards) a for)) h.asked));
    made = h.made ∙ sym many;
    taken = subst (λ n. All (λ (x : Answer). x.shard < n) l.answers.got) (sym many) h.taken;
  };
}
  where
    many : length now ≡ length l.shards
    many = ap length sent ∙ sent_length place (next_entry l a) l.shards

    from_zero : (n : ℕ) → 0 + n ≡ n
    from_zero n = omega arith

-- ---- tickets

pub given_more : (next : ℕ) (answers : List Answer) → AreGiven next answers → AreGiven (next + 1) answers
given_more next answers given = λ less. All-weaker (λ (a : Answer). a.ticket < next) (λ (a : Answer). a.ticket < next + 1) (λ (a : Answer) before. omega (arith, before)) answers (given (omega (arith, less)))

-- ---- the journals

-- lists of entries, of the shards from one on
abbrev AreListsFrom : ℕ → ℕ → List (List Entry) → Type 0
AreListsFrom of shard [] = ⊤
AreListsFrom of shard (entries ∷ lists) = All (Asks of shard) entries × AreListsFrom of (shard + 1) lists

lists_sent : (of shard : ℕ) (xs : List (SenderParts Entry)) → AreAskedFrom of shard xs → AreListsFrom of shard (map (λ (s : SenderParts Entry). s.sent) xs)
lists_sent of shard [] all = tt
lists_sent of shard (s ∷ xs) all = (all.0, lists_sent of (shard + 1) xs all.1)

lists_none : (of shard : ℕ) (lists : List (List Entry)) → All (λ (entries : List Entry). entries ≡ []) lists → AreListsFrom of shard lists
lists_none of shard [] none = tt
lists_none of shard (entries ∷ lists) none = (
  subst (All (Asks of shard)) (sym (All-head (λ (x : List Entry). x ≡ []) entries lists none)) (All-nil (Asks of shard)),
  lists_none of (shard + 1) lists (All-tail (λ (x : List Entry). x ≡ []) entries lists none),
)

-- what holds of the entries of each lane holds of all
all_by_lanes : (P : Entry → Type 0) (entries : List Entry) → ((lane : ℕ) → All P (of by_lane lane entries)) → All P entries
all_by_lanes P [] each = All-nil P
all_by_lanes P (entry ∷ entries) each =
    All-cons P entry entries
    (All-head P entry (of by_lane entry.lane entries) (subst (λ b. All P (if b then entry ∷ of by_lane entry.lane entries else of by_lane entry.lane entries)) (eq-eqb entry.lane entry.lane refl) (each entry.lane)))
    (all_by_lanes P entries (λ lane. fewer (eqb entry.lane lane) (of by_lane lane entries) (each lane)))
  where
    fewer : (b : Bool) (rest : List Entry) → All P (if b then entry ∷ rest else rest) → All P rest
    fewer true rest all = All-tail P entry rest all
    fewer false rest all = all

items_asked : (of shard : ℕ) (items : List Item) (left : List Entry) → All (Asks of shard) (entries_of items ++ left) → All (λ (i : Item). IsAskedOf of shard i.entry.command) items
items_asked of shard [] left all = All-nil (λ (i : Item). IsAskedOf of shard i.entry.command)
items_asked of shard (item ∷ items) left all =
    All-cons (λ (i : Item). IsAskedOf of shard i.entry.command) item items (All-head (Asks of shard) item.entry (entries_of items ++ left) all)
    (items_asked of shard items left (All-tail (Asks of shard) item.entry (entries_of items ++ left) all))

journals_from : (of shard : ℕ) (ws : List WorkerParts) (lefts : List (List Entry)) → length lefts ≡ length ws → ((lane : ℕ) → AreListsFrom of shard (arrived lane ws lefts))
    → AreJournalsFrom of shard (map (λ (w : WorkerParts). w.shard.journal) ws)
journals_from of shard [] lefts same each = tt
journals_from of shard (w ∷ ws) [] same each = cc
journals_from of shard (w ∷ ws) (left ∷ lefts) same each = (
  items_asked of shard w.shard.journal left (all_by_lanes (Asks of shard) (entries_of w.shard.journal ++ left) (λ lane. (each lane).0)),
  journals_from of (shard + 1) ws lefts (omega (arith, same)) (λ lane. (each lane).1),
)

-- lanes of each number below a count
at_number : (P : ℕ → Type 0) (ls : List LaneParts) (first count lane : ℕ) → numbers ls ≡ range_with_len first count → All (λ (l : LaneParts). P l.number) ls → first ≤ lane → lane < first + count → P lane
at_number P [] first zero lane order all low high = absurd (omega arith)
at_number P [] first (suc count) lane order all low high = cc
at_number P (l ∷ ls) first zero lane order all low high = cc
at_number P (l ∷ ls) first (suc count) lane order all low high =
    let here : l.number ≡ first = cc in
    let rest : numbers ls ≡ range_with_len (first + 1) count = cc in
    ⊎_elim (λ (later : first < lane). at_number P ls (first + 1) count lane rest (All-tail (λ (x : LaneParts). P x.number) l ls all) (omega arith) (omega arith))
    (λ (now : lane ≤ first). subst P (here ∙ omega arith) (All-head (λ (x : LaneParts). P x.number) l ls all)) (cases_lt first lane)

-- what stands in the journals of workers was asked of their shards
pub journals_asked : (ws : List WorkerParts) (ls : List LaneParts) (lefts : List (List Entry)) → numbers ls ≡ range_with_len 0 (lanes_of ws) → length lefts ≡ length ws
    → All (λ (l : LaneParts). (length l.shards ≡ length ws) × IsOfShards l) ls → All (λ (l : LaneParts). arrived l.number ws lefts ≡ sent_by l) ls → AreKnown ws lefts
    → AreJournalsFrom (length ws) 0 (map (λ (w : WorkerParts). w.shard.journal) ws)
journals_asked ws ls lefts order many of_shards sent known =
    journals_from (length ws) 0 ws lefts many
    (λ lane. ⊎_elim (λ (opened : lane < lanes_of ws). at_number (λ n. AreListsFrom (length ws) 0 (arrived n ws lefts)) ls 0 (lanes_of ws) lane order by_lanes (omega arith) (omega arith))
    (λ (unopened : lanes_of ws ≤ lane). lists_none (length ws) 0 (arrived lane ws lefts) (known lane unopened)) (cases_lt lane (lanes_of ws)))
  where
    by_lanes : All (λ (l : LaneParts). AreListsFrom (length ws) 0 (arrived l.number ws lefts)) ls
    by_lanes k d lt =
        let h = of_shards k d lt in
        let l = get_or ls k d in
        subst (AreListsFrom (length ws) 0) (sym (sent k d lt)) (lists_sent (length ws) 0 l.shards (subst (λ n. AreAskedFrom n 0 l.shards) h.0 h.1.asked))
