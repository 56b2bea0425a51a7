-- What a service leaves in its journals gives its accounts back.
use Rattle.std.proofs.Common.{◌≡◌, ◌⊎◌, inl, inr, ℕ, zero, suc, ◌+◌, ◌<◌, ◌≤◌, ◌==◌, eqb, eq-eqb, eqb-true, Bool, true, false, not, ◌||◌, cond, if◌then◌else◌, List, [], ◌∷◌, ◌++◌, All, map, zip, length, Some, refl, sym, ap, ◌∙◌, subst, arith, append-nil}
use Rattle.std.specs.Prelude.{IsPermutation}
use Rattle.std.specs.FinMap.{empty}
use Rattle.std.specs.Io.KnownBytes.{Appends}
use Rattle.std.specs.List.{AllByRecursion, AllZip, find, range_with_len}
use Rattle.std.proofs.lemmas.List.{length-map}
use Rattle.std.proofs.lemmas.List.Elements.{All-nil, All-cons, All-head, All-tail, length_all_zip}
use Rattle.std.proofs.lemmas.List.FromFn.{length-range_with_len, get_or-range_with_len}
use Rattle.std.proofs.lemmas.List.Sorted.{All-permutation, IsPermutation-sym}
use mathlib.Core.List.{IsPrefix}
use Rattle.jiff.specs.declared.tz.timezone.TimeZone.{TimeZone}
use Rattle.pay_tables.specs.Words.{FareEditions}
use Rattle.pay_mailbox.specs.Words.{SenderParts, of}
use Rattle.pay_wire.specs.Words.{IsSpelled}
use Rattle.pay_wire.specs.declared.command.SpelledCommand.{SpelledCommand}
use Rattle.pay_rules.specs.State.{State}
use Rattle.pay_shard.specs.Words.{item_step, run, new_items, items_of, accepted_asked, is_priced, AreAskedOf, command_under}
use Rattle.pay_shard.specs.Changes.{with_prices}
use Rattle.pay_shard.specs.Runs.{answer_at, answers_from}
use Rattle.pay_shard.specs.declared.asked.Asked.{Asked}
use Rattle.pay_shard.specs.declared.asked.Asked.TheVariants as asked
use Rattle.pay_shard.specs.declared.item.Entry.{Entry}
use Rattle.pay_shard.specs.declared.item.Item.{Item}
use Rattle.pay_shard.specs.declared.reply.Answer.{Answer}
use Rattle.pay_rules.specs.InTurn.{IsIn}
use Rattle.pay_journal.specs.Words.{IsRest, lines_of_items}
use Rattle.pay_journal_laws.specs.Texts.{requests_in, Puts, AreWholeOf, PartAsksAlike}
use Rattle.pay_journal_laws.specs.GivenBack.{new_of, IsPricedIn, PartsAreTaken}
use Rattle.pay_lanes.specs.Ends.{IsLaneOf}
use Rattle.pay_lanes.specs.Words.{LaneParts, WorkerParts, Passed, by_lane, by_shard, entries_of, passed_to, IsFirstOf, IsSameWorker, IsOfShards, IsNewLane, lanes_of, numbers, shard_numbers, arrived, sent_by}
use Rattle.pay_till.specs.Words.{AreQuotes, Taken, commands_of}
use Rattle.pay_session.specs.Words.{IsAskedIn}
use Rattle.pay_session.specs.declared.request.Request.{Request}
use Rattle.pay_session.specs.declared.request.Request.TheVariants as requests
use Rattle.pay_serve.specs.Keeping.{is_other, of_others}
use Rattle.pay_serve.specs.KeepingGates.{GateParts}
use Rattle.pay_serve.specs.Kept.{IsAllOrButLast, answered_of, HasKept}
use Rattle.pay_journal_laws.specs.HaveKept.{texts_then, IsMergeOf, KeepNew, HaveKept, KeptGivesBack}
use Rattle.pay_serve.specs.declared.limits.TheConstants.{SPARED_LANE}
use Rattle.pay_journal_laws.proofs.KeptAgain.{in_front, in_back, in_either, in_map, into_map, one_in, of_new, of_merge, its_shard, HasLine}
use Rattle.pay_office.specs.Waits.{commands_below}
use Rattle.pay_office.specs.Words.{all_sent, desk_parts, commands_sent, answer_to, HasEnded}
use Rattle.pay_serve.specs.Closes.{Terms}
use Rattle.pay_journal_laws.specs.Services.{IsLeft, HasJournals, TakesUp, ServiceGivesBack, ServicePartsAreTaken}
use Rattle.pay_serve.specs.Journals.{is_one_stuck}
use Rattle.pay_serve.specs.Lanes.{HasAskedIn}
use Rattle.pay_journal_laws.proofs.TextsTaken.{put_priced, asked_by_line}

-- ---- workers

same_count : (ws vs : List WorkerParts) → AllZip IsSameWorker ws vs → lanes_of vs ≡ lanes_of ws
same_count [] [] same = refl
same_count [] (v ∷ vs) same = absurd same
same_count (w ∷ ws) [] same = absurd same
same_count (w ∷ ws) (v ∷ vs) same =
    sym (length-map v.lanes (λ (s : SenderParts Answer). s.mailbox)) ∙ (ap length same.0.lanes ∙ length-map w.lanes (λ (s : SenderParts Answer). s.mailbox))

-- ---- lists

module _ {X : Type 0} (P : X → Type 0) where
  -- what holds of a list holds of its last one
  of_last : (xs : List X) (x : X) → All P (xs ++ x ∷ []) → P x
  of_last [] x all = All-head P x [] all
  of_last (y ∷ xs) x all = of_last xs x (All-tail P y (xs ++ x ∷ []) all)

module _ {X : Type 0} where
  found_in : (test : X → Bool) (xs : List X) (x : X) → find test xs ≡ Some x → IsIn xs x
  found_in test [] x e = absurd (cc)
  found_in test (y ∷ xs) x e = by (test y) (found_in test xs x) e
    where
      by : (b : Bool) → (find test xs ≡ Some x → IsIn xs x) → cond b (Some y) (find test xs) ≡ Some x → (y ≡ x) ⊎ IsIn xs x
      by true rest e = let same : y ≡ x = cc in inl same
      by false rest e = inr (rest e)

  -- what a sender's is among its own
  chosen_in : (sender : X → ℕ) (p : ℕ) (xs : List X) (x : X) → sender x ≡ p → IsIn xs x → IsIn (of sender p xs) x
  chosen_in sender p [] x its has = has
  chosen_in sender p (y ∷ xs) x its (inl same) = by (eqb (sender y) p) (eq-eqb (sender y) p (ap sender same ∙ its))
    where
      by : (b : Bool) → b ≡ true → IsIn (cond b (y ∷ of sender p xs) (of sender p xs)) x
      by true e = inl same
      by false e = absurd (cc)
  chosen_in sender p (y ∷ xs) x its (inr later) = by (eqb (sender y) p) (chosen_in sender p xs x its later)
    where
      by : (b : Bool) → IsIn (of sender p xs) x → IsIn (cond b (y ∷ of sender p xs) (of sender p xs)) x
      by true has = inr has
      by false has = has

  in_whole : (xs ys : List X) (x : X) → IsPrefix xs ys → IsIn xs x → IsIn ys x
  in_whole xs ys x first has = subst (λ zs. IsIn zs x) first.1 (in_front xs first.0 x has)

  one_of : (P : X → Type 0) (xs : List X) (x : X) → All P xs → IsIn xs x → P x
  one_of P [] x all has = absurd has
  one_of P (y ∷ xs) x all (inl same) = subst P same (All-head P y xs all)
  one_of P (y ∷ xs) x all (inr later) = one_of P xs x (All-tail P y xs all) later

  all_of : (P : X → Type 0) (xs : List X) → ((x : X) → IsIn xs x → P x) → All P xs
  all_of P [] each = All-nil P
  all_of P (x ∷ xs) each = All-cons P x xs (each x (inl refl)) (all_of P xs (λ y has. each y (inr has)))

  -- the one after the others
  last_or_before : (xs : List X) (x y : X) → IsIn (xs ++ x ∷ []) y → IsIn xs y ⊎ (x ≡ y)
  last_or_before xs x y has = elim (in_either xs (x ∷ []) y has) [ inl before ↦ inl before | inr last ↦ elim last [ inl is ↦ inr is | inr none ↦ absurd none ] ]

  no_end : (xs : List X) (x : X) → ◌≡◌ {A = List X} [] (xs ++ x ∷ []) → ⊥
  no_end [] x e = cc
  no_end (y ∷ xs) x e = cc

  same_front : (xs ys : List X) (x y : X) → xs ++ x ∷ [] ≡ ys ++ y ∷ [] → xs ≡ ys
  same_front [] [] x y e = refl
  same_front [] (z ∷ ys) x y e = let none : [] ≡ ys ++ y ∷ [] = cc in absurd (no_end ys y none)
  same_front (z ∷ xs) [] x y e = let none : [] ≡ xs ++ x ∷ [] = cc in absurd (no_end xs x none)
  same_front (z ∷ xs) (w ∷ ys) x y e =
      let first : z ≡ w = cc in
      let rest : xs ++ x ∷ [] ≡ ys ++ y ∷ [] = cc in
      let same = same_front xs ys x y rest in
      λ i. first i ∷ same i

-- ---- items of a journal

-- what is all or but the last one is one list
same_items : (shut : Bool) (items other journal : List Item) → IsAllOrButLast shut items journal → IsAllOrButLast shut other journal → items ≡ other
same_items false items other journal is too = is ∙ sym too
same_items true items other journal is too = same_front items other is.0 too.0 (sym is.1 ∙ too.1)

in_journal : (shut : Bool) (items journal : List Item) (i : Item) → IsAllOrButLast shut items journal → IsIn items i → IsIn journal i
in_journal false items journal i is has = subst (λ l. IsIn l i) is has
in_journal true items journal i is has = subst (λ l. IsIn l i) (sym is.1) (in_front items (is.0 ∷ []) i has)

-- an answer by prices among those to a lane is to an accepted command
answered_accepted : (lane shard place : ℕ) (editions : FareEditions) (state : State) (items : List Item) (a : Answer)
    → IsIn (passed_to lane (zip (entries_of items) (answers_from shard place editions state items))) a → is_priced a.reply ≡ true → IsIn (accepted_asked editions state items) a.command
answered_accepted lane shard place editions state [] a has priced = absurd has
answered_accepted lane shard place editions state (item ∷ items) a has priced =
    by (eqb item.entry.lane lane) has (λ there. answered_accepted lane shard (place + 1) editions (item_step editions state item).after items a there priced)
  where
    first : Answer
    first = answer_at shard place editions state item

    others : List Asked
    others = with_prices items (run editions (item_step editions state item).after items).replies

    here : (b : Bool) → b ≡ true → item.entry.command ≡ a.command → IsIn (if b then item.entry.command ∷ others else others) a.command
    here true e same = inl same
    here false e same = absurd (cc)

    beyond : (b : Bool) → IsIn others a.command → IsIn (if b then item.entry.command ∷ others else others) a.command
    beyond true there = inr there
    beyond false there = there

    rest : List Answer
    rest = passed_to lane (zip (entries_of items) (answers_from shard (place + 1) editions (item_step editions state item).after items))

    by : (b : Bool) → IsIn (if b then answer_at shard place editions state item ∷ rest else rest) a → (IsIn rest a → IsIn others a.command)
        → IsIn (if is_priced (item_step editions state item).reply then item.entry.command ∷ others else others) a.command
    by true (inl is) later =
        here (is_priced (item_step editions state item).reply) (ap (λ (x : Answer). is_priced x.reply) is ∙ priced) (ap (λ (x : Answer). x.command) is)
    by true (inr there) later = beyond (is_priced (item_step editions state item).reply) (later there)
    by false there later = beyond (is_priced (item_step editions state item).reply) (later there)

-- ---- workers by their numbers

-- with a fare file, and no accounts
abbrev IsFresh : FareEditions → WorkerParts → Type 0
IsFresh fares w = (w.shard.editions ≡ fares) × (w.shard.base ≡ empty)

fresh_all : (fares : FareEditions) (office ws : List WorkerParts) → All (λ (w : WorkerParts). w.shard.editions ≡ fares) office → All (λ (w : WorkerParts). w.shard.base ≡ empty) office
    → AllZip IsSameWorker office ws → AllByRecursion (IsFresh fares) ws
fresh_all fares [] [] editions bases same = tt
fresh_all fares [] (w ∷ ws) editions bases same = absurd same
fresh_all fares (v ∷ office) [] editions bases same = absurd same
fresh_all fares (v ∷ office) (w ∷ ws) editions bases same = (
  (
    same.0.editions ∙ All-head (λ (x : WorkerParts). x.shard.editions ≡ fares) v office editions,
    same.0.base ∙ All-head (λ (x : WorkerParts). x.shard.base ≡ empty) v office bases,
  ),
  fresh_all fares office ws (All-tail (λ (x : WorkerParts). x.shard.editions ≡ fares) v office editions) (All-tail (λ (x : WorkerParts). x.shard.base ≡ empty) v office bases) same.1,
)

same_numbers : (ws vs : List WorkerParts) → AllZip IsSameWorker ws vs → shard_numbers vs ≡ shard_numbers ws
same_numbers [] [] same = refl
same_numbers [] (v ∷ vs) same = absurd same
same_numbers (w ∷ ws) [] same = absurd same
same_numbers (w ∷ ws) (v ∷ vs) same = λ i. same.0.number i ∷ same_numbers ws vs same.1 i

numbers_head : (w : WorkerParts) (ws : List WorkerParts) (shard n : ℕ) → shard_numbers (w ∷ ws) ≡ range_with_len shard n → (w.shard.number ≡ shard) × (m : ℕ) × (shard_numbers ws ≡ range_with_len (shard + 1) m)
numbers_head w ws shard zero e = absurd (cc)
numbers_head w ws shard (suc m) e =
    let first : w.shard.number ≡ shard = cc in
    let rest : shard_numbers ws ≡ range_with_len (shard + 1) m = cc in
    (first, m, rest)

both : (a b : Bool) → (a || b) ≡ false → (a ≡ false) × (b ≡ false)
both false b e = (refl, e)
both true b e = absurd (cc)

module _ (lanes : List LaneParts) where
  -- the worker of a number, with its gate
  record AtNumber (ws : List WorkerParts) (gates : List GateParts) (shard : ℕ) : Type 0 where
    worker : WorkerParts
    gate : GateParts
    kept : HasKept lanes worker gate
    is_in : IsIn ws worker
    number : worker.shard.number ≡ shard

  at_number : (ws : List WorkerParts) (gates : List GateParts) (shard n k place : ℕ) → AllZip (HasKept lanes) ws gates → shard_numbers ws ≡ range_with_len shard n → k < length ws → place ≡ shard + k → AtNumber ws gates place
  at_number [] gates shard n k place kept are less is = absurd (omega (arith, less))
  at_number (w ∷ ws) [] shard n k place kept are less is = absurd kept
  at_number (w ∷ ws) (g ∷ gates) shard n zero place kept are less is =
      let first = (numbers_head w ws shard n are).0 in
      record { worker = w; gate = g; kept = kept.0; is_in = inl refl; number = omega (arith, first, is) }
  at_number (w ∷ ws) (g ∷ gates) shard n (suc k) place kept are less is =
      let rest = numbers_head w ws shard n are in
      let found = at_number ws gates (shard + 1) rest.1 k place kept.1 rest.2 (omega (arith, less)) (omega (arith, is)) in
      record { worker = found.worker; gate = found.gate; kept = found.kept; is_in = inr found.is_in; number = found.number }

  -- gates that are not stuck hold just the lines of what is newly accepted
  module _ (fares : FareEditions) (merged : List (ℕ × Item)) where
    none_left : (stuck : Bool) (rest : List ℕ) → stuck ≡ false → IsRest stuck rest → rest ≡ []
    none_left false rest free is = is
    none_left true rest free is = absurd (cc)

    gate_keeps : (w : WorkerParts) (g : GateParts) (shard : ℕ) → HasKept lanes w g → IsFresh fares w → w.shard.number ≡ shard → IsAllOrButLast w.shut (items_of w.shard.number merged) w.shard.journal → g.stuck ≡ false
        → Appends g.held_first g.holds (lines_of_items (of_others (new_of fares merged shard)))
    gate_keeps w g shard kept fresh number merge free =
        let lines = lines_of_items (of_others (new_items w.shard.editions w.shard.base kept.items)) in
        let bare = subst (λ rest. Appends g.held_first g.holds (lines ++ rest)) (none_left g.stuck kept.rest free kept.is_rest) kept.bytes in
        let whole = subst (Appends g.held_first g.holds) (append-nil lines) bare in
        let items = same_items w.shut kept.items (items_of w.shard.number merged) w.shard.journal kept.are merge ∙ ap (λ n. items_of n merged) number in
        subst (Appends g.held_first g.holds) (λ i. lines_of_items (of_others (new_items (fresh.0 i) (fresh.1 i) (items i)))) whole

    keep_new : (ws : List WorkerParts) (gates : List GateParts) (shard n : ℕ) → AllZip (HasKept lanes) ws gates → shard_numbers ws ≡ range_with_len shard n → AllByRecursion (IsFresh fares) ws → IsMergeOf merged ws
        → is_one_stuck gates ≡ false → KeepNew fares merged shard gates
    keep_new [] [] shard n kept are fresh merge free = tt
    keep_new [] (g ∷ gates) shard n kept are fresh merge free = absurd kept
    keep_new (w ∷ ws) [] shard n kept are fresh merge free = absurd kept
    keep_new (w ∷ ws) (g ∷ gates) shard n kept are fresh merge free =
        let parts = numbers_head w ws shard n are in
        let frees = both g.stuck (is_one_stuck gates) free in (
          gate_keeps w g shard kept.0 fresh.0 parts.0 merge.0 frees.0,
          keep_new ws gates (shard + 1) parts.1 kept.1 parts.2 fresh.1 merge.1 frees.1,
        )

-- where no gate is stuck, no worker is shut: of each shard a merge of the journals has all
journals_merge : (lanes : List LaneParts) (merged : List (ℕ × Item)) (ws : List WorkerParts) (gates : List GateParts) → AllZip (HasKept lanes) ws gates → is_one_stuck gates ≡ false → HasJournals merged ws → IsMergeOf merged ws
journals_merge lanes merged [] [] kept free are = tt
journals_merge lanes merged [] (g ∷ gates) kept free are = absurd kept
journals_merge lanes merged (w ∷ ws) [] kept free are = absurd kept
journals_merge lanes merged (w ∷ ws) (g ∷ gates) kept free are =
    let frees = both g.stuck (is_one_stuck gates) free in (
      subst (λ b. IsAllOrButLast b (items_of w.shard.number merged) w.shard.journal) (sym frees.0 ∙ kept.0.is_stuck) are.0,
      journals_merge lanes merged ws gates kept.1 frees.1 are.1,
    )

-- ---- what stands in a journal was sent by its lane

arrived_has : (vs : List WorkerParts) (left : List (List Entry)) (i : Item) (journal : List Item) → length left ≡ length vs → IsIn (map (λ (v : WorkerParts). v.shard.journal) vs) journal → IsIn journal i
    → (entries : List Entry) × IsIn (arrived i.entry.lane vs left) entries × IsIn entries i.entry
arrived_has [] left i journal many stands has = absurd stands
arrived_has (v ∷ vs) [] i journal many stands has = absurd (omega (arith, many))
arrived_has (v ∷ vs) (entries ∷ left) i journal many (inl is) has =
    let here : IsIn v.shard.journal i = subst (λ l. IsIn l i) (sym is) has in
    let all = entries_of v.shard.journal ++ entries in (
      of by_lane i.entry.lane all,
      inl refl,
      chosen_in by_lane i.entry.lane all i.entry refl (in_front (entries_of v.shard.journal) entries i.entry (into_map (λ (j : Item). j.entry) v.shard.journal i here)),
    )
arrived_has (v ∷ vs) (entries ∷ left) i journal many (inr later) has =
    let found = arrived_has vs left i journal (omega (arith, many)) later has in (found.0, inr found.1, found.2)

sent_has : (shards : List (SenderParts Entry)) (entries : List Entry) (e : Entry) → IsIn (map (λ (s : SenderParts Entry). s.sent) shards) entries → IsIn entries e → IsIn (all_sent shards) e
sent_has [] entries e stands has = absurd stands
sent_has (s ∷ shards) entries e (inl is) has = in_front s.sent (all_sent shards) e (subst (λ l. IsIn l e) (sym is) has)
sent_has (s ∷ shards) entries e (inr later) has = in_back s.sent (all_sent shards) e (sent_has shards entries e later has)

same_lanes : (ls : List LaneParts) (l k : LaneParts) → k.number ≡ l.number → numbers (ls ++ k ∷ []) ≡ numbers (ls ++ l ∷ [])
same_lanes [] l k same = ap (λ n. n ∷ []) same
same_lanes (m ∷ ls) l k same = ap (λ ns. m.number ∷ ns) (same_lanes ls l k same)

below_or : (n m : ℕ) → (n < m) ⊎ (m ≤ n)
below_or n zero = inr (omega arith)
below_or zero (suc m) = inl (omega arith)
below_or (suc n) (suc m) = by (below_or n m)
  where
    by : (n < m) ⊎ (m ≤ n) → (suc n < suc m) ⊎ (suc m ≤ suc n)
    by (inl less) = inl (omega (arith, less))
    by (inr more) = inr (omega (arith, more))

-- one of the lanes has a number below their count
abbrev HasNumber : List LaneParts → ℕ → Type 0
HasNumber ls n = (l : LaneParts) × IsIn ls l × (l.number ≡ n)

has_number : (ls : List LaneParts) (count n : ℕ) → IsPermutation (range_with_len 0 count) (numbers ls) → n < count → HasNumber ls n
has_number ls count n all less =
    let each = All-permutation (HasNumber ls) (numbers ls) (range_with_len 0 count) (IsPermutation-sym (range_with_len 0 count) (numbers ls) all)
    (all_of (HasNumber ls) (numbers ls) (λ m has. in_map (λ (l : LaneParts). l.number) ls m has)) in
    subst (HasNumber ls) (get_or-range_with_len 0 count n 0 less ∙ (omega arith)) (each n 0 (subst (λ k. n < k) (sym (length-range_with_len 0 count)) less))

-- ---- commands

under_in : (ticket : ℕ) (ts : List (ℕ × Asked)) (a : Asked) → command_under ticket ts ≡ Some a → (t : ℕ × Asked) × IsIn ts t × (t.1 ≡ a)
under_in ticket [] a e = absurd (cc)
under_in ticket (t ∷ ts) a e = by (t.0 == ticket) (under_in ticket ts a) e
  where
    by : (b : Bool) → (command_under ticket ts ≡ Some a → (x : ℕ × Asked) × IsIn ts x × (x.1 ≡ a)) → (if b then Some t.1 else command_under ticket ts) ≡ Some a
        → (x : ℕ × Asked) × IsIn (t ∷ ts) x × (x.1 ≡ a)
    by true rest e = let same : t.1 ≡ a = cc in (t, inl refl, same)
    by false rest e = let it = rest e in (it.0, inr it.1, it.2)

-- a close puts nothing that has a line
quotes_have_none : (day of shard : ℕ) (put : List Taken) (c : ℕ × Asked) → AreQuotes day of shard put → IsIn (commands_of put) c → HasLine c.1 → ⊥
quotes_have_none day of shard [] c quotes has line = has
quotes_have_none day of shard (t ∷ put) c quotes (inl is) line =
    let asks : c.1 ≡ asked.Quotes day shard of = ap (λ (x : ℕ × Asked). x.1) (sym is) ∙ quotes.1 in
    let none = (subst HasLine asks line).1 in cc
quotes_have_none day of shard (t ∷ put) c quotes (inr later) line = quotes_have_none day of (suc shard) put c quotes.2 later line

nothing_below : (n : ℕ) → commands_below n [] ≡ []
nothing_below zero = refl
nothing_below (suc n) = ap (λ l. l ++ []) (nothing_below n)

nothing_sent : (shards : List (SenderParts Entry)) → All (λ (s : SenderParts Entry). s.sent ≡ []) shards → all_sent shards ≡ []
nothing_sent [] none = refl
nothing_sent (s ∷ shards) none =
    (λ i. All-head (λ (x : SenderParts Entry). x.sent ≡ []) s shards none i ++ nothing_sent shards (All-tail (λ (x : SenderParts Entry). x.sent ≡ []) s shards none) i)

pub nothing_asked : (count : ℕ) (l : LaneParts) → IsNewLane count l → commands_sent l ≡ []
nothing_asked count l new = ap (commands_below l.next) (nothing_sent l.shards new.sent) ∙ nothing_below l.next

spelled_line : (zone : TimeZone) (a : Asked) → HasLine a → IsAskedIn zone a → (c : SpelledCommand) × IsSpelled c × Puts zone (requests.Command c) a
spelled_line zone (asked.Tap tap) line is = is
spelled_line zone (asked.Fix fix) line is = is
spelled_line zone (asked.Due account day) line is = is
spelled_line zone (asked.Show account day) line is = is
spelled_line zone (asked.Quotes day shard of) line is = let none = line.1 in absurd (cc)

other_is_not_spared : (n : ℕ) → n ≡ SPARED_LANE → is_other n ≡ true → ⊥
other_is_not_spared n spared other = let no : is_other 0 ≡ true = subst (λ m. is_other m ≡ true) spared other in cc

spared_is_it : (n : ℕ) → is_other n ≡ false → n ≡ SPARED_LANE
spared_is_it n spared = by (eqb n SPARED_LANE) refl spared
  where
    by : (b : Bool) → eqb n SPARED_LANE ≡ b → not b ≡ false → n ≡ SPARED_LANE
    by true e f = eqb-true n SPARED_LANE e
    by false e f = absurd (cc)

-- ---- a service

module _ (Holds : GateParts → List Passed → Bool → Type 0) (terms : Terms) (left : IsLeft Holds terms) (merged : List (ℕ × Item)) (later : List (List ℕ)) (up : TakesUp left merged later) where
  abbrev lane : LaneParts
  lane = left.lane

  abbrev lanes : List LaneParts
  lanes = left.others ++ lane ∷ []

  abbrev ws : List WorkerParts
  ws = left.passed.workers

  abbrev ended : HasEnded left.office lanes left.over.0 left.over.1
  ended = left.over.2

  many_workers : length left.office ≡ length ws
  many_workers = length_all_zip IsSameWorker left.office ws left.passed.same

  many_gates : (vs : List WorkerParts) (gs : List GateParts) → AllZip (HasKept lanes) vs gs → length gs ≡ length vs
  many_gates [] [] kept = refl
  many_gates [] (g ∷ gs) kept = absurd kept
  many_gates (v ∷ vs) [] kept = absurd kept
  many_gates (v ∷ vs) (g ∷ gs) kept = ap suc (many_gates vs gs kept.1)

  are_numbers : shard_numbers ws ≡ range_with_len 0 (length left.office)
  are_numbers = same_numbers left.office ws left.passed.same ∙ left.new.numbers

  fresh : AllByRecursion (IsFresh terms.fares) ws
  fresh = fresh_all terms.fares left.office ws left.new.editions left.new.bases left.passed.same

  is_merge : IsMergeOf merged ws
  is_merge = journals_merge lanes merged ws left.gates left.kept up.kept up.merge

  -- the worker of a shard
  worker_of : (shard : ℕ) → shard < length left.office → AtNumber lanes ws left.gates shard
  worker_of shard less = at_number lanes ws left.gates 0 (length left.office) shard shard left.kept are_numbers (subst (λ n. shard < n) many_workers less) (omega arith)

  -- it has the items that a merge has of the shard
  its_items : (shard : ℕ) (at : AtNumber lanes ws left.gates shard) → IsAllOrButLast at.worker.shut (items_of shard merged) at.worker.shard.journal
  its_items shard at =
      subst (λ n. IsAllOrButLast at.worker.shut (items_of n merged) at.worker.shard.journal) at.number
      (one_in (λ (w : WorkerParts). IsAllOrButLast w.shut (items_of w.shard.number merged) w.shard.journal) ws at.worker is_merge at.is_in)

  lane_of : IsLaneOf left.office left.last
  lane_of = of_last (IsLaneOf left.office) left.others left.last left.all.0.lanes_of_them

  its_shards : length lane.shards ≡ length left.office
  its_shards =
      sym (length-map lane.shards (λ (s : SenderParts Entry). s.mailbox))
      ∙ (ap length (left.same.shards ∙ lane_of.0) ∙ length-map left.office (λ (w : WorkerParts). w.requests.mailbox))

  own : IsOfShards lane
  own = left.same.of_shards lane_of.2

  lane_is_spared : lane.number ≡ SPARED_LANE
  lane_is_spared = left.same.number ∙ (left.past.same.number ∙ left.spared.0)

  -- an answer by prices that the lane took is to what a shard accepted
  answer_accepted : (a : Answer) → IsIn lane.answers.got a → is_priced a.reply ≡ true → IsPricedIn terms.fares merged a.command
  answer_accepted a has priced =
      let less : a.shard < length left.office = subst (λ n. a.shard < n) its_shards (one_of (λ (x : Answer). x.shard < length lane.shards) lane.answers.got a own.taken has) in
      let at = worker_of a.shard less in
      let w : WorkerParts = at.worker in
      let first = of_last (IsFirstOf w.shard.number (answered_of w at.kept.items)) left.others lane at.kept.taken in
      let stands = in_whole (of by_shard w.shard.number lane.answers.got) (passed_to lane.number (answered_of w at.kept.items)) a first (chosen_in by_shard w.shard.number lane.answers.got a (sym at.number) has) in
      let accepted = answered_accepted lane.number w.shard.number 0 w.shard.editions w.shard.base at.kept.items a stands priced in
      let plain = one_in (IsFresh terms.fares) ws w fresh at.is_in in
      let items = same_items w.shut at.kept.items (items_of a.shard merged) w.shard.journal at.kept.are (its_items a.shard at) in
      (a.shard, subst (λ l. IsIn l a.command) (λ i. accepted_asked (plain.0 i) (plain.1 i) (items i)) accepted)

  -- what the texts ask for was answered by prices
  texts_priced : (r : Request) → IsIn (requests_in terms.texts) r → (a : Asked) × Puts terms.zone r a × IsPricedIn terms.fares merged a
  texts_priced r has =
      let found = put_priced terms.zone desk_parts 0 terms.texts (record { began = left.first; lane = left.first; waiting = [] }) left.past.desk left.past.taken r has in
      let put = found.2 in
      let told : answer_to put.ticket left.last.answers.got ≡ Some put.answer = subst (λ (l : LaneParts). answer_to put.ticket l.answers.got ≡ Some put.answer) (sym left.past.lane) put.stands in
      let now : answer_to put.ticket lane.answers.got ≡ Some put.answer = left.answered put.ticket put.answer told in
      let got = found_in (λ (x : Answer). x.ticket == put.ticket) lane.answers.got put.answer now in
      (found.0, found.1, subst (IsPricedIn terms.fares merged) put.command (answer_accepted put.answer got put.priced))

  -- ---- what is newly accepted

  -- an item of a shard that is newly accepted stands in the journal of some worker, and has a line
  stands_in : (shard : ℕ) (i : Item) → IsIn (new_of terms.fares merged shard) i
      → HasLine i.entry.command × (entries : List Entry) × IsIn (arrived i.entry.lane ended.workers left.over.1) entries × IsIn entries i.entry
  stands_in shard i has =
      let new = of_new terms.fares empty (items_of shard merged) i has in
      let less = its_shard (length left.office) shard i.entry.command left.new.some new.1 (of_merge (length left.office) shard merged i up.asked new.0) in
      let at = worker_of shard less in
      let w : WorkerParts = at.worker in
      let there = in_journal w.shut (items_of shard merged) w.shard.journal i (its_items shard at) new.0 in
      let one : IsIn left.over.0 w.shard.journal =
      subst (λ js. IsIn js w.shard.journal) (sym left.passed.journals_are) (into_map (λ (v : WorkerParts). v.shard.journal) ws w at.is_in) in
      let found = arrived_has ended.workers left.over.1 i w.shard.journal ended.ends.many (subst (λ js. IsIn js w.shard.journal) ended.ends.journals_are one) there in
      (new.1, found.0, found.1, found.2)

  -- what a lane is asked stands among what it sent
  sent_by_it : (l : LaneParts) (i : Item) (entries : List Entry) → IsIn lanes l → l.number ≡ i.entry.lane → IsIn (arrived i.entry.lane ended.workers left.over.1) entries → IsIn entries i.entry
      → IsIn (all_sent l.shards) i.entry
  sent_by_it l i entries stands number there has =
      let same = one_of (λ (m : LaneParts). arrived m.number ended.workers left.over.1 ≡ sent_by m) lanes l ended.ends.sent stands in
      let its = subst (λ n. arrived n ended.workers left.over.1 ≡ sent_by l) number same in
      sent_has l.shards entries i.entry (subst (λ ls. IsIn ls entries) its there) has

  -- the spared lane asked what the lines of the texts put
  spared_asked : (shard : ℕ) (i : Item) → IsIn (new_of terms.fares merged shard) i → is_other i.entry.lane ≡ false → (r : Request) × IsIn (requests_in terms.texts) r × Puts terms.zone r i.entry.command
  spared_asked shard i has spared =
      let stands = stands_in shard i has in
      let e : Entry = i.entry in
      let sent = sent_by_it lane i stands.1 (in_back left.others (lane ∷ []) lane (inl refl)) (lane_is_spared ∙ sym (spared_is_it e.lane spared)) stands.2 stands.3 in
      let under = one_in (λ (x : Entry). command_under x.ticket (commands_sent lane) ≡ Some x.command) (all_sent lane.shards) e left.none_hidden sent in
      let c = under_in e.ticket (commands_sent lane) e.command under in
      let line : HasLine c.0.1 = subst HasLine (sym c.2) stands.0 in
      let all = subst (λ l. IsIn l c.0) left.added c.1 in
      elim (in_either (commands_sent left.last) (commands_of left.put) c.0 all) [
        | inl first ↦
            let past : IsIn (commands_sent left.past.desk.lane) c.0 = subst (λ (l : LaneParts). IsIn (commands_sent l) c.0) left.past.lane first in
            elim (asked_by_line terms.zone desk_parts 0 terms.texts (record { began = left.first; lane = left.first; waiting = [] }) left.past.desk left.past.taken c.0 past) [
              | inl none ↦ absurd (subst (λ l. IsIn l c.0) (nothing_asked (length left.office) left.first left.spared.1) none)
              | inr found ↦ (found.0, found.1, subst (λ a. Puts terms.zone found.0 a) c.2 found.2)
            ]
        | inr quotes ↦ absurd (quotes_have_none terms.day (length left.last.shards) 0 left.put c.0 left.quotes quotes line)
      ]

  -- and another lane what a line puts
  others_asked : (shard : ℕ) (i : Item) → IsIn (new_of terms.fares merged shard) i → is_other i.entry.lane ≡ true → (c : SpelledCommand) × IsSpelled c × Puts terms.zone (requests.Command c) i.entry.command
  others_asked shard i has other = by (below_or i.entry.lane (lanes_of ended.workers))
    where
      stands : HasLine i.entry.command × (entries : List Entry) × IsIn (arrived i.entry.lane ended.workers left.over.1) entries × IsIn entries i.entry
      stands = stands_in shard i has

      all : IsPermutation (range_with_len 0 (lanes_of ended.workers)) (numbers lanes)
      all =
          subst (λ n. IsPermutation (range_with_len 0 n) (numbers lanes)) (sym (same_count left.office ended.workers ended.same))
          (subst (IsPermutation (range_with_len 0 (lanes_of left.office))) (sym (same_lanes left.others left.last lane left.same.number)) left.all.1)

      of_lane : HasNumber lanes i.entry.lane → (c : SpelledCommand) × IsSpelled c × Puts terms.zone (requests.Command c) i.entry.command
      of_lane (l, there, number) = elim (last_or_before left.others lane l there) [
        | inl one ↦
            let asked_all = one_of (HasAskedIn terms.zone) left.others l left.spelled one in
            let sent = sent_by_it l i stands.1 there number stands.2 stands.3 in
            spelled_line terms.zone i.entry.command stands.0 (one_in (λ (e : Entry). IsAskedIn terms.zone e.command) (all_sent l.shards) i.entry asked_all sent)
        | inr last ↦ absurd (other_is_not_spared i.entry.lane (sym number ∙ (ap (λ (m : LaneParts). m.number) (sym last) ∙ lane_is_spared)) other)
      ]

      by : (i.entry.lane < lanes_of ended.workers) ⊎ (lanes_of ended.workers ≤ i.entry.lane) → (c : SpelledCommand) × IsSpelled c × Puts terms.zone (requests.Command c) i.entry.command
      by (inl less) = of_lane (has_number lanes (lanes_of ended.workers) i.entry.lane all less)
      by (inr more) =
          let none = one_of (λ (entries : List Entry). entries ≡ []) (arrived i.entry.lane ended.workers left.over.1) stands.1 (ended.ends.known i.entry.lane more) stands.2 in
          absurd (subst (λ l. IsIn l i.entry) none stands.3)

  have_kept : HaveKept terms.fares terms.zone merged left.gates terms.texts
  have_kept =
      let many : length left.gates ≡ length left.office = many_gates ws left.gates left.kept ∙ sym many_workers in
      record {
        some = subst (λ n. 1 ≤ n) (sym many) left.new.some;
        asked = subst (λ n. AreAskedOf n merged) (sym many) up.asked;
        whole = subst (λ held. AreWholeOf held terms.texts) (sym left.began) up.whole;
        kept = keep_new lanes terms.fares merged ws left.gates 0 (length left.office) left.kept are_numbers fresh is_merge up.kept;
        priced = texts_priced;
        spared = spared_asked;
        others = others_asked;
      }

pub service_gives_back : KeptGivesBack → (Holds : GateParts → List Passed → Bool → Type 0) → ServiceGivesBack Holds
service_gives_back law Holds terms left merged later up = law terms.fares terms.zone merged left.gates terms.texts later (have_kept Holds terms left merged later up) up.alike

-- A part in front of the texts asks for no more, so both together give back as well.
pub service_parts_are_taken : KeptGivesBack → PartsAreTaken → PartAsksAlike → (Holds : GateParts → List Passed → Bool → Type 0) → ServicePartsAreTaken Holds
service_parts_are_taken law parts part_alike Holds terms left merged later part up within =
    let both : TakesUp left merged (part ++ later) = record {
      kept = up.kept;
      whole = up.whole;
      asked = up.asked;
      merge = up.merge;
      alike = part_alike (texts_then left.gates terms.texts) later part up.alike within;
    } in
    parts terms.fares terms.zone merged part later (service_gives_back law Holds terms left merged (part ++ later) both)
