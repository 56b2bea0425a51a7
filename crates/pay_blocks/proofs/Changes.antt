-- A list in blocks once one more is put in, or one is taken out.
use Rattle.std.proofs.Common.{◌≡◌, ◌≢◌, ℕ, zero, suc, ◌+◌, ◌-◌, ◌^◌, ◌<◌, ◌≤◌, List, [], ◌∷◌, ◌++◌, length, take, drop, map, set, get_or, slice_get, Option, sym, ap, ◌∙◌, subst, arith, append_assoc, length-append}
use Rattle.std.proofs.lemmas.List.{get_or_default, take_more_set, drop-set-lt}
use Rattle.std.specs.List.{insert}
use Rattle.std.specs.Option.{option_to_list}
use Rattle.pay_blocks.specs.declared.limits.TheConstants.{MOST}
use Rattle.pay_blocks.specs.Parts.{BlockParts}
use Rattle.pay_blocks.specs.Laid.{raised, joined, AreLaid, AreBlocks, IsPut}
use Rattle.pay_blocks.proofs.Edits.{holds_further}
use Rattle.pay_blocks.proofs.Joins.{IsHeld, held_first, held_later, within_held, inside_held, get_held, insert_held, from_held, some_held, joined_append, joined_raised, laid_append, laid_at, laid_before, laid_raised, starts_within}
use Rattle.pay_blocks.proofs.Puts.{length-insert}

module _ {X : Type 0} where
  -- ---- where a place was found: so many later blocks begin there or before

  pub record IsFound (first : List X) (later : List (BlockParts X)) (all : List X) (place n : ℕ) : Type 0 where
    pub laid : AreLaid (length first) later
    pub within : n ≤ length later
    pub begun : (k : ℕ) (d : BlockParts X) → k < n → (get_or later k d).start ≤ place
    pub ahead : (k : ℕ) (d : BlockParts X) → n ≤ k → k < length later → place < (get_or later k d).start
    pub whole : first ++ joined later ≡ all

  -- in the first block
  pub in_first : (first : List X) (later : List (BlockParts X)) (all : List X) (place n : ℕ) → IsFound first later all place n → n ≡ 0
      → IsHeld all [] first (joined later) place 0
  in_first first later all place n f none =
      subst (λ l. IsHeld l [] first (joined later) place 0) f.whole (held_first first later place f.laid (λ k d low lt. f.ahead k d (omega arith) lt))

  -- in a later one
  pub in_later : (first : List X) (later : List (BlockParts X)) (all : List X) (place n : ℕ) (b : BlockParts X) → IsFound first later all place n → n ≢ 0 → b ≡ get_or later (n - 1) b
      → IsHeld all (first ++ joined (take (n - 1) later)) b.items (joined (drop (n - 1 + 1) later)) place b.start
  in_later first later all place n b f some at =
      let w = f.within in
      subst (λ l. IsHeld l (first ++ joined (take (n - 1) later)) b.items (joined (drop (n - 1 + 1) later)) place b.start) f.whole
      (held_later first later (n - 1) b place f.laid (omega arith) at (subst (λ c. c.start ≤ place) (sym at) (f.begun (n - 1) b (omega arith)))
      (λ i d low lt. f.ahead i d (omega arith) lt))

  pub its_own : (later : List (BlockParts X)) (k : ℕ) (d : BlockParts X) → k < length later → get_or later k d ≡ get_or later k (get_or later k d)
  its_own later k d lt = get_or_default later k d (get_or later k d) lt

  -- ---- looking up

  pub got_first : (first : List X) (later : List (BlockParts X)) (all : List X) (place n : ℕ) → IsFound first later all place n → n ≡ 0 → slice_get first place ≡ slice_get all place
  got_first first later all place n f none =
      let e : place - 0 ≡ place = omega arith in
      subst (λ m. slice_get first m ≡ slice_get all place) e (get_held all [] first (joined later) place 0 (in_first first later all place n f none))

  pub got_later : (first : List X) (later : List (BlockParts X)) (all : List X) (place n : ℕ) (b : BlockParts X) → IsFound first later all place n → n ≢ 0 → b ≡ get_or later (n - 1) b
      → slice_get b.items (place - b.start) ≡ slice_get all place
  got_later first later all place n b f some at = get_held _ _ _ _ _ _ (in_later first later all place n b f some at)

  pub within_first : (first : List X) (later : List (BlockParts X)) (all : List X) (place n : ℕ) → IsFound first later all place n → n ≡ 0 → place ≤ length all → place ≤ length first
  within_first first later all place n f none few =
      let low = within_held all [] first (joined later) place 0 (in_first first later all place n f none) few in omega arith

  pub inside_first : (first : List X) (later : List (BlockParts X)) (all : List X) (place n : ℕ) → IsFound first later all place n → n ≡ 0 → place < length all → place < length first
  inside_first first later all place n f none few =
      let low = inside_held all [] first (joined later) place 0 (in_first first later all place n f none) few in omega arith

  pub within_later : (first : List X) (later : List (BlockParts X)) (all : List X) (place n : ℕ) (d : BlockParts X) → IsFound first later all place n → n ≢ 0 → place ≤ length all
      → place ≤ (get_or later (n - 1) d).start + length (get_or later (n - 1) d).items
  within_later first later all place n d f some few =
      let w = f.within in
      within_held _ _ _ _ _ _ (in_later first later all place n (get_or later (n - 1) d) f some (its_own later (n - 1) d (omega arith))) few

  pub inside_later : (first : List X) (later : List (BlockParts X)) (all : List X) (place n : ℕ) (d : BlockParts X) → IsFound first later all place n → n ≢ 0 → place < length all
      → place < (get_or later (n - 1) d).start + length (get_or later (n - 1) d).items
  inside_later first later all place n d f some few =
      let w = f.within in
      inside_held _ _ _ _ _ _ (in_later first later all place n (get_or later (n - 1) d) f some (its_own later (n - 1) d (omega arith))) few

  pub within_own : (first : List X) (later : List (BlockParts X)) (all : List X) (place n : ℕ) (b : BlockParts X) → IsFound first later all place n → n ≢ 0 → b ≡ get_or later (n - 1) b
      → place ≤ length all → place ≤ b.start + length b.items
  within_own first later all place n b f some at few = within_held _ _ _ _ _ _ (in_later first later all place n b f some at) few

  pub some_first : (first : List X) (later : List (BlockParts X)) (all : List X) (place n : ℕ) → IsFound first later all place n → n ≡ 0 → place < length all → 1 ≤ length (drop place first)
  some_first first later all place n f none lt =
      let e : place - 0 ≡ place = omega arith in
      subst (λ m. 1 ≤ length (drop m first)) e (some_held all [] first (joined later) place 0 (in_first first later all place n f none) lt)

  pub items_later : (first : List X) (later : List (BlockParts X)) (all : List X) (place n : ℕ) (b : BlockParts X) → IsFound first later all place n → n ≢ 0 → b ≡ get_or later (n - 1) b
      → place ≤ length all → drop (place - b.start) b.items ≡ take (length (drop (place - b.start) b.items)) (drop place all)
  items_later first later all place n b f some at few = from_held _ _ _ _ _ _ (in_later first later all place n b f some at) few

  pub some_later : (first : List X) (later : List (BlockParts X)) (all : List X) (place n : ℕ) (b : BlockParts X) → IsFound first later all place n → n ≢ 0 → b ≡ get_or later (n - 1) b
      → place < length all → 1 ≤ length (drop (place - b.start) b.items)
  some_later first later all place n b f some at lt = some_held _ _ _ _ _ _ (in_later first later all place n b f some at) lt

  -- ---- what blocks that lie one after another have

  pub laid_few : (start : ℕ) (blocks : List (BlockParts X)) (k : ℕ) (d : BlockParts X) → AreLaid start blocks → k < length blocks → length (get_or blocks k d).items ≤ MOST
  laid_few start [] k d h lt = absurd (omega arith)
  laid_few start (b ∷ bs) zero d h lt = h.2
  laid_few start (b ∷ bs) (suc k) d h lt = laid_few (start + length b.items) bs k d h.4 (omega arith)

  pub laid_capacity : (start : ℕ) (blocks : List (BlockParts X)) (k : ℕ) (d : BlockParts X) → AreLaid start blocks → k < length blocks → MOST ≤ (get_or blocks k d).capacity
  laid_capacity start [] k d h lt = absurd (omega arith)
  laid_capacity start (b ∷ bs) zero d h lt = h.3
  laid_capacity start (b ∷ bs) (suc k) d h lt = laid_capacity (start + length b.items) bs k d h.4 (omega arith)

  -- all begin where a count ends
  pub starts_fit : (start count : ℕ) (blocks : List (BlockParts X)) → AreLaid start blocks → count ≡ start + length (joined blocks) → (k : ℕ) (d : BlockParts X) → k < length blocks
      → (get_or blocks k d).start + length (get_or blocks k d).items ≤ count
  starts_fit start count blocks h e k d lt = let most = starts_within start blocks k d h lt in omega arith

  -- ---- one more put in

  put_length : (old : BlockParts X) (offset : ℕ) (item : X) (new : BlockParts X) (next : Option (BlockParts X)) → IsPut old offset item new next → offset ≤ length old.items
      → length new.items + length (joined (option_to_list next)) ≡ length old.items + 1
  put_length old offset item new next p low =
      let many : length (new.items ++ joined (option_to_list next)) ≡ length new.items + length (joined (option_to_list next)) = length-append new.items (joined (option_to_list next)) in
      let all : length (new.items ++ joined (option_to_list next)) ≡ suc (length old.items) = ap length p.items ∙ length-insert old.items offset item low in
      omega arith

  -- what lies after a block into which one more was put
  way_made : (old : BlockParts X) (offset : ℕ) (item : X) (new : BlockParts X) (next : Option (BlockParts X)) (rest : List (BlockParts X)) → IsPut old offset item new next → offset ≤ length old.items
      → AreLaid (old.start + length old.items) rest → AreLaid (new.start + length new.items) (option_to_list next ++ map raised rest)
  way_made old offset item new next rest p low h =
      let many = put_length old offset item new next p low in
      let same = p.start in
      laid_append (new.start + length new.items) (option_to_list next) (map raised rest) p.beyond
      (laid_raised (old.start + length old.items) (new.start + length new.items + length (joined (option_to_list next))) rest (omega arith) h)

  way_items : (next : Option (BlockParts X)) (rest : List (BlockParts X)) → joined (option_to_list next ++ map raised rest) ≡ joined (option_to_list next) ++ joined rest
  way_items next rest = joined_append (option_to_list next) (map raised rest) ∙ ap (λ (l : List X). joined (option_to_list next) ++ l) (joined_raised rest)

  pub inserted_first : (first : BlockParts X) (later later2 : List (BlockParts X)) (all : List X) (place n : ℕ) (item : X) (new : BlockParts X) (next : Option (BlockParts X))
      → IsFound first.items later all place n → n ≡ 0 → place ≤ length all → IsPut first place item new next → later2 ≡ option_to_list next ++ map raised later
      → new.items ++ joined later2 ≡ insert all place item
  inserted_first first later later2 all place n item new next f none few p e =
      let zero_less : place - 0 ≡ place = omega arith in
      let put : insert all place item ≡ insert first.items (place - 0) item ++ joined later = insert_held all [] first.items (joined later) place 0 item (in_first first.items later all place n f none) few in
      ap (λ (l : List (BlockParts X)). new.items ++ joined l) e ∙ ap (λ (l : List X). new.items ++ l) (way_items next later)
      ∙ sym (append_assoc new.items (joined (option_to_list next)) (joined later)) ∙ ap (λ (l : List X). l ++ joined later) (p.items ∙ ap (λ m. insert first.items m item) (sym zero_less))
      ∙ sym put

  pub kept_first : (first : BlockParts X) (later later2 : List (BlockParts X)) (all : List X) (place n count room room2 spare_capacity spare_capacity2 blocks blocks2 : ℕ) (spare spare2 : List X) (item : X)
      (new : BlockParts X) (next : Option (BlockParts X))
      → AreBlocks first later count room spare spare_capacity blocks
      → IsFound first.items later all place n → n ≡ 0 → place ≤ length all → IsPut first place item new next → later2 ≡ option_to_list next ++ map raised later
      → spare2 ≡ [] → room2 ≡ 0 → count + 1 < 2 ^ 64 → AreBlocks new later2 (count + 1) room2 spare2 spare_capacity2 blocks2
  kept_first first later later2 all place n count room room2 spare_capacity spare_capacity2 blocks blocks2 spare spare2 item new next kept f none few p e unused no_room fits =
      let within = within_first first.items later all place n f none few in
      let start : new.start ≡ 0 = p.start ∙ kept.start in
      let whole : length (new.items ++ joined later2) ≡ suc (length all) = ap length (inserted_first first later later2 all place n item new next f none few p e) ∙ length-insert all place item few in
      let before : length first.items + length (joined later) ≡ length all = sym (length-append first.items (joined later)) ∙ ap length f.whole in
      let after : length (new.items ++ joined later2) ≡ length new.items + length (joined later2) = length-append new.items (joined later2) in
      let from : first.start + length first.items ≡ length first.items = ap (λ m. m + length first.items) kept.start ∙ omega arith in
      let to : new.start + length new.items ≡ length new.items = ap (λ m. m + length new.items) start ∙ omega arith in
      record {
        start = start;
        few = p.few;
        laid = subst (λ l. AreLaid (length new.items) l) (sym e)
            (subst (λ m. AreLaid m (option_to_list next ++ map raised later)) to
            (way_made first place item new next later p within (subst (λ m. AreLaid m later) (sym from) f.laid)));
        counted = let counted = kept.counted in omega arith;
        fits = fits;
        unused = unused;
        ready = λ some. absurd (omega arith);
      }

  -- a later block is another, and what lies after it too
  pub exchanged : (later later1 later2 way : List (BlockParts X)) (k : ℕ) (new : BlockParts X) → k < length later → later1 ≡ set later k new
      → later2 ≡ take (k + 1) later1 ++ way → later2 ≡ take k later ++ new ∷ way
  exchanged later later1 later2 way k new lt e1 e2 =
      e2 ∙ ap (λ l. take (k + 1) l ++ way) e1 ∙ ap (λ l. l ++ way) (take_more_set later k new lt) ∙ append_assoc (take k later) (new ∷ []) way

  pub after_it : (later later1 : List (BlockParts X)) (k : ℕ) (new : BlockParts X) → later1 ≡ set later k new → drop (k + 1) later1 ≡ drop (k + 1) later
  after_it later later1 k new e = ap (λ l. drop (k + 1) l) e ∙ drop-set-lt (k + 1) later k new (omega arith)

  shape_put : (later later1 later2 : List (BlockParts X)) (n : ℕ) (new : BlockParts X) (next : Option (BlockParts X)) → n ≢ 0 → n ≤ length later
      → later1 ≡ set later (n - 1) new → later2 ≡ take n later1 ++ (option_to_list next ++ map raised (drop n later1))
      → later2 ≡ take (n - 1) later ++ new ∷ (option_to_list next ++ map raised (drop (n - 1 + 1) later))
  shape_put later later1 later2 n new next some within e1 e2 =
      let same : n ≡ n - 1 + 1 = omega arith in
      exchanged later later1 later2 _ (n - 1) new (omega arith) e1
      (e2 ∙ ap (λ m. take m later1 ++ (option_to_list next ++ map raised (drop m later1))) same
      ∙ ap (λ l. take (n - 1 + 1) later1 ++ (option_to_list next ++ map raised l)) (after_it later later1 (n - 1) new e1))

  pub shape_items : (first : List X) (front rest : List (BlockParts X)) (new : BlockParts X) → first ++ joined (front ++ new ∷ rest) ≡ (first ++ joined front) ++ (new.items ++ joined rest)
  shape_items first front rest new = ap (λ (l : List X). first ++ l) (joined_append front (new ∷ rest)) ∙ sym (append_assoc first (joined front) (new.items ++ joined rest))

  pub inserted_later : (first : List X) (later later1 later2 : List (BlockParts X)) (all : List X) (place n : ℕ) (item : X) (old new : BlockParts X) (next : Option (BlockParts X))
      → IsFound first later all place n → n ≢ 0 → place ≤ length all → old ≡ get_or later (n - 1) old → IsPut old (place - old.start) item new next
      → later1 ≡ set later (n - 1) new → later2 ≡ take n later1 ++ (option_to_list next ++ map raised (drop n later1))
      → first ++ joined later2 ≡ insert all place item
  inserted_later first later later1 later2 all place n item old new next f some few at p e1 e2 =
      let front = take (n - 1) later in
      let rest = drop (n - 1 + 1) later in
      let shape = shape_put later later1 later2 n new next some f.within e1 e2 in
      let put = insert_held _ _ _ _ _ _ item (in_later first later all place n old f some at) few in
      ap (λ l. first ++ joined l) shape ∙ shape_items first front (option_to_list next ++ map raised rest) new
      ∙ ap (λ (l : List X). (first ++ joined front) ++ (new.items ++ l)) (way_items next rest)
      ∙ ap (λ (l : List X). (first ++ joined front) ++ l) (sym (append_assoc new.items (joined (option_to_list next)) (joined rest)) ∙ ap (λ (l : List X). l ++ joined rest) p.items)
      ∙ sym put

  pub laid_later : (first : List X) (later later1 later2 : List (BlockParts X)) (all : List X) (place n : ℕ) (item : X) (old new : BlockParts X) (next : Option (BlockParts X))
      → IsFound first later all place n → n ≢ 0 → place ≤ length all → old ≡ get_or later (n - 1) old → IsPut old (place - old.start) item new next
      → later1 ≡ set later (n - 1) new → later2 ≡ take n later1 ++ (option_to_list next ++ map raised (drop n later1))
      → AreLaid (length first) later2
  laid_later first later later1 later2 all place n item old new next f some few at p e1 e2 =
      let w = f.within in
      let front = take (n - 1) later in
      let rest = drop (n - 1 + 1) later in
      let shape = shape_put later later1 later2 n new next some f.within e1 e2 in
      let there = laid_at (length first) later (n - 1) old f.laid (omega arith) at in
      let near = within_held _ _ _ _ _ _ (in_later first later all place n old f some at) few in
      let from : old.start ≡ length first + length (joined front) = there.0 in
      let same : new.start ≡ old.start = p.start in
      let capacity : MOST ≤ new.capacity = let c = p.capacity in let d : MOST ≤ old.capacity = there.3 in omega arith in
      let beyond : AreLaid (new.start + length new.items) (option_to_list next ++ map raised rest)
      = way_made old (place - old.start) item new next rest p (omega arith) (subst (λ m. AreLaid (m + length old.items) rest) (sym from) there.4) in
      subst (λ l. AreLaid (length first) l) (sym shape)
      (laid_append (length first) front (new ∷ (option_to_list next ++ map raised rest)) (laid_before (length first) later (n - 1) f.laid)
      (same ∙ from, p.some, p.few, capacity, subst (λ m. AreLaid (m + length new.items) (option_to_list next ++ map raised rest)) (same ∙ from) beyond))

  pub kept_later : (first : BlockParts X) (later later2 : List (BlockParts X)) (all : List X) (place count room room2 spare_capacity spare_capacity2 blocks blocks2 : ℕ) (spare spare2 : List X) (item : X)
      → AreBlocks first later count room spare spare_capacity blocks → first.items ++ joined later ≡ all → place ≤ length all
      → first.items ++ joined later2 ≡ insert all place item → AreLaid (length first.items) later2
      → spare2 ≡ [] → room2 ≡ 0 → count + 1 < 2 ^ 64 → AreBlocks first later2 (count + 1) room2 spare2 spare_capacity2 blocks2
  kept_later first later later2 all place count room room2 spare_capacity spare_capacity2 blocks blocks2 spare spare2 item kept whole few e laid unused no_room fits =
      let many : length (first.items ++ joined later2) ≡ suc (length all) = ap length e ∙ length-insert all place item few in
      let before : length first.items + length (joined later) ≡ length all = sym (length-append first.items (joined later)) ∙ ap length whole in
      let after : length (first.items ++ joined later2) ≡ length first.items + length (joined later2) = length-append first.items (joined later2) in
      record {
        start = kept.start;
        few = kept.few;
        laid = laid;
        counted = let counted = kept.counted in omega arith;
        fits = fits;
        unused = unused;
        ready = λ some. absurd (omega arith);
      }

  -- blocks after one that was changed begin as they did
  pub starts_fit_set : (start count : ℕ) (later later1 : List (BlockParts X)) (n : ℕ) (new : BlockParts X) → AreLaid start later → count ≡ start + length (joined later) → count < 2 ^ 64 - 1 → n ≢ 0
      → later1 ≡ set later (n - 1) new → (k : ℕ) (d : BlockParts X) → n ≤ k → k < length later1 → (get_or later1 k d).start < 2 ^ 64 - 1
  starts_fit_set start count later later1 n new h e few some e1 k d low lt =
      subst (λ l. (get_or l k d).start < 2 ^ 64 - 1) (sym e1)
      (holds_further (λ b. b.start < 2 ^ 64 - 1) later (n - 1) new (λ j c from to. let most = starts_fit start count later h e j c to in omega arith) k d (omega arith)
      (subst (λ l. k < length l) e1 lt))
