-- Blocks that lie one after another, and where a place of the list lies in them.
use Rattle.std.proofs.Common.{◌≡◌, ℕ, zero, suc, ◌+◌, ◌-◌, ◌<◌, ◌≤◌, true, false, nat_le, List, [], ◌∷◌, ◌++◌, length, take, drop, map, get_or, slice_get, refl, sym, ap, ◌∙◌, subst, arith, append_assoc, length-append}
use Rattle.std.proofs.lemmas.List.{append-nil, take-append-drop, drop_more, length-drop, get_or-drop}
use Rattle.std.proofs.lemmas.List.Concat.{flat_map-append}
use Rattle.std.proofs.lemmas.Bool.Decides.{nat_tests}
use Rattle.std.specs.List.{insert, remove}
use Rattle.std.specs.List.Sorted.{IsPartitionedBy, IsPartitionPoint}
use Rattle.pay_blocks.specs.Parts.{BlockParts}
use Rattle.pay_blocks.specs.Laid.{raised, lowered, joined, AreLaid}
use Rattle.pay_blocks.proofs.Edits.{insert_left, insert_right, remove_left, remove_right, get_left, get_right, drop_left, drop_right, take_front}

module _ {X : Type 0} where
  -- ---- where blocks begin

  pub starts_from : (start : ℕ) (blocks : List (BlockParts X)) (k : ℕ) (d : BlockParts X) → AreLaid start blocks → k < length blocks → start ≤ (get_or blocks k d).start
  starts_from start [] k d h lt = absurd (omega arith)
  starts_from start (b ∷ bs) zero d h lt = omega arith
  starts_from start (b ∷ bs) (suc k) d h lt = let rest = starts_from (start + length b.items) bs k d h.4 (omega arith) in omega arith

  pub starts_rise : (start : ℕ) (blocks : List (BlockParts X)) (i j : ℕ) (d : BlockParts X) → AreLaid start blocks → i ≤ j → j < length blocks
      → (get_or blocks i d).start ≤ (get_or blocks j d).start
  starts_rise start [] i j d h low lt = absurd (omega arith)
  starts_rise start (b ∷ bs) zero j d h low lt = let rest = starts_from start (b ∷ bs) j d h lt in omega arith
  starts_rise start (b ∷ bs) (suc i) zero d h low lt = absurd (omega arith)
  starts_rise start (b ∷ bs) (suc i) (suc j) d h low lt = starts_rise (start + length b.items) bs i j d h.4 (omega arith) (omega arith)

  -- blocks are parted by whether they begin at a place or before it
  pub parted_by_start : (start place : ℕ) (blocks : List (BlockParts X)) → AreLaid start blocks → IsPartitionedBy (λ block. nat_le block.start place) blocks
  parted_by_start start place blocks h i j d low lt e =
      by_numbers (get_or blocks i d).start (get_or blocks j d).start (starts_rise start blocks i j d h low lt) e
    where
      by_numbers : (a b : ℕ) → a ≤ b → nat_le b place ≡ true → nat_le a place ≡ true
      by_numbers a b le f = grind (arith, nat_tests)

  pub begun_before : (place k : ℕ) (blocks : List (BlockParts X)) (n : ℕ) (d : BlockParts X)
      → IsPartitionPoint (λ block. nat_le block.start place ≡ true) (λ block. nat_le block.start place ≡ false) blocks n → k < n → (get_or blocks k d).start ≤ place
  begun_before place k blocks n d h lt = by_numbers (get_or blocks k d).start (h.0 k d (omega arith) lt)
    where
      by_numbers : (a : ℕ) → nat_le a place ≡ true → a ≤ place
      by_numbers a f = grind (arith, nat_tests)

  pub begun_after : (place k : ℕ) (blocks : List (BlockParts X)) (n : ℕ) (d : BlockParts X)
      → IsPartitionPoint (λ block. nat_le block.start place ≡ true) (λ block. nat_le block.start place ≡ false) blocks n
      → n ≤ k → k < length blocks → place < (get_or blocks k d).start
  begun_after place k blocks n d h low lt = by_numbers (get_or blocks k d).start (h.1 k d low lt)
    where
      by_numbers : (a : ℕ) → nat_le a place ≡ false → place < a
      by_numbers a f = grind (arith, nat_tests)

  -- ---- one block among others

  pub parts_at : (blocks : List (BlockParts X)) (k : ℕ) (b : BlockParts X) → k < length blocks → b ≡ get_or blocks k b → blocks ≡ take k blocks ++ b ∷ drop (k + 1) blocks
  parts_at blocks k b lt at =
      sym (take-append-drop k blocks) ∙ ap (λ l. take k blocks ++ l) (drop_more blocks k b lt ∙ ap (λ c. c ∷ drop (k + 1) blocks) (sym at))

  pub joined_append : (a b : List (BlockParts X)) → joined (a ++ b) ≡ joined a ++ joined b
  joined_append a b = flat_map-append (λ block. block.items) a b

  pub joined_at : (blocks : List (BlockParts X)) (k : ℕ) (b : BlockParts X) → k < length blocks → b ≡ get_or blocks k b
      → joined blocks ≡ joined (take k blocks) ++ (b.items ++ joined (drop (k + 1) blocks))
  joined_at blocks k b lt at = ap joined (parts_at blocks k b lt at) ∙ joined_append (take k blocks) (b ∷ drop (k + 1) blocks)

  pub laid_append : (start : ℕ) (a b : List (BlockParts X)) → AreLaid start a → AreLaid (start + length (joined a)) b → AreLaid start (a ++ b)
  laid_append start [] b h t = let e : start + 0 ≡ start = omega arith in subst (λ n. AreLaid n b) e t
  laid_append start (x ∷ a) b h t =
      let many : length (x.items ++ joined a) ≡ length x.items + length (joined a) = length-append x.items (joined a) in
      let e : start + length (x.items ++ joined a) ≡ start + length x.items + length (joined a) = omega arith in
      (h.0, h.1, h.2, h.3, laid_append (start + length x.items) a b h.4 (subst (λ n. AreLaid n b) e t))

  pub laid_front : (start : ℕ) (a b : List (BlockParts X)) → AreLaid start (a ++ b) → AreLaid start a
  laid_front start [] b h = tt
  laid_front start (x ∷ a) b h = (h.0, h.1, h.2, h.3, laid_front (start + length x.items) a b h.4)

  pub laid_after : (start : ℕ) (a b : List (BlockParts X)) → AreLaid start (a ++ b) → AreLaid (start + length (joined a)) b
  laid_after start [] b h = let e : start ≡ start + 0 = omega arith in subst (λ n. AreLaid n b) e h
  laid_after start (x ∷ a) b h =
      let many : length (x.items ++ joined a) ≡ length x.items + length (joined a) = length-append x.items (joined a) in
      let e : start + length x.items + length (joined a) ≡ start + length (x.items ++ joined a) = omega arith in
      subst (λ n. AreLaid n b) e (laid_after (start + length x.items) a b h.4)

  -- a block, and those after it, among blocks that lie from a place on
  pub laid_at : (start : ℕ) (blocks : List (BlockParts X)) (k : ℕ) (b : BlockParts X) → AreLaid start blocks → k < length blocks → b ≡ get_or blocks k b
      → AreLaid (start + length (joined (take k blocks))) (b ∷ drop (k + 1) blocks)
  laid_at start blocks k b h lt at = laid_after start (take k blocks) (b ∷ drop (k + 1) blocks) (subst (AreLaid start) (parts_at blocks k b lt at) h)

  pub laid_before : (start : ℕ) (blocks : List (BlockParts X)) (k : ℕ) → AreLaid start blocks → AreLaid start (take k blocks)
  laid_before start blocks k h = laid_front start (take k blocks) (drop k blocks) (subst (AreLaid start) (sym (take-append-drop k blocks)) h)

  -- ---- one place later, or earlier

  pub joined_raised : (blocks : List (BlockParts X)) → joined (map raised blocks) ≡ joined blocks
  joined_raised [] = refl
  joined_raised (b ∷ bs) = ap (λ (l : List X). b.items ++ l) (joined_raised bs)

  pub joined_lowered : (blocks : List (BlockParts X)) → joined (map lowered blocks) ≡ joined blocks
  joined_lowered [] = refl
  joined_lowered (b ∷ bs) = ap (λ (l : List X). b.items ++ l) (joined_lowered bs)

  pub laid_raised : (from to : ℕ) (blocks : List (BlockParts X)) → to ≡ from + 1 → AreLaid from blocks → AreLaid to (map raised blocks)
  laid_raised from to [] e h = tt
  laid_raised from to (b ∷ bs) e h = (omega arith, h.1, h.2, h.3, laid_raised (from + length b.items) (to + length b.items) bs (omega arith) h.4)

  pub laid_lowered : (from to : ℕ) (blocks : List (BlockParts X)) → from ≡ to + 1 → AreLaid from blocks → AreLaid to (map lowered blocks)
  laid_lowered from to [] e h = tt
  laid_lowered from to (b ∷ bs) e h = (omega arith, h.1, h.2, h.3, laid_lowered (from + length b.items) (to + length b.items) bs (omega arith) h.4)

  -- ---- where a place lies

  -- a place of all lies in a part, which begins so many items from the front, or at its end where that is the end of all
  pub record IsHeld (all before own beyond : List X) (place from : ℕ) : Type 0 where
    pub parts : all ≡ before ++ (own ++ beyond)
    pub start : length before ≡ from
    pub begun : from ≤ place
    pub ends : 1 ≤ length beyond → place < from + length own

  pub held_first : (first : List X) (later : List (BlockParts X)) (place : ℕ) → AreLaid (length first) later
      → ((k : ℕ) (d : BlockParts X) → 0 ≤ k → k < length later → place < (get_or later k d).start)
      → IsHeld (first ++ joined later) [] first (joined later) place 0
  held_first first [] place h ahead = record { parts = refl; start = refl; begun = omega arith; ends = λ far. absurd (omega arith) }
  held_first first (b ∷ bs) place h ahead = record {
    parts = refl;
    start = refl;
    begun = omega arith;
    ends = λ far. let near : place < b.start = ahead 0 b (omega arith) (omega arith) in let e = h.0 in omega arith;
  }

  -- before the first of some blocks stands what stands before where they begin
  before_first : (from place : ℕ) (rest : List (BlockParts X)) → AreLaid from rest → ((d : BlockParts X) → 0 < length rest → place < (get_or rest 0 d).start)
      → 1 ≤ length (joined rest) → place < from
  before_first from place [] h ahead some = absurd (omega arith)
  before_first from place (b ∷ bs) h ahead some = let near : place < b.start = ahead b (omega arith) in let e = h.0 in omega arith

  pub held_later : (first : List X) (later : List (BlockParts X)) (k : ℕ) (b : BlockParts X) (place : ℕ) → AreLaid (length first) later
      → k < length later → b ≡ get_or later k b → b.start ≤ place
      → ((i : ℕ) (d : BlockParts X) → k + 1 ≤ i → i < length later → place < (get_or later i d).start)
      → IsHeld (first ++ joined later) (first ++ joined (take k later)) b.items (joined (drop (k + 1) later)) place b.start
  held_later first later k b place h lt at low ahead =
      let there = laid_at (length first) later k b h lt at in
      let many : length (first ++ joined (take k later)) ≡ length first + length (joined (take k later)) = length-append first (joined (take k later)) in
      let from : b.start ≡ length first + length (joined (take k later)) = there.0 in
      let rest : length (drop (k + 1) later) ≡ length later - (k + 1) = length-drop (k + 1) later in
      record {
        parts = ap (λ (l : List X). first ++ l) (joined_at later k b lt at) ∙ sym (append_assoc first (joined (take k later)) (b.items ++ joined (drop (k + 1) later)));
        start = many ∙ sym from;
        begun = low;
        ends = λ some. let near : place < length first + length (joined (take k later)) + length b.items
            = before_first _ place (drop (k + 1) later) there.4 (λ d one. let e : k + 1 + 0 ≡ k + 1 = omega arith in
            rw (get_or-drop (k + 1) later 0 d) (subst (λ n. place < (get_or later n d).start) (sym e) (ahead (k + 1) d (omega arith) (omega arith)))) some
            in omega arith;
      }

  pub length_held : (all before own beyond : List X) (place from : ℕ) → IsHeld all before own beyond place from → length all ≡ from + (length own + length beyond)
  length_held all before own beyond place from h =
      ap length h.parts ∙ length-append before (own ++ beyond) ∙ ap (λ n. n + length (own ++ beyond)) h.start ∙ ap (λ n. from + n) (length-append own beyond)

  pub within_held : (all before own beyond : List X) (place from : ℕ) → IsHeld all before own beyond place from → place ≤ length all → place ≤ from + length own
  within_held all before own beyond place from h few =
      let many = length_held all before own beyond place from h in
      up_to (length beyond) place (from + length own) h.ends (omega arith)
    where
      up_to : (n place end : ℕ) → (1 ≤ n → place < end) → place ≤ end + n → place ≤ end
      up_to zero place end ends low = omega arith
      up_to (suc n) place end ends low = let near = ends (omega arith) in omega arith

  pub inside_held : (all before own beyond : List X) (place from : ℕ) → IsHeld all before own beyond place from → place < length all → place < from + length own
  inside_held all before own beyond place from h few =
      let many = length_held all before own beyond place from h in
      below (length beyond) place (from + length own) h.ends (omega arith)
    where
      below : (n place end : ℕ) → (1 ≤ n → place < end) → place < end + n → place < end
      below zero place end ends low = omega arith
      below (suc n) place end ends low = ends (omega arith)

  pub get_held : (all before own beyond : List X) (place from : ℕ) → IsHeld all before own beyond place from → slice_get own (place - from) ≡ slice_get all place
  get_held all before own beyond place from h =
      let low : length before ≤ place = let e = h.start in let f = h.begun in omega arith in
      sym (ap (λ (l : List X). slice_get l place) h.parts ∙ get_right before (own ++ beyond) place low ∙ ap (λ n. slice_get (own ++ beyond) (place - n)) h.start ∙ inner beyond h.ends)
    where
      inner : (rest : List X) → (1 ≤ length rest → place < from + length own) → slice_get (own ++ rest) (place - from) ≡ slice_get own (place - from)
      inner [] ends = ap (λ (l : List X). slice_get l (place - from)) (append-nil own)
      inner (x ∷ rest) ends = let f = h.begun in let near : place < from + length own = ends (omega arith) in get_left own (x ∷ rest) (place - from) (omega arith)

  drop_held : (all before own beyond : List X) (place from : ℕ) → IsHeld all before own beyond place from → place ≤ length all → drop place all ≡ drop (place - from) own ++ beyond
  drop_held all before own beyond place from h few =
      let e = h.start in
      let f = h.begun in
      let near = within_held all before own beyond place from h few in
      ap (λ (l : List X). drop place l) h.parts ∙ drop_right before (own ++ beyond) place (omega arith) ∙ ap (λ n. drop (place - n) (own ++ beyond)) h.start
      ∙ drop_left own beyond (place - from) (omega arith)

  pub from_held : (all before own beyond : List X) (place from : ℕ) → IsHeld all before own beyond place from → place ≤ length all
      → drop (place - from) own ≡ take (length (drop (place - from) own)) (drop place all)
  from_held all before own beyond place from h few =
      sym (ap (λ (l : List X). take (length (drop (place - from) own)) l) (drop_held all before own beyond place from h few) ∙ take_front (drop (place - from) own) beyond)

  pub some_held : (all before own beyond : List X) (place from : ℕ) → IsHeld all before own beyond place from → place < length all → 1 ≤ length (drop (place - from) own)
  some_held all before own beyond place from h lt =
      let near = inside_held all before own beyond place from h lt in
      let f = h.begun in
      let many : length (drop (place - from) own) ≡ length own - (place - from) = length-drop (place - from) own in
      omega arith

  pub insert_held : (all before own beyond : List X) (place from : ℕ) (item : X) → IsHeld all before own beyond place from → place ≤ length all
      → insert all place item ≡ before ++ (insert own (place - from) item ++ beyond)
  insert_held all before own beyond place from item h few =
      let e = h.start in
      let f = h.begun in
      let near = within_held all before own beyond place from h few in
      ap (λ (l : List X). insert l place item) h.parts ∙ insert_right before (own ++ beyond) place item (omega arith)
      ∙ ap (λ n. before ++ insert (own ++ beyond) (place - n) item) h.start
      ∙ ap (λ (l : List X). before ++ l) (insert_left own beyond (place - from) item (omega arith))

  pub remove_held : (all before own beyond : List X) (place from : ℕ) → IsHeld all before own beyond place from → place < length all
      → remove all place ≡ before ++ (remove own (place - from) ++ beyond)
  remove_held all before own beyond place from h few =
      let e = h.start in
      let f = h.begun in
      let near = inside_held all before own beyond place from h few in
      ap (λ (l : List X). remove l place) h.parts ∙ remove_right before (own ++ beyond) place (omega arith)
      ∙ ap (λ n. before ++ remove (own ++ beyond) (place - n)) h.start
      ∙ ap (λ (l : List X). before ++ l) (remove_left own beyond (place - from) (omega arith))

  pub starts_within : (start : ℕ) (blocks : List (BlockParts X)) (k : ℕ) (d : BlockParts X) → AreLaid start blocks → k < length blocks
      → (get_or blocks k d).start + length (get_or blocks k d).items ≤ start + length (joined blocks)
  starts_within start [] k d h lt = absurd (omega arith)
  starts_within start (b ∷ bs) zero d h lt =
      let many : length (b.items ++ joined bs) ≡ length b.items + length (joined bs) = length-append b.items (joined bs) in
      let e = h.0 in omega arith
  starts_within start (b ∷ bs) (suc k) d h lt =
      let many : length (b.items ++ joined bs) ≡ length b.items + length (joined bs) = length-append b.items (joined bs) in
      let rest = starts_within (start + length b.items) bs k d h.4 (omega arith) in omega arith
