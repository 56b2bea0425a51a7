-- A list in blocks once one is taken out.
use Rattle.std.proofs.Common.{◌≡◌, ◌≢◌, ℕ, zero, suc, ◌+◌, ◌-◌, ◌<◌, ◌≤◌, List, [], ◌∷◌, ◌++◌, length, take, drop, map, set, get_or, refl, sym, ap, ◌∙◌, subst, arith, append_assoc, length-append}
use Rattle.std.proofs.lemmas.List.{get_or_at, length-take-le}
use Rattle.std.specs.List.{remove}
use Rattle.pay_blocks.specs.declared.limits.TheConstants.{MOST}
use Rattle.pay_blocks.specs.Parts.{BlockParts}
use Rattle.pay_blocks.specs.Laid.{lowered, joined, AreLaid, AreBlocks}
use Rattle.pay_blocks.proofs.Edits.{remove_right}
use Rattle.pay_blocks.proofs.Joins.{remove_held, inside_held, joined_append, joined_lowered, laid_append, laid_at, laid_before, laid_lowered}
use Rattle.pay_blocks.proofs.Changes.{IsFound, in_first, in_later, inside_first, exchanged, after_it, shape_items}

by_number : (P : Type 0) (n : ℕ) → (n ≡ 0 → P) → (1 ≤ n → P) → P
by_number P zero none some = none refl
by_number P (suc n) none some = some (omega arith)

module _ {X : Type 0} where
  length-remove : (xs : List X) (i : ℕ) → i < length xs → suc (length (remove xs i)) ≡ length xs
  length-remove [] i lt = absurd (omega arith)
  length-remove (x ∷ xs) zero lt = refl
  length-remove (x ∷ xs) (suc i) lt = ap suc (length-remove xs i (omega arith))

  remove_at : (front rest : List (BlockParts X)) (new : BlockParts X) (k : ℕ) → length front ≡ k → remove (front ++ new ∷ rest) k ≡ front ++ rest
  remove_at front rest new k e =
      let none : k - length front ≡ 0 = omega arith in
      remove_right front (new ∷ rest) k (omega arith) ∙ ap (λ m. front ++ remove (new ∷ rest) m) none

  pub removed_first : (first : BlockParts X) (later later2 : List (BlockParts X)) (all : List X) (place n : ℕ) (new : BlockParts X)
      → IsFound first.items later all place n → n ≡ 0 → place < length all → new.items ≡ remove first.items place → later2 ≡ map lowered later
      → new.items ++ joined later2 ≡ remove all place
  removed_first first later later2 all place n new f none lt e e2 =
      let zero_less : place - 0 ≡ place = omega arith in
      let taken : remove all place ≡ remove first.items (place - 0) ++ joined later = remove_held all [] first.items (joined later) place 0 (in_first first.items later all place n f none) lt in
      ap (λ (l : List (BlockParts X)). new.items ++ joined l) e2 ∙ ap (λ (l : List X). new.items ++ l) (joined_lowered later)
      ∙ ap (λ (l : List X). l ++ joined later) (e ∙ ap (λ m. remove first.items m) (sym zero_less)) ∙ sym taken

  pub kept_removed_first : (first : BlockParts X) (later later2 : List (BlockParts X)) (all : List X) (place n count room room2 spare_capacity spare_capacity2 blocks blocks2 : ℕ) (spare : List X) (new : BlockParts X)
      → AreBlocks first later count room spare spare_capacity blocks
      → IsFound first.items later all place n → n ≡ 0 → place < length all → new.start ≡ first.start → new.items ≡ remove first.items place → later2 ≡ map lowered later
      → room2 ≡ 0 → AreBlocks new later2 (count - 1) room2 spare spare_capacity2 blocks2
  kept_removed_first first later later2 all place n count room room2 spare_capacity spare_capacity2 blocks blocks2 spare new kept f none lt start e e2 no_room =
      let inside = inside_first first.items later all place n f none lt in
      let one_less : suc (length new.items) ≡ length first.items = ap (λ (l : List X). suc (length l)) e ∙ length-remove first.items place inside in
      let same : length (joined later2) ≡ length (joined later) = ap (λ (l : List (BlockParts X)). length (joined l)) e2 ∙ ap length (joined_lowered later) in
      let few = kept.few in
      record {
        start = start ∙ kept.start;
        few = omega arith;
        laid = subst (λ l. AreLaid (length new.items) l) (sym e2) (laid_lowered (length first.items) (length new.items) later (omega arith) f.laid);
        counted = let counted = kept.counted in omega arith;
        fits = let fits = kept.fits in omega arith;
        unused = kept.unused;
        ready = λ some. absurd (omega arith);
      }

  -- how the blocks lie once an item of one of them is taken out: where it had no other, it is taken out too
  pub record IsTakenOut (first : List X) (later later3 : List (BlockParts X)) (all : List X) (place n : ℕ) (old new : BlockParts X) : Type 0 where
    pub at : old ≡ get_or later (n - 1) old
    pub start : new.start ≡ old.start
    pub items : new.items ≡ remove old.items (place - old.start)
    pub capacity : new.capacity ≡ old.capacity
    pub empty : length new.items ≡ 0 → later3 ≡ take (n - 1) later ++ map lowered (drop (n - 1 + 1) later)
    pub kept : 1 ≤ length new.items → later3 ≡ take (n - 1) later ++ new ∷ map lowered (drop (n - 1 + 1) later)

  pub taken_out : (first : List X) (later later1 later2 later3 : List (BlockParts X)) (all : List X) (place n : ℕ) (old new : BlockParts X)
      → IsFound first later all place n → n ≢ 0 → old ≡ get_or later (n - 1) old → new.start ≡ old.start → new.items ≡ remove old.items (place - old.start) → new.capacity ≡ old.capacity
      → later1 ≡ set later (n - 1) new → later2 ≡ take n later1 ++ map lowered (drop n later1)
      → ((d : BlockParts X) → length (get_or later2 (n - 1) d).items ≡ 0 → later3 ≡ remove later2 (n - 1))
      → ((d : BlockParts X) → 1 ≤ length (get_or later2 (n - 1) d).items → later3 ≡ later2)
      → IsTakenOut first later later3 all place n old new
  taken_out first later later1 later2 later3 all place n old new f some at start items capacity e1 e2 empty kept =
      let w = f.within in
      let same : n ≡ n - 1 + 1 = omega arith in
      let front : length (take (n - 1) later) ≡ n - 1 = length-take-le (n - 1) later (omega arith) in
      let shape : later2 ≡ take (n - 1) later ++ new ∷ map lowered (drop (n - 1 + 1) later) =
      exchanged later later1 later2 (map lowered (drop (n - 1 + 1) later)) (n - 1) new (omega arith) e1
      (e2 ∙ ap (λ m. take m later1 ++ map lowered (drop m later1)) same ∙ ap (λ l. take (n - 1 + 1) later1 ++ map lowered l) (after_it later later1 (n - 1) new e1)) in
      let there : get_or later2 (n - 1) new ≡ new =
      ap (λ l. get_or l (n - 1) new) shape ∙ get_or_at (take (n - 1) later) new (map lowered (drop (n - 1 + 1) later)) new (n - 1) front in
      record {
        at = at;
        start = start;
        items = items;
        capacity = capacity;
        empty = λ none. empty new (ap (λ b. length b.items) there ∙ none) ∙ ap (λ l. remove l (n - 1)) shape
            ∙ remove_at (take (n - 1) later) (map lowered (drop (n - 1 + 1) later)) new (n - 1) front;
        kept = λ has. kept new (subst (λ b. 1 ≤ length b.items) (sym there) has) ∙ shape;
      }

  is_none : (xs : List X) → length xs ≡ 0 → xs ≡ []
  is_none [] e = refl
  is_none (x ∷ xs) e = absurd (omega arith)

  pub removed_later : (first : List X) (later later3 : List (BlockParts X)) (all : List X) (place n : ℕ) (old new : BlockParts X)
      → IsFound first later all place n → n ≢ 0 → place < length all → IsTakenOut first later later3 all place n old new → first ++ joined later3 ≡ remove all place
  removed_later first later later3 all place n old new f some lt out =
      let front = take (n - 1) later in
      let rest = drop (n - 1 + 1) later in
      let taken = remove_held _ _ _ _ _ _ (in_later first later all place n old f some out.at) lt in
      let shown : (first ++ joined front) ++ (new.items ++ joined rest) ≡ remove all place =
      ap (λ (l : List X). (first ++ joined front) ++ (l ++ joined rest)) out.items ∙ sym taken in
      by_number (first ++ joined later3 ≡ remove all place) (length new.items)
      (λ none. ap (λ l. first ++ joined l) (out.empty none) ∙ ap (λ (l : List X). first ++ l) (joined_append front (map lowered rest))
      ∙ ap (λ (l : List X). first ++ (joined front ++ l)) (joined_lowered rest) ∙ sym (append_assoc first (joined front) (joined rest))
      ∙ ap (λ (l : List X). (first ++ joined front) ++ (l ++ joined rest)) (sym (is_none new.items none)) ∙ shown)
      (λ has. ap (λ l. first ++ joined l) (out.kept has) ∙ shape_items first front (map lowered rest) new
      ∙ ap (λ (l : List X). (first ++ joined front) ++ (new.items ++ l)) (joined_lowered rest) ∙ shown)

  pub laid_removed : (first : List X) (later later3 : List (BlockParts X)) (all : List X) (place n : ℕ) (old new : BlockParts X)
      → IsFound first later all place n → n ≢ 0 → place < length all → IsTakenOut first later later3 all place n old new → AreLaid (length first) later3
  laid_removed first later later3 all place n old new f some lt out =
      let w = f.within in
      let front = take (n - 1) later in
      let rest = drop (n - 1 + 1) later in
      let there = laid_at (length first) later (n - 1) old f.laid (omega arith) out.at in
      let inside = inside_held _ _ _ _ _ _ (in_later first later all place n old f some out.at) lt in
      let begun : old.start ≤ place = subst (λ c. c.start ≤ place) (sym out.at) (f.begun (n - 1) old (omega arith)) in
      let one_less : suc (length new.items) ≡ length old.items = ap (λ (l : List X). suc (length l)) out.items ∙ length-remove old.items (place - old.start) (omega arith) in
      let from : old.start ≡ length first + length (joined front) = there.0 in
      let few : length old.items ≤ MOST = there.2 in
      let capacity : MOST ≤ new.capacity = let c = out.capacity in let d : MOST ≤ old.capacity = there.3 in omega arith in
      let beyond : AreLaid (length first + length (joined front) + length new.items) (map lowered rest) =
      laid_lowered (length first + length (joined front) + length old.items) (length first + length (joined front) + length new.items) rest (omega arith) there.4 in
      by_number (AreLaid (length first) later3) (length new.items)
      (λ none. let same : length first + length (joined front) + length new.items ≡ length first + length (joined front) = omega arith in
      subst (λ l. AreLaid (length first) l) (sym (out.empty none))
      (laid_append (length first) front (map lowered rest) (laid_before (length first) later (n - 1) f.laid) (subst (λ m. AreLaid m (map lowered rest)) same beyond)))
      (λ has. subst (λ l. AreLaid (length first) l) (sym (out.kept has))
      (laid_append (length first) front (new ∷ map lowered rest) (laid_before (length first) later (n - 1) f.laid)
      (out.start ∙ from, has, omega arith, capacity, beyond)))

  pub kept_removed : (first : BlockParts X) (later later3 : List (BlockParts X)) (all : List X) (place count room room2 spare_capacity spare_capacity2 blocks blocks2 : ℕ) (spare : List X)
      → AreBlocks first later count room spare spare_capacity blocks → first.items ++ joined later ≡ all → place < length all
      → first.items ++ joined later3 ≡ remove all place → AreLaid (length first.items) later3
      → room2 ≡ 0 → AreBlocks first later3 (count - 1) room2 spare spare_capacity2 blocks2
  kept_removed first later later3 all place count room room2 spare_capacity spare_capacity2 blocks blocks2 spare kept whole lt e laid no_room =
      let many : suc (length (first.items ++ joined later3)) ≡ length all = ap (λ (l : List X). suc (length l)) e ∙ length-remove all place lt in
      let before : length first.items + length (joined later) ≡ length all = sym (length-append first.items (joined later)) ∙ ap length whole in
      let after : length (first.items ++ joined later3) ≡ length first.items + length (joined later3) = length-append first.items (joined later3) in
      record {
        start = kept.start;
        few = kept.few;
        laid = laid;
        counted = let counted = kept.counted in omega arith;
        fits = let fits = kept.fits in omega arith;
        unused = kept.unused;
        ready = λ some. absurd (omega arith);
      }
