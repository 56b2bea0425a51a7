-- Where a test ends to hold in a list in blocks.
use Rattle.std.proofs.Common.{◌≡◌, ◌≢◌, ℕ, zero, suc, ◌+◌, ◌-◌, ◌<◌, ◌≤◌, Bool, true, false, List, [], ◌∷◌, ◌++◌, length, take, drop, get_or, refl, sym, ap, ◌∙◌, subst, arith, append_assoc, length-append}
use Rattle.std.proofs.lemmas.List.{get_or_append_left, get_or-append_right, get_or-drop, length-drop, append-nil, drop_all, drop_more}
use Rattle.std.specs.List.Sorted.{IsPartitionedBy, IsPartitionPoint}
use Rattle.pay_blocks.specs.Parts.{BlockParts}
use Rattle.pay_blocks.specs.Laid.{begins, joined, AreLaid}
use Rattle.pay_blocks.proofs.Partitions.{parted_at}
use Rattle.pay_blocks.proofs.Joins.{joined_at, laid_at, starts_rise, starts_within}
use Rattle.pay_blocks.proofs.Changes.{its_own}

by_end : (P : Type 0) (m n : ℕ) → m ≤ n → (m < n → P) → (m ≡ n → P) → P
by_end P zero zero low inside at = at refl
by_end P zero (suc n) low inside at = inside (omega arith)
by_end P (suc m) zero low inside at = absurd (omega arith)
by_end P (suc m) (suc n) low inside at = by_end P m n (omega arith) (λ lt. inside (omega arith)) (λ e. at (ap suc e))

module _ {X : Type 0} where
  -- an item of a part
  own_item : (before own beyond all : List X) (m : ℕ) (d : X) → all ≡ before ++ (own ++ beyond) → m < length own → get_or all (length before + m) d ≡ get_or own m d
  own_item before own beyond all m d e lt =
      let back : length before + m - length before ≡ m = omega arith in
      ap (λ (l : List X). get_or l (length before + m) d) e ∙ get_or-append_right before (own ++ beyond) (length before) (length before + m) d refl (omega arith)
      ∙ ap (λ k. get_or (own ++ beyond) k d) back ∙ get_or_append_left own beyond d m lt

  -- and the one after it
  next_item : (before own beyond all : List X) (d : X) → all ≡ before ++ (own ++ beyond) → get_or all (length before + length own) d ≡ get_or beyond 0 d
  next_item before own beyond all d e =
      let back : length before + length own - length before ≡ length own = omega arith in
      let none : length own - length own ≡ 0 = omega arith in
      ap (λ (l : List X). get_or l (length before + length own) d) e ∙ get_or-append_right before (own ++ beyond) (length before) (length before + length own) d refl (omega arith)
      ∙ ap (λ k. get_or (own ++ beyond) k d) back ∙ get_or-append_right own beyond (length own) (length own) d refl (omega arith) ∙ ap (λ k. get_or beyond k d) none

  -- where the test ends to hold in a part, it ends to hold in all
  pub found_part : (p : X → Bool) (before own beyond all : List X) (m : ℕ) → all ≡ before ++ (own ++ beyond) → IsPartitionedBy p all → m ≤ length own
      → IsPartitionPoint (λ x. p x ≡ true) (λ x. p x ≡ false) own m → (m ≡ 0 → length before ≡ 0) → begins p beyond ≡ false
      → IsPartitionPoint (λ x. p x ≡ true) (λ x. p x ≡ false) all (length before + m)
  found_part p before own beyond all m e parted few point none next =
      let many : length all ≡ length before + (length own + length beyond) = ap length e ∙ length-append before (own ++ beyond) ∙ ap (λ k. length before + k) (length-append own beyond) in
      parted_at p all (length before + m) parted (omega arith) (λ d some. held m none point d some few) (λ d lt. by_end (p (get_or all (length before + m) d) ≡ false) m (length own) few
      (λ inside. ap p (own_item before own beyond all m d e inside) ∙ point.1 m d (omega arith) inside)
      (λ at. ap (λ k. p (get_or all (length before + k) d)) at ∙ ap p (next_item before own beyond all d e) ∙ first_after beyond d next (omega arith)))
    where
      held : (m : ℕ) → (m ≡ 0 → length before ≡ 0) → IsPartitionPoint (λ x. p x ≡ true) (λ x. p x ≡ false) own m → (d : X) → 1 ≤ length before + m → m ≤ length own
          → p (get_or all (length before + m - 1) d) ≡ true
      held zero none point d some few = let empty : length before ≡ 0 = none refl in absurd (omega arith)
      held (suc m) none point d some few =
          let at : length before + suc m - 1 ≡ length before + m = omega arith in
          ap (λ k. p (get_or all k d)) at ∙ ap p (own_item before own beyond all m d e (omega arith)) ∙ point.0 m d (omega arith) (omega arith)

      first_after : (beyond : List X) (d : X) → begins p beyond ≡ false → 1 ≤ length beyond → p (get_or beyond 0 d) ≡ false
      first_after [] d fails some = absurd (omega arith)
      first_after (x ∷ xs) d fails some = fails

  begins_first : (p : X → Bool) (own : List X) (d : X) → 1 ≤ length own → begins p own ≡ p (get_or own 0 d)
  begins_first p [] d some = absurd (omega arith)
  begins_first p (x ∷ xs) d some = refl

  laid_some : (start : ℕ) (blocks : List (BlockParts X)) (k : ℕ) (d : BlockParts X) → AreLaid start blocks → k < length blocks → 1 ≤ length (get_or blocks k d).items
  laid_some start [] k d h lt = absurd (omega arith)
  laid_some start (b ∷ bs) zero d h lt = h.1
  laid_some start (b ∷ bs) (suc k) d h lt = laid_some (start + length b.items) bs k d h.4 (omega arith)

  -- a list as what stands before a block, the block's items, and what stands after
  pub parts_of : (first : List X) (later : List (BlockParts X)) (all : List X) (k : ℕ) (b : BlockParts X) → first ++ joined later ≡ all → k < length later → b ≡ get_or later k b
      → all ≡ (first ++ joined (take k later)) ++ (b.items ++ joined (drop (k + 1) later))
  parts_of first later all k b whole lt at =
      sym whole ∙ ap (λ (l : List X). first ++ l) (joined_at later k b lt at) ∙ sym (append_assoc first (joined (take k later)) (b.items ++ joined (drop (k + 1) later)))

  pub start_of : (first : List X) (later : List (BlockParts X)) (k : ℕ) (b : BlockParts X) → AreLaid (length first) later → k < length later → b ≡ get_or later k b
      → length (first ++ joined (take k later)) ≡ b.start
  start_of first later k b laid lt at = length-append first (joined (take k later)) ∙ sym (laid_at (length first) later k b laid lt at).0

  -- the first item of a block stands where that begins
  first_at : (first : List X) (later : List (BlockParts X)) (all : List X) (k : ℕ) (b : BlockParts X) (d : X) → AreLaid (length first) later → first ++ joined later ≡ all
      → k < length later → b ≡ get_or later k b → get_or all b.start d ≡ get_or b.items 0 d
  first_at first later all k b d laid whole lt at =
      let some : 1 ≤ length b.items = subst (λ c. 1 ≤ length c.items) (sym at) (laid_some (length first) later k b laid lt) in
      let same : b.start ≡ length (first ++ joined (take k later)) + 0 = sym (start_of first later k b laid lt at) ∙ omega arith in
      ap (λ n. get_or all n d) same ∙ own_item (first ++ joined (take k later)) b.items (joined (drop (k + 1) later)) all 0 d (parts_of first later all k b whole lt at) some

  -- blocks are parted by their first items
  pub parted_blocks : (p : X → Bool) (first : List X) (later : List (BlockParts X)) (all : List X) → AreLaid (length first) later → first ++ joined later ≡ all → IsPartitionedBy p all
      → IsPartitionedBy (λ block. begins p block.items) later
  parted_blocks p first later all laid whole parted i j d low lt holds =
      inner (get_or later j d).items refl
    where
      inner : (own : List X) → (get_or later j d).items ≡ own → begins p (get_or later i d).items ≡ true
      inner [] e = let fails : begins p (get_or later j d).items ≡ false = ap (begins p) e in absurd (cc)
      inner (x ∷ xs) e =
          let b = get_or later i d in
          let c = get_or later j d in
          let at_b : b ≡ get_or later i b = its_own later i d (omega arith) in
          let at_c : c ≡ get_or later j c = its_own later j d lt in
          let some_b : 1 ≤ length b.items = laid_some (length first) later i d laid (omega arith) in
          let some_c : 1 ≤ length c.items = laid_some (length first) later j d laid lt in
          let far : b.start ≤ c.start = starts_rise (length first) later i j d laid low lt in
          let ends : c.start + length c.items ≤ length first + length (joined later) = starts_within (length first) later j d laid lt in
          let many : length all ≡ length first + length (joined later) = sym (ap length whole) ∙ length-append first (joined later) in
          let there : p (get_or all c.start x) ≡ true = ap p (first_at first later all j c x laid whole lt at_c) ∙ sym (begins_first p c.items x some_c) ∙ holds in
          begins_first p b.items x some_b ∙ ap p (sym (first_at first later all i b x laid whole (omega arith) at_b)) ∙ parted b.start c.start x far (omega arith) there

  begins_joined : (p : X → Bool) (start : ℕ) (rest : List (BlockParts X)) → AreLaid start rest → ((d : BlockParts X) → 0 < length rest → begins p (get_or rest 0 d).items ≡ false)
      → begins p (joined rest) ≡ false
  begins_joined p start [] laid fails = refl
  begins_joined p start (b ∷ bs) laid fails = inner b.items refl (fails b (omega arith))
    where
      inner : (own : List X) → b.items ≡ own → begins p b.items ≡ false → begins p (b.items ++ joined bs) ≡ false
      inner [] e f = let some : 1 ≤ length b.items = laid.1 in let none : length b.items ≡ 0 = ap length e in absurd (omega arith)
      inner (x ∷ xs) e f = ap (λ (l : List X). begins p (l ++ joined bs)) e ∙ sym (ap (begins p) e) ∙ f

  pub place_first : (p : X → Bool) (first : List X) (later : List (BlockParts X)) (all : List X) (n m : ℕ) → AreLaid (length first) later → first ++ joined later ≡ all → IsPartitionedBy p all
      → IsPartitionPoint (λ block. begins p block.items ≡ true) (λ block. begins p block.items ≡ false) later n → n ≡ 0
      → m ≤ length first → IsPartitionPoint (λ x. p x ≡ true) (λ x. p x ≡ false) first m → IsPartitionPoint (λ x. p x ≡ true) (λ x. p x ≡ false) all m
  place_first p first later all n m laid whole parted blocks none few point =
      let same : 0 + m ≡ m = omega arith in
      subst (λ k. IsPartitionPoint (λ x. p x ≡ true) (λ x. p x ≡ false) all k) same
      (found_part p [] first (joined later) all m (sym whole) parted few point (λ z. refl)
      (begins_joined p (length first) later laid (λ d some. blocks.1 0 d (omega arith) some)))

  pub place_later : (p : X → Bool) (first : List X) (later : List (BlockParts X)) (all : List X) (n m : ℕ) (b : BlockParts X) → AreLaid (length first) later → first ++ joined later ≡ all → IsPartitionedBy p all
      → IsPartitionPoint (λ block. begins p block.items ≡ true) (λ block. begins p block.items ≡ false) later n → n ≤ length later → n ≢ 0 → b ≡ get_or later (n - 1) b
      → m ≤ length b.items → IsPartitionPoint (λ x. p x ≡ true) (λ x. p x ≡ false) b.items m → IsPartitionPoint (λ x. p x ≡ true) (λ x. p x ≡ false) all (b.start + m)
  place_later p first later all n m b laid whole parted blocks within some at few point =
      let rest : length (drop (n - 1 + 1) later) ≡ length later - (n - 1 + 1) = length-drop (n - 1 + 1) later in
      subst (λ k. IsPartitionPoint (λ x. p x ≡ true) (λ x. p x ≡ false) all (k + m)) (start_of first later (n - 1) b laid (omega arith) at)
      (found_part p (first ++ joined (take (n - 1) later)) b.items (joined (drop (n - 1 + 1) later)) all m (parts_of first later all (n - 1) b whole (omega arith) at) parted few point
      (λ z. absurd (not_first b.items refl z))
      (begins_joined p _ (drop (n - 1 + 1) later) (laid_at (length first) later (n - 1) b laid (omega arith) at).4
      (λ d has. ap (λ c. begins p c.items) (get_or-drop (n - 1 + 1) later 0 d) ∙ blocks.1 (n - 1 + 1 + 0) d (omega arith) (omega arith))))
    where
      first_holds : begins p b.items ≡ true
      first_holds = subst (λ c. begins p c.items ≡ true) (sym at) (blocks.0 (n - 1) b (omega arith) (omega arith))

      not_first : (own : List X) → b.items ≡ own → m ≡ 0 → ⊥
      not_first [] e z = let fails : begins p b.items ≡ false = ap (begins p) e in let y : begins p b.items ≡ true = first_holds in absurd (cc)
      not_first (x ∷ xs) e z =
          let holds : p x ≡ true = sym (ap (begins p) e) ∙ first_holds in
          let many : length b.items ≡ suc (length xs) = ap length e in
          let fails : p (get_or b.items 0 x) ≡ false = point.1 0 x (omega arith) (omega arith) in
          let same : get_or b.items 0 x ≡ x = ap (λ (l : List X). get_or l 0 x) e in
          absurd (cc (ap p same))

  pub place_within : (first : List X) (later : List (BlockParts X)) (all : List X) (n m : ℕ) (b : BlockParts X) → AreLaid (length first) later → first ++ joined later ≡ all
      → n ≤ length later → n ≢ 0 → b ≡ get_or later (n - 1) b → m ≤ length b.items → b.start + m ≤ length all
  place_within first later all n m b laid whole within some at few =
      let ends : b.start + length b.items ≤ length first + length (joined later) =
      subst (λ c. c.start + length c.items ≤ length first + length (joined later)) (sym at) (starts_within (length first) later (n - 1) b laid (omega arith)) in
      let many : length all ≡ length first + length (joined later) = sym (ap length whole) ∙ length-append first (joined later) in
      omega arith

  -- ---- all items, block by block

  pub list_begun : (made shown first new : List X) (moved later : List (BlockParts X)) (all : List X) → made ≡ [] → shown ≡ first → new ≡ made ++ shown → moved ≡ later
      → first ++ joined later ≡ all → new ++ joined moved ≡ all
  list_begun made shown first new moved later all none same e moves whole =
      ap (λ (l : List X). l ++ joined moved) (e ∙ ap (λ (l : List X). l ++ shown) none ∙ same) ∙ ap (λ l. first ++ joined l) moves ∙ whole

  pub list_more : (now shown new : List X) (moved : List (BlockParts X)) (all : List X) (i : ℕ) (b : BlockParts X) → i < length moved → b ≡ get_or moved i b → shown ≡ b.items → new ≡ now ++ shown
      → now ++ joined (drop i moved) ≡ all → new ++ joined (drop (i + 1) moved) ≡ all
  list_more now shown new moved all i b lt at same e whole =
      let next : drop i moved ≡ b ∷ drop (i + 1) moved = drop_more moved i b lt ∙ ap (λ c. c ∷ drop (i + 1) moved) (sym at) in
      ap (λ (l : List X). l ++ joined (drop (i + 1) moved)) (e ∙ ap (λ (l : List X). now ++ l) same) ∙ append_assoc now b.items (joined (drop (i + 1) moved))
      ∙ ap (λ l. now ++ joined l) (sym next) ∙ whole

  pub list_done : (now : List X) (moved : List (BlockParts X)) (all : List X) (i : ℕ) → length moved ≤ i → now ++ joined (drop i moved) ≡ all → now ≡ all
  list_done now moved all i low whole = sym (append-nil now) ∙ ap (λ l. now ++ joined l) (sym (drop_all i moved low)) ∙ whole
