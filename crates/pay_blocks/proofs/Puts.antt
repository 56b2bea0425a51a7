-- One more put into a block.
use Rattle.std.proofs.Common.{◌≡◌, ℕ, zero, suc, ◌+◌, ◌-◌, ◌<◌, ◌≤◌, List, [], ◌∷◌, ◌++◌, length, take, drop, Some, refl, sym, ap, ◌∙◌, arith}
use Rattle.std.proofs.lemmas.List.{append-nil, take-append-drop, length-take-le, length-drop, take_rest}
use Rattle.std.specs.List.{insert}
use Rattle.pay_blocks.specs.declared.limits.TheConstants.{HALF, MOST}
use Rattle.pay_blocks.specs.Parts.{BlockParts}
use Rattle.pay_blocks.specs.Laid.{raised, IsPut}
use Rattle.pay_blocks.proofs.Edits.{insert_left, insert_right}

module _ {X : Type 0} where
  pub length-insert : (xs : List X) (i : ℕ) (x : X) → i ≤ length xs → length (insert xs i x) ≡ suc (length xs)
  length-insert xs zero x low = refl
  length-insert [] (suc i) x low = absurd (omega arith)
  length-insert (y ∷ xs) (suc i) x low = ap suc (length-insert xs i x (omega arith))

  pub put_low : (old : BlockParts X) (offset : ℕ) (item : X) (kept given new next : BlockParts X) → length old.items ≡ MOST → offset ≤ HALF
      → kept.start ≡ old.start → kept.items ≡ take HALF old.items → kept.capacity ≡ old.capacity
      → given.start ≡ old.start + HALF → given.items ≡ drop HALF old.items → MOST ≤ given.capacity
      → new.start ≡ kept.start → new.items ≡ insert kept.items offset item → new.capacity ≡ kept.capacity → next ≡ raised given
      → IsPut old offset item new (Some next)
  put_low old offset item kept given new next many low k1 k2 k3 g1 g2 g3 n1 n2 n3 up =
      let halves : take HALF old.items ++ drop HALF old.items ≡ old.items = take-append-drop HALF old.items in
      let kept_many : length (take HALF old.items) ≡ HALF = length-take-le HALF old.items (omega arith) in
      let given_many : length (drop HALF old.items) ≡ length old.items - HALF = length-drop HALF old.items in
      let new_is : new.items ≡ insert (take HALF old.items) offset item = n2 ∙ ap (λ (l : List X). insert l offset item) k2 in
      let new_many : length new.items ≡ suc HALF = ap length new_is ∙ length-insert (take HALF old.items) offset item (omega arith) ∙ ap suc kept_many in
      let next_is : next.items ≡ drop HALF old.items = ap (λ b. b.items) up ∙ g2 in
      let next_many : length next.items ≡ length old.items - HALF = ap length next_is ∙ given_many in
      let next_start : next.start ≡ given.start + 1 = ap (λ b. b.start) up in
      let next_capacity : next.capacity ≡ given.capacity = ap (λ b. b.capacity) up in
      let all : new.items ++ next.items ≡ insert old.items offset item =
      rw (new_is, next_is) (sym (insert_left (take HALF old.items) (drop HALF old.items) offset item (omega arith)) ∙ ap (λ (l : List X). insert l offset item) halves) in
      record {
        start = n1 ∙ k1;
        items = ap (λ (l : List X). new.items ++ l) (append-nil next.items) ∙ all;
        some = omega arith;
        few = omega arith;
        capacity = omega arith;
        beyond = (omega arith, omega arith, omega arith, omega arith, tt);
        full = λ _. omega arith;
      }

  pub put_high : (old : BlockParts X) (offset : ℕ) (item : X) (kept given next : BlockParts X) → length old.items ≡ MOST → offset ≤ length old.items → HALF < offset
      → kept.start ≡ old.start → kept.items ≡ take HALF old.items → kept.capacity ≡ old.capacity
      → given.start ≡ old.start + HALF → given.items ≡ drop HALF old.items → MOST ≤ given.capacity
      → next.start ≡ given.start → next.items ≡ insert given.items (offset - HALF) item → next.capacity ≡ given.capacity
      → IsPut old offset item kept (Some next)
  put_high old offset item kept given next many within high k1 k2 k3 g1 g2 g3 n1 n2 n3 =
      let halves : take HALF old.items ++ drop HALF old.items ≡ old.items = take-append-drop HALF old.items in
      let take_many : length (take HALF old.items) ≡ HALF = length-take-le HALF old.items (omega arith) in
      let kept_many : length kept.items ≡ HALF = ap length k2 ∙ take_many in
      let given_many : length (drop HALF old.items) ≡ length old.items - HALF = length-drop HALF old.items in
      let next_is : next.items ≡ insert (drop HALF old.items) (offset - HALF) item = n2 ∙ ap (λ (l : List X). insert l (offset - HALF) item) g2 in
      let next_many : length next.items ≡ suc (length old.items - HALF) = ap length next_is ∙ length-insert (drop HALF old.items) (offset - HALF) item (omega arith) ∙ ap suc given_many in
      let right : insert (take HALF old.items ++ drop HALF old.items) offset item ≡ take HALF old.items ++ insert (drop HALF old.items) (offset - length (take HALF old.items)) item =
      insert_right (take HALF old.items) (drop HALF old.items) offset item (omega arith) in
      let all : kept.items ++ next.items ≡ insert old.items offset item =
      rw (k2, next_is) (sym (right ∙ ap (λ n. take HALF old.items ++ insert (drop HALF old.items) (offset - n) item) take_many) ∙ ap (λ (l : List X). insert l offset item) halves) in
      record {
        start = k1;
        items = ap (λ (l : List X). kept.items ++ l) (append-nil next.items) ∙ all;
        some = omega arith;
        few = omega arith;
        capacity = omega arith;
        beyond = (omega arith, omega arith, omega arith, omega arith, tt);
        full = λ _. omega arith;
      }

  pub put_last : (old : BlockParts X) (item : X) (next : BlockParts X) → length old.items ≡ MOST
      → next.start ≡ old.start + MOST → next.items ≡ item ∷ [] → MOST ≤ next.capacity → IsPut old MOST item old (Some next)
  put_last old item next many n1 n2 n3 =
      let one : length next.items ≡ 1 = ap length n2 in
      let right : insert (old.items ++ []) MOST item ≡ old.items ++ insert [] (MOST - length old.items) item = insert_right old.items [] MOST item (omega arith) in
      let none : MOST - length old.items ≡ 0 = omega arith in
      record {
        start = refl;
        items = rw n2 (sym (ap (λ (l : List X). insert l MOST item) (sym (append-nil old.items)) ∙ right ∙ ap (λ n. old.items ++ insert [] n item) none));
        some = omega arith;
        few = omega arith;
        capacity = omega arith;
        beyond = (omega arith, omega arith, omega arith, omega arith, tt);
        full = λ _. omega arith;
      }

  -- what is copied after nothing
  pub copied_rest : (spare all own new : List X) (n : ℕ) → spare ≡ [] → all ≡ own → new ≡ spare ++ take (length all - n) (drop n all) → new ≡ drop n own
  copied_rest spare all own new n none same e =
      e ∙ ap (λ (l : List X). l ++ take (length all - n) (drop n all)) none ∙ take_rest all n ∙ ap (λ (l : List X). drop n l) same
