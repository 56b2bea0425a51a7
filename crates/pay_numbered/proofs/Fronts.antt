-- A list whose front lies apart.
use Rattle.std.proofs.Common.{◌≡◌, ℕ, ◌+◌, ◌-◌, ◌<◌, ◌≤◌, Bool, true, false, List, ◌++◌, length, get_or, take, drop, insert, remove, refl, sym, ap, ◌∙◌, subst, arith, ltb, ltb-true, ltb-false, take-add, length-take, length-drop, length-append, get_or-append-add}
use Rattle.std.proofs.lemmas.List.{get_or_append_left}
use Rattle.std.proofs.lemmas.List.Edits.{insert-append_right, remove-append_right}
use Rattle.std.specs.List.Sorted.{IsPartitionedBy, IsPartitionPoint}
use Rattle.std.proofs.Math.Seq.{drop-append-add}

module _ {X : Type 0} where
  -- ---- what stands after the front

  pub dropped_after : (front rest all : List X) (place : ℕ) → front ++ rest ≡ all → length front ≤ place → drop (place - length front) rest ≡ drop place all
  dropped_after front rest all place whole low =
      let at : length front + (place - length front) ≡ place = omega arith in
      sym (drop-append-add front rest (place - length front)) ∙ ap (λ n. drop n (front ++ rest)) at ∙ ap (λ l. drop place l) whole

  pub removed_after : (front rest after2 all : List X) (n place : ℕ) → front ++ rest ≡ all → n ≡ length front → n ≤ place → after2 ≡ remove rest (place - n) → front ++ after2 ≡ remove all place
  removed_after front rest after2 all n place whole long low is =
      ap (λ l. front ++ l) is ∙ sym (remove-append_right front rest n place (sym long) low) ∙ ap (λ l. remove l place) whole

  pub inserted_after : (front rest after2 all : List X) (n place : ℕ) (x : X) → front ++ rest ≡ all → n ≡ length front → n ≤ place → after2 ≡ insert rest (place - n) x → front ++ after2 ≡ insert all place x
  inserted_after front rest after2 all n place x whole long low is =
      ap (λ l. front ++ l) is ∙ sym (insert-append_right front rest n place x (sym long) low) ∙ ap (λ l. insert l place x) whole

  -- ---- where a test ends to hold

  pub parted_after : (p : X → Bool) (front rest all : List X) → front ++ rest ≡ all → IsPartitionedBy p all → IsPartitionedBy p rest
  parted_after p front rest all whole h i j d low lt e =
      let parted : IsPartitionedBy p (front ++ rest) = subst (IsPartitionedBy p) (sym whole) h in
      let many = length-append front rest in
      sym (ap p (get_or-append-add front rest i d)) ∙ parted (length front + i) (length front + j) d (omega arith) (omega arith) (ap p (get_or-append-add front rest j d) ∙ e)

  -- it ends where it holds of all before, and not of the one there
  point : (p : X → Bool) (list : List X) (n : ℕ) → IsPartitionedBy p list → ((k : ℕ) (d : X) → k < n → p (get_or list k d) ≡ true)
      → ((d : X) → n < length list → p (get_or list n d) ≡ false) → IsPartitionPoint (λ x. p x ≡ true) (λ x. p x ≡ false) list n
  point p list n h before there = ((λ k d low lt. before k d lt), (λ k d low lt. ends k d low lt))
    where
      ends : (k : ℕ) (d : X) → n ≤ k → k < length list → p (get_or list k d) ≡ false
      ends k d low lt = elim (p (get_or list k d)) as (λ b. p (get_or list k d) ≡ b → b ≡ false) [
        | false ↦ λ e. refl
        | true ↦ λ e. let holds : p (get_or list n d) ≡ true = h n k d low lt e in let not : p (get_or list n d) ≡ false = there d (omega arith) in absurd (cc)
      ] refl

  pub point_in_front : (p : X → Bool) (front rest all : List X) (n : ℕ) → front ++ rest ≡ all → IsPartitionedBy p all → IsPartitionPoint (λ x. p x ≡ true) (λ x. p x ≡ false) front n
      → n < length front → IsPartitionPoint (λ x. p x ≡ true) (λ x. p x ≡ false) all n
  point_in_front p front rest all n whole h at lt =
      subst (λ (l : List X). IsPartitionPoint (λ x. p x ≡ true) (λ x. p x ≡ false) l n) whole
      (point p (front ++ rest) n (subst (IsPartitionedBy p) (sym whole) h)
      (λ k d low. ap p (get_or_append_left front rest d k (omega arith)) ∙ at.0 k d (omega arith) low)
      (λ d few. ap p (get_or_append_left front rest d n lt) ∙ at.1 n d (omega arith) lt))

  pub point_after : (p : X → Bool) (front rest all : List X) (n m : ℕ) → front ++ rest ≡ all → IsPartitionedBy p all → IsPartitionPoint (λ x. p x ≡ true) (λ x. p x ≡ false) front n
      → n ≡ length front → IsPartitionPoint (λ x. p x ≡ true) (λ x. p x ≡ false) rest m → m ≤ length rest → IsPartitionPoint (λ x. p x ≡ true) (λ x. p x ≡ false) all (n + m)
  point_after p front rest all n m whole h at long further few =
      subst (λ (l : List X). IsPartitionPoint (λ x. p x ≡ true) (λ x. p x ≡ false) l (n + m)) whole (before, after)
    where
      other : (k : ℕ) (d : X) → length front ≤ k → get_or (front ++ rest) k d ≡ get_or rest (k - length front) d
      other k d low =
          let at : length front + (k - length front) ≡ k = omega arith in
          ap (λ i. get_or (front ++ rest) i d) (sym at) ∙ get_or-append-add front rest (k - length front) d

      before : (k : ℕ) (d : X) → 0 ≤ k → k < n + m → p (get_or (front ++ rest) k d) ≡ true
      before k d low lt = elim (ltb k (length front)) as (λ b. ltb k (length front) ≡ b → p (get_or (front ++ rest) k d) ≡ true) [
        | true ↦ λ e. let less = ltb-true k (length front) e in ap p (get_or_append_left front rest d k less) ∙ at.0 k d low (omega arith)
        | false ↦ λ e. let more = ltb-false k (length front) e in ap p (other k d more) ∙ further.0 (k - length front) d (omega arith) (omega arith)
      ] refl

      after : (k : ℕ) (d : X) → n + m ≤ k → k < length (front ++ rest) → p (get_or (front ++ rest) k d) ≡ false
      after k d low lt =
          let many = length-append front rest in
          ap p (other k d (omega arith)) ∙ further.1 (k - length front) d (omega arith) (omega arith)

  -- ---- all of it, copied piece by piece

  pub copied_more : (all done done2 piece : List X) → done ≡ take (length done) all → length done ≤ length all → piece ≡ take (length piece) (drop (length done) all) → done2 ≡ done ++ piece
      → (done2 ≡ take (length done2) all) × (length done2 ≤ length all)
  copied_more all done done2 piece is few more added =
      let many : length done2 ≡ length done + length piece = ap length added ∙ length-append done piece in (
        added ∙ ap (λ l. l ++ piece) is ∙ ap (λ l. take (length done) all ++ l) more ∙ sym (take-add (length done) (length piece) all) ∙ ap (λ n. take n all) (sym many),
        omega (arith, ap length more, length-take (length piece) (drop (length done) all), length-drop (length done) all),
      )
