-- One more put in, one taken out, and one looked up, where a list is joined of two.
use Rattle.std.proofs.Common.{◌≡◌, ℕ, zero, suc, ◌+◌, ◌-◌, ◌<◌, ◌≤◌, List, [], ◌∷◌, ◌++◌, length, take, drop, map, set, get_or, slice_get, refl, sym, ap, ◌∙◌, arith, append_assoc}
use Rattle.std.proofs.lemmas.List.{take_more_set, drop-set-lt, drop_more, get_or-set_other, length-set, take_all, drop_all, append-nil}
use Rattle.std.specs.List.{insert, remove}

module _ {X : Type 0} where
  pub insert_left : (a b : List X) (i : ℕ) (x : X) → i ≤ length a → insert (a ++ b) i x ≡ insert a i x ++ b
  insert_left [] b zero x low = refl
  insert_left [] b (suc i) x low = absurd (omega arith)
  insert_left (y ∷ a) b zero x low = refl
  insert_left (y ∷ a) b (suc i) x low = ap (λ (l : List X). y ∷ l) (insert_left a b i x (omega arith))

  pub insert_right : (a b : List X) (i : ℕ) (x : X) → length a ≤ i → insert (a ++ b) i x ≡ a ++ insert b (i - length a) x
  insert_right [] b i x low = let e : i - 0 ≡ i = omega arith in rw e refl
  insert_right (y ∷ a) b zero x low = absurd (omega arith)
  insert_right (y ∷ a) b (suc i) x low =
      let e : suc i - suc (length a) ≡ i - length a = omega arith in
      rw e (ap (λ (l : List X). y ∷ l) (insert_right a b i x (omega arith)))

  pub remove_left : (a b : List X) (i : ℕ) → i < length a → remove (a ++ b) i ≡ remove a i ++ b
  remove_left [] b i low = absurd (omega arith)
  remove_left (y ∷ a) b zero low = refl
  remove_left (y ∷ a) b (suc i) low = ap (λ (l : List X). y ∷ l) (remove_left a b i (omega arith))

  pub remove_right : (a b : List X) (i : ℕ) → length a ≤ i → remove (a ++ b) i ≡ a ++ remove b (i - length a)
  remove_right [] b i low = let e : i - 0 ≡ i = omega arith in rw e refl
  remove_right (y ∷ a) b zero low = absurd (omega arith)
  remove_right (y ∷ a) b (suc i) low =
      let e : suc i - suc (length a) ≡ i - length a = omega arith in
      rw e (ap (λ (l : List X). y ∷ l) (remove_right a b i (omega arith)))

  pub get_left : (a b : List X) (i : ℕ) → i < length a → slice_get (a ++ b) i ≡ slice_get a i
  get_left [] b i low = absurd (omega arith)
  get_left (y ∷ a) b zero low = refl
  get_left (y ∷ a) b (suc i) low = get_left a b i (omega arith)

  pub get_right : (a b : List X) (i : ℕ) → length a ≤ i → slice_get (a ++ b) i ≡ slice_get b (i - length a)
  get_right [] b i low = let e : i - 0 ≡ i = omega arith in rw e refl
  get_right (y ∷ a) b zero low = absurd (omega arith)
  get_right (y ∷ a) b (suc i) low =
      let e : suc i - suc (length a) ≡ i - length a = omega arith in
      rw e (get_right a b i (omega arith))

  pub drop_left : (a b : List X) (i : ℕ) → i ≤ length a → drop i (a ++ b) ≡ drop i a ++ b
  drop_left [] b zero low = refl
  drop_left [] b (suc i) low = absurd (omega arith)
  drop_left (y ∷ a) b zero low = refl
  drop_left (y ∷ a) b (suc i) low = drop_left a b i (omega arith)

  pub drop_right : (a b : List X) (i : ℕ) → length a ≤ i → drop i (a ++ b) ≡ drop (i - length a) b
  drop_right [] b i low = let e : i - 0 ≡ i = omega arith in rw e refl
  drop_right (y ∷ a) b zero low = absurd (omega arith)
  drop_right (y ∷ a) b (suc i) low =
      let e : suc i - suc (length a) ≡ i - length a = omega arith in
      rw e (drop_right a b i (omega arith))

  pub take_front : (a b : List X) → take (length a) (a ++ b) ≡ a
  take_front [] b = refl
  take_front (y ∷ a) b = ap (λ (l : List X). y ∷ l) (take_front a b)

  -- ---- each item from a place on changed, one after another

  pub changed_more : (f : X → X) (xs : List X) (i : ℕ) (x y : X) (goal : List X) → i < length xs → x ≡ get_or xs i x → y ≡ f x
      → take i xs ++ map f (drop i xs) ≡ goal → take (i + 1) (set xs i y) ++ map f (drop (i + 1) (set xs i y)) ≡ goal
  changed_more f xs i x y goal low at is h =
      let front : take (i + 1) (set xs i y) ≡ take i xs ++ y ∷ [] = take_more_set xs i y low in
      let beyond : drop (i + 1) (set xs i y) ≡ drop (i + 1) xs = drop-set-lt (i + 1) xs i y (omega arith) in
      let here : drop i xs ≡ get_or xs i x ∷ drop (i + 1) xs = drop_more xs i x low in
      let there : map f (drop i xs) ≡ f x ∷ map f (drop (i + 1) xs) = ap (map f) here ∙ ap (λ z. f z ∷ map f (drop (i + 1) xs)) (sym at) in
      let joined : (take i xs ++ y ∷ []) ++ map f (drop (i + 1) xs) ≡ take i xs ++ (y ∷ map f (drop (i + 1) xs)) = append_assoc (take i xs) (y ∷ []) (map f (drop (i + 1) xs)) in
      let all : take i xs ++ (y ∷ map f (drop (i + 1) xs)) ≡ take i xs ++ map f (drop i xs) =
      ap (λ (l : List X). take i xs ++ l) (ap (λ z. z ∷ map f (drop (i + 1) xs)) is ∙ sym there) in
      rw (front, beyond) (joined ∙ all ∙ h)

  pub changed_all : (f : X → X) (xs : List X) (i : ℕ) (goal : List X) → length xs ≤ i → take i xs ++ map f (drop i xs) ≡ goal → xs ≡ goal
  changed_all f xs i goal low h =
      let front : take i xs ≡ xs = take_all i xs low in
      let beyond : drop i xs ≡ [] = drop_all i xs low in
      let end : take i xs ++ map f (drop i xs) ≡ xs = rw (front, beyond) (append-nil xs) in
      sym end ∙ h

  pub holds_further : (P : X → Type 0) (xs : List X) (i : ℕ) (y : X) → ((k : ℕ) (d : X) → i ≤ k → k < length xs → P (get_or xs k d))
      → (k : ℕ) (d : X) → i + 1 ≤ k → k < length (set xs i y) → P (get_or (set xs i y) k d)
  holds_further P xs i y h k d low lt =
      let same : length (set xs i y) ≡ length xs = length-set xs i y in
      rw (get_or-set_other xs i k y d (λ e. absurd (omega arith))) (h k d (omega arith) (omega arith))
