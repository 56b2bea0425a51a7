-- Two lanes and a worker that have gone on.
use Rattle.std.proofs.Common.{◌≡◌, ℕ, ◌<◌, List, [], ◌∷◌, ◌++◌, length, All, Any, get_or, Option, Some, option_to_list, Result, Ok, is_ok, if◌then◌else◌, sym, ap, ◌∙◌, subst, append_assoc, arith}
use Rattle.std.specs.List.{AllZip}
use Rattle.std.proofs.Math.Seq.{get_or-append_seam}
use Rattle.std.proofs.lemmas.List.{length-append, get_or_append_left, get_or_default}
use Rattle.std.proofs.lemmas.List.Elements.{All-append, All-cons, All-head, All-tail}
use Rattle.pay_lanes.specs.Words.{LaneParts, WorkerParts, IsSameLane, IsSameWorker, GoOn}

-- what was popped stood last
pub popped : {X : Type 0} (all rest : List X) (o : Option X) (x : X) → all ≡ rest ++ option_to_list o → o ≡ Some x → all ≡ rest ++ x ∷ []
popped all rest o x is some = is ∙ ap (λ p. rest ++ option_to_list p) some

module _ {X : Type 0} (P : X → Type 0) where
  none : All P []
  none k d within = absurd (omega arith)

  -- what holds of a list holds of its last one, and of those before it
  pub of_last : (xs : List X) (x : X) → All P (xs ++ x ∷ []) → P x × All P xs
  of_last [] x all = (All-head P x [] all, none)
  of_last (y ∷ xs) x all =
      let rest : P x × All P xs = of_last xs x (All-tail P y (xs ++ x ∷ []) all) in
      (rest.0, All-cons P y xs (All-head P y (xs ++ x ∷ []) all) rest.1)

  -- one of them holds
  pub one_holds : (xs : List X) (x : X) (ys : List X) → P x → Any P (xs ++ x ∷ ys)
  one_holds xs x ys holds = let long = length-append xs (x ∷ ys) in (length xs, x, omega arith, get_or-append_seam xs x ys x, holds)

  pub one_of_first : (xs ys : List X) (k : ℕ) (d : X) → k < length xs → P (get_or xs k d) → Any P (xs ++ ys)
  one_of_first xs ys k d within holds =
      let e : X = get_or xs k d in
      let long = length-append xs ys in
      (k, e, omega arith, get_or_append_left xs ys e k within ∙ get_or_default xs k e d within, holds)

-- one of the lanes has gone on as this one
abbrev pub GoesOn : List LaneParts → LaneParts → Type 0
GoesOn ls after = Any (λ before. IsSameLane before after) ls

module _ (lane_itself : (l : LaneParts) → IsSameLane l l) (worker_itself : (w : WorkerParts) → IsSameWorker w w) where
  workers_go_on : (ws : List WorkerParts) (w v : WorkerParts) → IsSameWorker w v → AllZip IsSameWorker (ws ++ w ∷ []) (ws ++ v ∷ [])
  workers_go_on [] w v same = (same, tt)
  workers_go_on (x ∷ ws) w v same = (worker_itself x, workers_go_on ws w v same)

  -- the last two, of which each has gone on, in the other order
  lanes_go_on : (ls : List LaneParts) (l m k n : LaneParts) → IsSameLane l k → IsSameLane m n → All (GoesOn ((ls ++ l ∷ []) ++ m ∷ [])) ((ls ++ n ∷ []) ++ k ∷ [])
  lanes_go_on ls l m k n first second =
      let P : LaneParts → Type 0 = GoesOn ((ls ++ l ∷ []) ++ m ∷ []) in
      let parts : (ls ++ l ∷ []) ++ m ∷ [] ≡ ls ++ (l ∷ m ∷ []) = append_assoc ls (l ∷ []) (m ∷ []) in
      All-append P (ls ++ n ∷ []) (k ∷ [])
      (All-append P ls (n ∷ []) (λ i d within. subst (λ xs. GoesOn xs (get_or ls i d)) (sym parts) (one_of_first (λ before. IsSameLane before (get_or ls i d)) ls (l ∷ m ∷ []) i d within (lane_itself (get_or ls i d))))
      (All-cons P n [] (one_holds (λ before. IsSameLane before n) (ls ++ l ∷ []) m [] second) (none P)))
      (All-cons P k [] (subst (λ xs. GoesOn xs k) (sym parts) (one_holds (λ before. IsSameLane before k) ls l (m ∷ []) first)) (none P))

  -- the same, of lanes that were taken out and put back
  pub last_go_on : (ls firsts all_ls ks : List LaneParts) (l m k n : LaneParts) → all_ls ≡ firsts ++ m ∷ [] → firsts ≡ ls ++ l ∷ [] → ks ≡ (ls ++ n ∷ []) ++ k ∷ []
      → IsSameLane l k → IsSameLane m n → All (GoesOn all_ls) ks
  last_go_on ls firsts all_ls ks l m k n c d e first second =
      let here : all_ls ≡ (ls ++ l ∷ []) ++ m ∷ [] = c ∙ ap (λ x. x ++ m ∷ []) d in
      subst (λ x. All (GoesOn x) ks) (sym here) (subst (λ x. All (GoesOn ((ls ++ l ∷ []) ++ m ∷ [])) x) (sym e) (lanes_go_on ls l m k n first second))

  -- all of them
  pub gone_on : (ws all_ws vs : List WorkerParts) (w v : WorkerParts) (ls firsts all_ls ks : List LaneParts) (l m k n : LaneParts)
      → all_ws ≡ ws ++ w ∷ [] → vs ≡ ws ++ v ∷ [] → all_ls ≡ firsts ++ m ∷ [] → firsts ≡ ls ++ l ∷ [] → ks ≡ (ls ++ n ∷ []) ++ k ∷ []
      → IsSameWorker w v → IsSameLane l k → IsSameLane m n → GoOn all_ws vs all_ls ks
  gone_on ws all_ws vs w v ls firsts all_ls ks l m k n a b c d e worker first second = record {
    workers = subst (λ x. AllZip IsSameWorker x vs) (sym a) (subst (λ x. AllZip IsSameWorker (ws ++ w ∷ []) x) (sym b) (workers_go_on ws w v worker));
    lanes = last_go_on ls firsts all_ls ks l m k n c d e first second;
  }

-- what was pushed stands last
pub pushed : {A E X : Type 0} (r : Result A E) (a : A) (old now : List X) (x : X) → r ≡ Ok a → now ≡ (if is_ok r then old ++ x ∷ [] else old) → now ≡ old ++ x ∷ []
pushed {A} {E} {X} r a old now x is pushes = subst {A = Result A E} (λ b. now ≡ (if is_ok b then old ++ x ∷ [] else old)) is pushes
