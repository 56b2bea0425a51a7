-- Fields that are added one after another.
use Rattle.std.proofs.Common.{◌≡◌, ◌∙◌, ◌∷◌, ◌++◌, [], List, Result, Ok, Err, OnOk, ap}
use Rattle.std.proofs.lemmas.List.{append_assoc}

module _ {X : Type 0} (start : List X) where
  -- one more after some
  pub more : (some middle after : List X) (x : X) → middle ≡ start ++ some → after ≡ middle ++ x ∷ [] → after ≡ start ++ (some ++ x ∷ [])
  more some middle after x is added = added ∙ ap (λ l. l ++ x ∷ []) is ∙ append_assoc start some (x ∷ [])

  -- and a last one, if it is added
  pub last : {T E : Type 0} (r : Result T E) (some middle after : List X) (x : X) → middle ≡ start ++ some → OnOk r (after ≡ middle ++ x ∷ []) → OnOk r (after ≡ start ++ (some ++ x ∷ []))
  last (Ok it) some middle after x is added = more some middle after x is added
  last (Err e) some middle after x is added = tt
