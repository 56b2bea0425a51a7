-- What is found among items that all have a property has it.
use Rattle.std.proofs.Common.{Bool, true, false, cond, List, [], ◌∷◌, All, Option, Some, IfSome}
use Rattle.std.specs.List.{find}
use Rattle.std.proofs.lemmas.List.Elements.{All-head, All-tail}

found_at : {X : Type 0} (P : X → Type 0) (b : Bool) (x : X) (o : Option X) → P x → IfSome o P → IfSome (cond b (Some x) o) P
found_at P true x o h k = h
found_at P false x o h k = k

pub found_is : {X : Type 0} (P : X → Type 0) (p : X → Bool) (xs : List X) → All P xs → IfSome (find p xs) P
found_is P p [] all = tt
found_is P p (x ∷ xs) all = found_at P (p x) x (find p xs) (All-head P x xs all) (found_is P p xs (All-tail P x xs all))
