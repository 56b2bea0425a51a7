-- Known bytes that grow, one piece after another.
use Rattle.std.proofs.Common.{◌≡◌, ℕ, List, length, take, Option, sym, subst}
use Rattle.std.proofs.KnownBytes.{Appends-kept}
use Rattle.std.proofs.Math.Seq.{take-length}
use Rattle.std.specs.Io.KnownBytes.{Appends, Keeps}
use Rattle.std.specs.Prelude.{Result, Ok, Err, OnErr}

-- all of it is a front of it
pub whole_is_front : (a b : Option (List ℕ)) (xs : List ℕ) → Appends a b xs → (n : ℕ) × Appends a b (take n xs)
whole_is_front a b xs more = (length xs, subst (Appends a b) (sym (take-length xs)) more)

-- it was taken whole, and what came then changed nothing
pub whole_then_kept : (a b c : Option (List ℕ)) (xs : List ℕ) → Appends a b xs → Keeps b c → (n : ℕ) × Appends a c (take n xs)
whole_then_kept a b c xs more keeps = whole_is_front a c xs (Appends-kept a b c xs more keeps)

-- so it is where what came then failed
pub front_if_failed : {A E : Type 0} (result : Result A E) (a b c : Option (List ℕ)) (xs ys : List ℕ) → xs ≡ ys → Appends a b xs → Keeps b c → OnErr result ((n : ℕ) × Appends a c (take n ys))
front_if_failed (Ok x) a b c xs ys same more keeps = tt
front_if_failed (Err e) a b c xs ys same more keeps = whole_then_kept a b c ys (subst (Appends a b) same more) keeps
