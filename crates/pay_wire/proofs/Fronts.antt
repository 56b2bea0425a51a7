-- A front of what a writer was to take piece by piece.
use Rattle.std.proofs.Common.{◌≡◌, ℕ, suc, ◌+◌, ◌-◌, ◌≤◌, ◌<◌, min, List, ◌∷◌, ◌++◌, Option, Result, Ok, Err, OnErr, length, take, drop, get_or, sym, ap, subst, ◌∙◌, length-drop, arith}
use Rattle.std.proofs.Math.Seq.{take-length, take-add, take-append-add, drop-cons}
use Rattle.std.proofs.lemmas.List.{take_min, take-append-le, take-append-drop}
use Rattle.std.proofs.KnownBytes.{Appends-trans}
use Rattle.std.specs.Io.KnownBytes.{Appends}
use Rattle.std.proofs.lemmas.Grind.{flat_map-append}
use Rattle.pay_wire.specs.Output.{AppendsFront}
use Rattle.std.specs.List.{flat_map}

-- a front of the bytes and then a front of the others are a front of the bytes
pub Appends_fronts : (a b c : Option (List ℕ)) (i n : ℕ) (bytes : List ℕ) → Appends a b (take i bytes) → Appends b c (take n (take (length bytes - i) (drop i bytes))) → Appends a c (take (i + n) bytes)
Appends_fronts a b c i n bytes p q =
    let others : take (length bytes - i) (drop i bytes) ≡ drop i bytes = ap (λ k. take k (drop i bytes)) (sym (length-drop i bytes)) ∙ take-length (drop i bytes) in
    subst (Appends a c) (sym (take-add i n bytes)) (Appends-trans a b c _ _ p (subst (λ l. Appends b c (take n l)) others q))

-- a piece that was taken whole, and then a front of what is after it
pub front_then : (old mid new : Option (List ℕ)) (a b : List ℕ) → Appends old mid a → AppendsFront mid new b → AppendsFront old new (a ++ b)
front_then old mid new a b whole (n, front) =
    (length a + n, subst (Appends old new) (sym (take-append-add a b n)) (Appends-trans old mid new a (take n b) whole front))

-- a front of a piece is one of that piece and all after it
pub front_more : (old new : Option (List ℕ)) (a b : List ℕ) → AppendsFront old new a → AppendsFront old new (a ++ b)
front_more old new a b (n, front) =
    let few : min n (length a) ≤ length a = omega arith in
    let same : take n a ≡ take (min n (length a)) (a ++ b) = sym (take_min n a) ∙ sym (take-append-le (min n (length a)) a b few) in
    (min n (length a), subst (Appends old new) same front)

pub on_err : {T E : Type 0} {P : Type 0} (r : Result T E) → P → OnErr r P
on_err (Ok x) h = tt
on_err (Err e) h = h

-- the rows before one, that one, and those after it
rows_at : {A : Type 0} (row : A → List ℕ) (all : List A) (i : ℕ) (a : A) → i < length all → a ≡ get_or all i a → flat_map row all ≡ flat_map row (take i all) ++ (row a ++ flat_map row (drop (suc i) all))
rows_at {A} row all i a low is =
    ap (flat_map row) (sym (take-append-drop i all)) ∙ flat_map-append row (take i all) (drop i all)
    ∙ ap (λ r. flat_map row (take i all) ++ flat_map row r) (drop-cons all i a low ∙ ap (λ (x : A). x ∷ drop (suc i) all) (sym is))

-- the first rows, and then a front of the next one
pub front_of_rows : {A : Type 0} (row : A → List ℕ) (old mid new : Option (List ℕ)) (all : List A) (i : ℕ) (a : A) → i < length all → a ≡ get_or all i a
    → Appends old mid (flat_map row (take i all)) → AppendsFront mid new (row a) → AppendsFront old new (flat_map row all)
front_of_rows row old mid new all i a low is whole front =
    subst (AppendsFront old new) (sym (rows_at row all i a low is))
    (front_then old mid new (flat_map row (take i all)) (row a ++ flat_map row (drop (suc i) all)) whole (front_more mid new (row a) (flat_map row (drop (suc i) all)) front))
