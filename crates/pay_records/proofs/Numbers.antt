-- A row of whole numbers more in a table of these.
use Rattle.std.proofs.Common.{◌≡◌, ℕ, ℤ, pos, Bool, true, false, cond, List, [], ◌∷◌, ◌++◌, map, drop, refl, sym, ap, ap₂, subst, ◌∙◌, arith}
use Rattle.std.proofs.lemmas.List.{map-append}
use Rattle.std.proofs.lemmas.Int.{ints}
use Rattle.sqlite.specs.declared.types.Value.{Value}
use Rattle.sqlite.specs.declared.types.Value.TheVariants.{Null, Int}
use Rattle.sqlite.specs.Kind.TheVariants.{Integer}
use Rattle.sqlite.specs.Ops.{unary}
use Rattle.sqlite.specs.Order.{Row}
use Rattle.sqlite.specs.Cast.{cast, cast_all, cast_row}
use Rattle.sqlite.specs.Rowids.TheVariants.{Chosen}
use Rattle.sqlite.specs.Edit.{with_rowid, next_rowid}
use Rattle.sqlite.specs.Table.{Table}
use Rattle.sqlite.specs.Tree.{put_row}
use Rattle.pay_records.specs.Tables.{number}
use Rattle.pay_records.specs.Rows.{AreNumbers, RiseFrom}
use Rattle.pay_records.proofs.Rises.{put_after}

either : (b : Bool) (x : Value) → cond b x x ≡ x
either true x = refl
either false x = refl

pub cast_null : cast Integer Null ≡ Null
unfolding unary
cast_null = either _ Null

pub cast_int : (n : ℤ) → cast Integer (Int n) ≡ Int n
unfolding unary
cast_int n = either _ (Int n)

pub cast_ints : (names : List (List ℕ)) (vs : List ℤ) → cast_all (map number names) (map Int vs) ≡ map Int vs
cast_ints [] vs = refl
cast_ints (name ∷ names) [] = refl
cast_ints (name ∷ names) (v ∷ vs) = ap₂ (λ x xs. x ∷ xs) (cast_int v) (cast_ints names vs)

pub numbered_row : (table : Table) (names : List (List ℕ)) → table.columns ≡ map number names → (rows : List Row) (vs : List ℤ)
    → with_rowid Chosen rows (cast_row table (Null ∷ map Int vs)) ≡ Int (next_rowid rows) ∷ map Int vs
numbered_row table names columns rows vs =
    let cast : cast_row table (Null ∷ map Int vs) ≡ Null ∷ map Int vs = ap₂ (λ x xs. x ∷ xs) cast_null (ap (λ cs. cast_all cs (map Int vs)) columns ∙ cast_ints names vs) in
    ap (with_rowid Chosen rows) cast

pub numbers_after : (table : Table) (names : List (List ℕ)) → table.columns ≡ map number names → (rows next : List Row) (numbers : List (List ℤ)) (vs : List ℤ) → AreNumbers rows numbers
    → next ≡ put_row (with_rowid Chosen rows (cast_row table (Null ∷ map Int vs))) rows → AreNumbers next (numbers ++ vs ∷ [])
numbers_after table names columns rows next numbers vs h is =
    let beyond = put_after (pos 0) (next_rowid rows) (map Int vs) rows h.rising (omega (arith, ints)) in
    let same : next ≡ rows ++ (Int (next_rowid rows) ∷ map Int vs) ∷ [] = is ∙ ap (λ r. put_row r rows) (numbered_row table names columns rows vs) ∙ beyond.0 in
    record {
      rising = subst (RiseFrom (pos 0)) (sym same) beyond.1;
      are = ap (map (drop 1)) same ∙ map-append (drop 1) rows ((Int (next_rowid rows) ∷ map Int vs) ∷ []) ∙ ap (λ l. l ++ map Int vs ∷ []) h.are ∙ sym (map-append (map Int) numbers (vs ∷ []));
    }
