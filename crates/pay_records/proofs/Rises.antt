-- A row with the next rowid stands after all others.
use Rattle.std.proofs.Common.{◌≡◌, ℤ, pos, ◌+ℤ◌, ◌<ℤ◌, List, [], ◌∷◌, ◌++◌, fold, refl, ap, subst, ◌∙◌, arith, Less}
use Rattle.std.proofs.lemmas.Int.{ints}
use Rattle.std.proofs.lemmas.Bool.Decides.{nat_tests}
use Rattle.sqlite_value.proofs.OrderLemmas.{value_cmp-Int}
use Rattle.sqlite.specs.declared.types.Value.TheVariants.{Int}
use Rattle.sqlite.specs.Order.{Row, value_cmp}
use Rattle.sqlite.specs.Tree.{rowid, put_row}
use Rattle.sqlite.specs.Edit.{id_in}
use Rattle.pay_records.specs.Rows.{RiseFrom}

abbrev pub next_from : ℤ → List Row → ℤ
next_from start rows = fold (λ _ r. id_in (rowid r) +ℤ pos 1) start rows

pub below : (m n : ℤ) → m <ℤ n → value_cmp (Int m) (Int n) ≡ Less
below m n h = value_cmp-Int m n ∙ grind (arith, ints, nat_tests)

-- the last of rowids that rise is the start or above it
above_start : (low id : ℤ) (rows : List Row) → RiseFrom low rows → next_from (low +ℤ pos 1) rows <ℤ (id +ℤ pos 1) → low <ℤ id
above_start low id [] up next = omega (arith, ints)
above_start low id (r ∷ rs) up next =
    let start : id_in (rowid r) ≡ up.0 = ap id_in up.1 in
    let later = above_start up.0 id rs up.3 (subst (λ s. next_from (s +ℤ pos 1) rs <ℤ (id +ℤ pos 1)) start next) in
    let first = up.2 in
    omega (arith, ints)

pub put_after : (low id : ℤ) (rest : Row) (rows : List Row) → RiseFrom low rows → next_from (low +ℤ pos 1) rows <ℤ (id +ℤ pos 1)
    → (put_row (Int id ∷ rest) rows ≡ rows ++ (Int id ∷ rest) ∷ []) × RiseFrom low (rows ++ (Int id ∷ rest) ∷ [])
put_after low id rest [] up next = (refl, (id, refl, omega (arith, ints), tt))
put_after low id rest (r ∷ rs) up next =
    let start : id_in (rowid r) ≡ up.0 = ap id_in up.1 in
    let after = subst (λ s. next_from (s +ℤ pos 1) rs <ℤ (id +ℤ pos 1)) start next in
    let it = put_after up.0 id rest rs up.3 after in
    let less : value_cmp (rowid r) (Int id) ≡ Less = ap (λ v. value_cmp v (Int id)) up.1 ∙ below up.0 id (above_start up.0 id rs up.3 after) in
    (rw (less, it.0), (up.0, up.1, up.2, it.1))
