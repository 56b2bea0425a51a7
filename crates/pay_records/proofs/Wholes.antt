-- Columns of whole numbers, as they are counted.
use Rattle.std.proofs.Common.{◌≡◌, ℕ, Result, IsErrAnd, IfErr, sym, subst, ◌∙◌}
use Rattle.std.proofs.lemmas.Result.{err_from_is_err_and}
use Rattle.sqlite.specs.Order.{Row, column}
use Rattle.pay_records.specs.declared.fault.ReadFault.{ReadFault}
use Rattle.pay_records.specs.Told.{IsWhole, IsBadUnless}

pub moved : (row : Row) (m n : ℕ) → m ≡ n → IsWhole (column row m) → IsWhole (column row n)
moved row m n same = subst (λ k. IsWhole (column row k)) same

-- one column that is none makes all of them bad
pub bad_at : {A : Type 0} (result : Result A ReadFault) (fault : ReadFault) (row : Row) (m n : ℕ) (All : Type 0) → IsErrAnd result (λ f. f ≡ fault) → IsBadUnless (IsWhole (column row n)) fault → m ≡ n → (All → IsWhole (column row m))
    → IfErr result (IsBadUnless All)
bad_at result fault row m n All is bad same at =
    let p = err_from_is_err_and result is in
    subst (λ r. IfErr r (IsBadUnless All)) (sym p.1) (p.2 ∙ bad.0, λ all. bad.1 (moved row m n same (at all)))
