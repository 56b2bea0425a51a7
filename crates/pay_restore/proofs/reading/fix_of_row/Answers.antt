use Rattle.std.proofs.Common.{ℕ, ◌≤◌, Option, Some, None, IfSome, sym, subst}
use Rattle.pay_rules.specs.declared.fix.Fix.{Fix}
use Rattle.pay_rules.specs.declared.fix.What.{What}
use Rattle.pay_set_rows.specs.Ranged.{◌>>=◌}
use Rattle.pay_set_rows.specs.SetRows.{in_sixteen_bits, as_seq, what_from}
use Rattle.pay_restore.proofs.reading.fix_of_row.Goals as goal

-- a correction is of the account that its row is read for
own : (account : ℕ) (staff seq : Option ℕ) (what : Option What) → 1 ≤ account
    → IfSome (staff >>= λ s. seq >>= λ n. what >>= λ w. Some (record { account = account; staff = s; seq = n; what = w })) (λ (fix : Fix). 1 ≤ fix.account)
own account None seq what from_1 = tt
own account (Some s) None what from_1 = tt
own account (Some s) (Some n) None from_1 = tt
own account (Some s) (Some n) (Some w) from_1 = from_1

pub returns-clause-from_1 : goal.returns-clause-from_1
returns-clause-from_1 c =
    let row = c.args.row.now.1 in
    subst (λ (o : Option Fix). IfSome o (λ fix. 1 ≤ fix.account)) (sym c.fix_from_row.ensures)
    (own c.in_ok-account.account (in_sixteen_bits row.staff) (as_seq row.seq) (what_from row) c.in_ok-account.ensures.from_1)
