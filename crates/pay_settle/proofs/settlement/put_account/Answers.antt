use Rattle.std.proofs.Common.{ℕ, OnOk, IfErr, subst}
use Rattle.std.specs.Prelude.{pos, ◌+ℤ◌}
use Rattle.std.specs.BTreeMap as tree
use Rattle.std.specs.Option.{unwrap_or}
use Rattle.pay_settle.specs.Settled.{IsPutIn, IsTooLarge, pair_cmp}
use Rattle.pay_settle.proofs.settlement.put_account.Goals as goal

pub returns-clause-put : goal.returns-clause-put
returns-clause-put c = subst (λ (k : ℕ × ℕ). OnOk c.put_sum.result (IsPutIn pair_cmp c.args.accounts.now c.put_sum.new.accounts k c.args.posting.now.amount)) c.key_of-key.ensures c.put_sum.ensures.put

pub returns-clause-too_large : goal.returns-clause-too_large
returns-clause-too_large c =
    subst (λ (k : ℕ × ℕ). IfErr c.put_sum.result (λ fault. IsTooLarge fault (unwrap_or (tree.get pair_cmp c.args.accounts.now k) (pos 0) +ℤ c.args.posting.now.amount))) c.key_of-key.ensures c.put_sum.ensures.too_large
