use Rattle.std.proofs.Common.{◌++◌}
use Rattle.std.specs.Prelude.{flat_map}
use Rattle.std.specs.Map.Iter.{deref_pair}
use Rattle.std.proofs.lemmas.Map.Iter.{rest_more}
use Rattle.pay_settle.specs.Text.{account_row}
use Rattle.pay_settle.proofs.Rows.{next_row}
use Rattle.pay_settle.proofs.text.push_accounts.Goals as goal

pub loop-key-preserved : goal.loop-key-preserved
loop-key-preserved c =
    next_row account_row c.loop-key.text.items c.push_account.new.text.items (c.args.text.now.items ++ flat_map account_row c.args.accounts.now.entries) (c.in-Some.key.now, c.in-Some.sum.now) c.loop-key.key-iterator c.next.new.self c.in_ok-push_account.ensures
    (rest_more deref_pair c.loop-key.key-iterator c.next.new.self c.next.result (c.in-Some.key, c.in-Some.sum) c.in-Some.is c.next.ensures.steps) c.loop-key.invariant
