use Rattle.std.proofs.Common.{◌≡◌, ◌++◌}
use Rattle.std.specs.Prelude.{flat_map}
use Rattle.pay_settle.specs.Text.{account_row}
use Rattle.pay_settle.proofs.text.push_accounts.Given as goal

abbrev pub invariant-loop-key : goal.invariant-loop-key
invariant-loop-key l = l.text.items ++ flat_map account_row l.key-iterator ≡ l.fn.text.items ++ flat_map account_row l.accounts.entries
