use Rattle.std.proofs.Common.{◌≡◌, ◌++◌, map}
use Rattle.pay_restore.proofs.keeping.in_order.Given as goal

-- the accounts in the list, and those that are left, are all
abbrev pub invariant-loop-account : goal.invariant-loop-account
invariant-loop-account g l = l.list.items ++ map (λ e. e.1) l.account-iterator ≡ map (λ e. e.1) l.fn.accounts.entries
