use Rattle.std.proofs.Common.{◌≡◌, take}
use Rattle.pay_kept.specs.Alike.{asked_of}
use Rattle.pay_kept.proofs.accounts.all_accounts.Given as goal

abbrev pub invariant-loop-place : goal.invariant-loop-place
invariant-loop-place l = l.list.items ≡ asked_of (take l.place l.journal.items)
