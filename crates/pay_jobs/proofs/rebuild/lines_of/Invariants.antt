use Rattle.std.proofs.Common.{◌≡◌, ◌++◌, drop}
use Rattle.std.specs.List.{flat_map}
use Rattle.pay_jobs.specs.Rebuild.{lines_of_account}
use Rattle.pay_jobs.proofs.rebuild.lines_of.Given as goal

-- with the lines of the rest all are there
abbrev pub invariant-loop-account : goal.invariant-loop-account
invariant-loop-account l = l.text.items ++ flat_map (λ a. lines_of_account (a.account, a.accepted)) (drop l.account-index l.accounts) ≡ flat_map (λ a. lines_of_account (a.account, a.accepted)) l.accounts
