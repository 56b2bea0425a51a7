use Rattle.std.proofs.Common.{◌≡◌, ℕ, List, [], ◌∷◌, ◌++◌, length, take}
use Rattle.pay_settle.specs.Standing.{AreHomesOf}
use Rattle.pay_settle.proofs.homes.Homes.add.Given as goal

-- where the accounts so far stand is known
abbrev pub invariant-loop-account : goal.invariant-loop-account
invariant-loop-account l = (ledgers : List (List ℕ)) → l.place ≡ length ledgers → AreHomesOf ledgers l.fn.self → AreHomesOf (ledgers ++ take l.account-index l.accounts ∷ []) l.self
