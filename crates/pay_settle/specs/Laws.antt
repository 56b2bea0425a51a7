-- What the sums of postings come to together.
use Rattle.std.specs.Prelude.{◌≡◌, ℕ, List, filter}
use Rattle.std.specs.BTreeMap as tree
use Rattle.std.specs.List.{AllByRecursion}
use Rattle.pay_rules.specs.declared.posting.Posting.{Posting}
use Rattle.pay_postings.specs.Words.{total, is_of, net, ArePaid}
use Rattle.pay_settle.specs.declared.settlement.Settlement.{Settlement}
use Rattle.pay_settle.specs.Settled.{AreSumsOf}
use Rattle.pay_settle.specs.Sums.{sum_of, by_operator, AddsUp}

-- what fell to the operators together is all that was charged less what was given back
abbrev pub OperatorsAreAll : Type 0
OperatorsAreAll = (list : List Posting) → AllByRecursion AddsUp list → total (by_operator list) ≡ sum_of list

-- and so are the sums of the weeks together
abbrev pub WeeksAreAll : Type 0
WeeksAreAll = (list : List Posting) (sums : Settlement) → AreSumsOf list sums → total (tree.values sums.weeks) ≡ sum_of list

-- and those of the accounts and weeks
abbrev pub AccountsAreAll : Type 0
AccountsAreAll = (list : List Posting) (sums : Settlement) → AreSumsOf list sums → total (tree.values sums.accounts) ≡ sum_of list

-- the sum of an account and a week is what a ledger tells of it
abbrev pub SumsAreNet : Type 0
SumsAreNet = (account week : ℕ) (list : List Posting) → sum_of (filter (is_of account week) list) ≡ net account week list

-- of postings that were posted one after another, all fell to operators
abbrev pub PaidAddUp : Type 0
PaidAddUp = (list : List Posting) → ArePaid list → AllByRecursion AddsUp list
