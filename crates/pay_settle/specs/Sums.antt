-- What postings come to: in all, for each week, for each account and week, and for each operator.
use Rattle.std.specs.Prelude.{◌≡◌, ◌==◌, ℕ, ℤ, pos, Bool, if◌then◌else◌, List, fold, filter, get_or, map, length, Option, Some, None, FitsSigned}
use Rattle.std.specs.Int.{w128}
use Rattle.std.specs.List.{list_any}
use Rattle.pay_money.specs.declared.limits.TheConstants.{OPERATORS}
use Rattle.pay_rules.specs.declared.posting.Posting.{Posting}
use Rattle.pay_postings.specs.Words.{total, no_amounts, added, is_of}

-- what was charged by postings less what was given back: the sum of their amounts
abbrev pub sum_of : List Posting → ℤ
sum_of list = total (map (λ (p : Posting). p.amount) list)

-- the sum of those that pass a test, and none where none of them does
abbrev pub sum_where : (Posting → Bool) → List Posting → Option ℤ
sum_where passes list = if list_any passes list then Some (sum_of (filter passes list)) else None

-- a posting is of a week, which its Monday names
abbrev pub is_in : ℕ → Posting → Bool
is_in week posting = posting.quote.week == week

-- the sum of a week, and none where nothing was posted for it
abbrev pub week_sum : ℕ → List Posting → Option ℤ
week_sum week list = sum_where (is_in week) list

-- the sum of an account and a week
abbrev pub account_sum : ℕ → ℕ → List Posting → Option ℤ
account_sum account week list = sum_where (is_of account week) list

abbrev pub with_shares : List ℤ → Posting → List ℤ
with_shares so_far posting = added so_far posting.share_amounts

-- what fell to each operator, operator 1 first: the sums of the share amounts
abbrev pub by_operator : List Posting → List ℤ
by_operator list = fold with_shares no_amounts list

-- what fell to the operator at a place, from 0 on
abbrev pub shares_at : ℕ → List Posting → ℤ
shares_at place list = get_or (by_operator list) place (pos 0)

-- a posting's amount is what fell to all operators together
pub record AddsUp (posting : Posting) : Type 0 where
  pub operators : length posting.share_amounts ≡ OPERATORS
  pub together : total posting.share_amounts ≡ posting.amount

-- a sum that has no 128 bits
abbrev pub HasNoBits : ℤ → Type 0
HasNoBits sum = FitsSigned w128 sum → ⊥
