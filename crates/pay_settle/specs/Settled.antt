-- What it is for sums to be those of postings.
use Rattle.std.specs.Prelude.{◌≡◌, ◌⊎◌, ⊤, ℕ, ℤ, pos, ◌+ℤ◌, Bool, cond, Some, List, [], ◌∷◌, ◌++◌, filter}
use Rattle.std.specs.BTreeMap as tree
use Rattle.std.specs.Option.{unwrap_or}
use Rattle.std.specs.Ordering.{nat_cmp, ordering_then}
use Rattle.std.specs.declared.cmp.Ordering.{Ordering}
use Rattle.pay_rules.specs.declared.posting.Posting.{Posting}
use Rattle.pay_settle.specs.declared.fault.SettleFault.{SettleFault}
use Rattle.pay_settle.specs.declared.fault.SettleFault.TheVariants.{Shared, Shares, TooLarge, Memory}
use Rattle.pay_settle.specs.declared.settlement.Settlement.{Settlement}
use Rattle.pay_settle.specs.Sums.{sum_of, week_sum, account_sum, by_operator, shares_at, AddsUp, HasNoBits}

-- accounts first, and then weeks
abbrev pub pair_cmp : ℕ × ℕ → ℕ × ℕ → Ordering
pair_cmp one other = ordering_then (nat_cmp one.0 other.0) (nat_cmp one.1 other.1)

abbrev pub key_of : Posting → ℕ × ℕ
key_of posting = (posting.quote.account, posting.quote.week)

-- these are the sums of these postings
pub record AreSumsOf (list : List Posting) (sums : Settlement) : Type 0 where
  pub operators : sums.operators ≡ by_operator list
  pub weeks : (week : ℕ) → tree.get nat_cmp sums.weeks week ≡ week_sum week list
  pub accounts : (account week : ℕ) → tree.get pair_cmp sums.accounts (account, week) ≡ account_sum account week list
  pub total : sums.total ≡ sum_of list
  pub weeks_ordered : tree.IsOrdered nat_cmp sums.weeks
  pub accounts_ordered : tree.IsOrdered pair_cmp sums.accounts

-- a map has a key with an amount more, and nothing else is new in it
abbrev pub IsPutIn : {K : Type 0} → (K → K → Ordering) → tree.BTreeMap K ℤ → tree.BTreeMap K ℤ → K → ℤ → Type 0
IsPutIn {K} cmp old new key amount = (q : K) → tree.get cmp new q ≡ cond (tree.is_at (cmp key) q) (Some (unwrap_or (tree.get cmp old key) (pos 0) +ℤ amount)) (tree.get cmp old q)

-- a sum is refused that has no 128 bits, or memory is
abbrev pub IsTooLarge : SettleFault → ℤ → Type 0
IsTooLarge TooLarge sum = HasNoBits sum
IsTooLarge Memory sum = ⊤
IsTooLarge (Shares account week) sum = ⊥
IsTooLarge (Shared account first second) sum = ⊥

-- the sum of some of these postings has no 128 bits, or what fell to an operator has none
abbrev pub IsBeyond : List Posting → Type 0
IsBeyond list = ((passes : Posting → Bool) × HasNoBits (sum_of (filter passes list))) ⊎ ((place : ℕ) × HasNoBits (shares_at place list))

-- why a posting is not added to others: not all of it fell to operators, a sum is too large, or memory is refused
abbrev pub IsWhyNot : List Posting → Posting → SettleFault → Type 0
IsWhyNot list posting (Shares account week) = (account ≡ posting.quote.account) × (week ≡ posting.quote.week) × (AddsUp posting → ⊥)
IsWhyNot list posting TooLarge = IsBeyond (list ++ posting ∷ [])
IsWhyNot list posting Memory = ⊤
IsWhyNot list posting (Shared account first second) = ⊥

-- and why one of several is not, after those before it
abbrev pub IsWhyNotOne : List Posting → List Posting → SettleFault → Type 0
IsWhyNotOne list postings fault = (before : List Posting) × (posting : Posting) × (after : List Posting) × (postings ≡ before ++ posting ∷ after) × IsWhyNot (list ++ before) posting fault
