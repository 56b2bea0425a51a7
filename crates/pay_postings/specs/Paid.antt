-- What postings are that were posted one after another.
use Rattle.std.specs.Prelude.{◌≡◌, ⊤, ℤ, pos, List, [], ◌∷◌, ◌++◌, length, map}
use Rattle.pay_money.specs.declared.limits.TheConstants.{OPERATORS}
use Rattle.pay_rules.specs.declared.posting.Posting.{Posting}
use Rattle.pay_rules.specs.QuoteParts.{IsQuote}
use Rattle.pay_postings.specs.Amounts.{IsMoney}
use Rattle.pay_postings.specs.Postings.{net, shares_posted}

-- each posting stands to what was posted for its account and week up to it, and to the share amounts of this, as is said
abbrev pub EachStands : (Posting → ℤ → List ℤ → Type 0) → List Posting → List Posting → Type 0
EachStands Stands before [] = ⊤
EachStands Stands before (p ∷ list) =
    Stands p (net p.quote.account p.quote.week (before ++ p ∷ [])) (shares_posted p.quote.account p.quote.week (before ++ p ∷ []))
    × EachStands Stands (before ++ p ∷ []) list

-- what was posted is what was due, and each operator's share of it
pub record IsPaid (posting : Posting) (amount : ℤ) (shares : List ℤ) : Type 0 where
  pub quote : IsQuote posting.quote
  pub due : amount ≡ pos posting.quote.due
  pub shared : shares ≡ map pos posting.quote.shares
  -- there is an amount for each operator
  pub amounts : length posting.share_amounts ≡ OPERATORS

-- these postings were posted one after another, from none on
abbrev pub ArePaid : List Posting → Type 0
ArePaid list = EachStands IsPaid [] list

-- what was posted is a sum of money, though perhaps not what was due, and each operator's share is what was posted of it
pub record IsRead (posting : Posting) (amount : ℤ) (shares : List ℤ) : Type 0 where
  pub quote : IsQuote posting.quote
  pub money : IsMoney amount
  pub shared : shares ≡ map pos posting.quote.shares

-- these postings may be read of a ledger, whoever wrote it
abbrev pub AreRead : List Posting → Type 0
AreRead list = EachStands IsRead [] list
