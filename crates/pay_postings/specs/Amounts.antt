-- Amounts of money by operator, in pence, below 0 what is given back: that of operator 1 stands first.
use Rattle.std.specs.Prelude.{◌≡◌, ◌≤◌, ℕ, ℤ, pos, negsuc, ◌+ℤ◌, ◌-ℤ◌, unsigned_abs, List, [], ◌∷◌, fold, replicate, refl}
use Rattle.pay_money.specs.declared.limits.TheConstants.{OPERATORS, MOST_MONEY}

-- all amounts together
abbrev pub total : List ℤ → ℤ
total amounts = fold ◌+ℤ◌ (pos 0) amounts

-- no amount for any operator
abbrev pub no_amounts : List ℤ
no_amounts = replicate OPERATORS (pos 0)

-- two amounts for each operator as one
abbrev pub added : List ℤ → List ℤ → List ℤ
added (amount ∷ amounts) (other ∷ others) = (amount +ℤ other) ∷ added amounts others
added _ _ = []

-- what is left of shares once some amounts were posted: the difference for each operator
abbrev pub less : List ℕ → List ℤ → List ℤ
less (share ∷ shares) (amount ∷ amounts) = (pos share -ℤ amount) ∷ less shares amounts
less _ _ = []

-- an amount is within the largest sum of money either way
abbrev pub IsMoney : ℤ → Type 0
IsMoney amount = unsigned_abs amount ≤ MOST_MONEY

-- ---- worked rows

all_together : total (pos 595 ∷ negsuc 296 ∷ pos 158 ∷ []) ≡ pos 456
all_together = refl

by_operator : added (pos 860 ∷ pos 0 ∷ []) (negsuc 519 ∷ pos 20 ∷ []) ≡ pos 340 ∷ pos 20 ∷ []
by_operator = refl

the_difference : less (340 ∷ 20 ∷ []) (pos 860 ∷ pos 0 ∷ []) ≡ negsuc 519 ∷ pos 20 ∷ []
the_difference = refl
