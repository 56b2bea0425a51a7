-- In which ledgers accounts stand. A ledger is told by the accounts that it has anything of.
use Rattle.std.specs.Prelude.{◌≡◌, ◌<◌, ◌==◌, ℕ, Bool, true, false, List, [], ◌∷◌, get_or, Some, refl}
use Rattle.std.specs.BTreeMap as tree
use Rattle.std.specs.List.{list_any}
use Rattle.std.proofs.Common.{arith}
use Rattle.std.specs.Ordering.{nat_cmp}
use Rattle.pay_settle.specs.declared.homes.Homes.{Homes}

-- whether an account is one of these
abbrev pub has : ℕ → List ℕ → Bool
has account accounts = list_any (λ a. a == account) accounts

-- whether an account stands in the ledger at a place, from 0 on
abbrev pub stands_in : List (List ℕ) → ℕ → ℕ → Bool
stands_in ledgers place account = has account (get_or ledgers place [])

-- no account stands in two of these ledgers
abbrev pub AreApart : List (List ℕ) → Type 0
AreApart ledgers = (account one other : ℕ) → stands_in ledgers one account ≡ true → stands_in ledgers other account ≡ true → one ≡ other

-- an account stands in two of them
pub record StandsInBoth (ledgers : List (List ℕ)) (account first second : ℕ) : Type 0 where
  pub in_order : first < second
  pub in_first : stands_in ledgers first account ≡ true
  pub in_second : stands_in ledgers second account ≡ true

-- what is known of these ledgers is in which of them each account stands, which is one
pub record AreHomesOf (ledgers : List (List ℕ)) (homes : Homes) : Type 0 where
  pub there : (account place : ℕ) → stands_in ledgers place account ≡ true → tree.get nat_cmp homes.places account ≡ Some place
  pub only : (account place : ℕ) → tree.get nat_cmp homes.places account ≡ Some place → stands_in ledgers place account ≡ true

-- ---- worked rows: accounts 7 and 9 stand in the first ledger, and 8 in the second

in_the_first : stands_in ((7 ∷ 9 ∷ []) ∷ (8 ∷ []) ∷ []) 0 9 ≡ true
in_the_first = refl

not_in_the_second : stands_in ((7 ∷ 9 ∷ []) ∷ (8 ∷ []) ∷ []) 1 9 ≡ false
not_in_the_second = refl

no_third : stands_in ((7 ∷ 9 ∷ []) ∷ (8 ∷ []) ∷ []) 2 8 ≡ false
no_third = refl

-- account 7 stands in a third one as well
in_both : StandsInBoth ((7 ∷ 9 ∷ []) ∷ (8 ∷ []) ∷ (6 ∷ 7 ∷ []) ∷ []) 7 0 2
in_both = record { in_order = omega arith; in_first = refl; in_second = refl }
