-- Worked rows: an account is charged 8.90 for a week, of which 5.00 fall to operator 1 and 3.90 to operator 3, and is given back 1.50 by operator 3;
-- another one is charged 1.75 by operator 3 for the week after it.
use Rattle.std.specs.Prelude.{◌≡◌, ℕ, ℤ, pos, negsuc, List, [], ◌∷◌, replicate, Some, None, refl}
use Rattle.std.proofs.Common.{arith}
use Rattle.std.proofs.lemmas.Int.{ints}
use Rattle.pay_rules.specs.declared.posting.Posting.{Posting}
use Rattle.pay_settle.specs.Sums.{sum_of, week_sum, account_sum, by_operator, AddsUp}

-- the quote is one of which nothing but the account and the week is asked here
posted : ℕ → ℕ → ℤ → ℤ → ℤ → Posting
posted account week amount to_1 to_3 = record {
  quote = record { account = account; week = week; through = week; version = 1; due = 0; edition = 4; shares = replicate 16 0 };
  amount = amount;
  share_amounts = to_1 ∷ pos 0 ∷ to_3 ∷ replicate 13 (pos 0);
}

charge : Posting
charge = posted 7 19_730 (pos 890) (pos 500) (pos 390)

refund : Posting
refund = posted 7 19_730 (negsuc 149) (pos 0) (negsuc 149)

of_another : Posting
of_another = posted 8 19_737 (pos 175) (pos 0) (pos 175)

all : List Posting
all = charge ∷ refund ∷ of_another ∷ []

in_all : sum_of all ≡ pos 915
unfolding posted charge refund of_another all
in_all = refl

first_week : week_sum 19_730 all ≡ Some (pos 740)
unfolding posted charge refund of_another all
first_week = refl

week_after_it : week_sum 19_737 all ≡ Some (pos 175)
unfolding posted charge refund of_another all
week_after_it = refl

no_other_week : week_sum 19_744 all ≡ None
unfolding posted charge refund of_another all
no_other_week = refl

of_account_7 : account_sum 7 19_730 all ≡ Some (pos 740)
unfolding posted charge refund of_another all
of_account_7 = refl

not_of_account_8 : account_sum 8 19_730 all ≡ None
unfolding posted charge refund of_another all
not_of_account_8 = refl

-- a charge that is given back whole is a sum of 0, and not none
given_back_whole : account_sum 7 19_730 (posted 7 19_730 (pos 150) (pos 150) (pos 0) ∷ posted 7 19_730 (negsuc 149) (negsuc 149) (pos 0) ∷ []) ≡ Some (pos 0)
unfolding posted
given_back_whole = refl

owed : by_operator all ≡ pos 500 ∷ pos 0 ∷ pos 415 ∷ replicate 13 (pos 0)
unfolding posted charge refund of_another all
owed = refl

charge_adds_up : AddsUp charge
unfolding posted charge
charge_adds_up = record { operators = refl; together = refl }

-- of 8.91 a penny fell to nobody
a_penny_short : AddsUp (posted 7 19_730 (pos 891) (pos 500) (pos 390)) → ⊥
unfolding posted
a_penny_short up = omega (arith, ints, up.together)
