-- The Credits that count for a week: what they come to, and which they are.
use Rattle.std.proofs.Common.{◌≡◌, ℕ, zero, suc, ◌+◌, ◌≤◌, nat_le, Bool, true, false, ◌&&◌, if◌then◌else◌, List, [], ◌∷◌, filter, slice_get, sum_by, Some, refl, ap, sym, ◌∙◌, arith}
use Rattle.std.specs.FinMap.{values}
use Rattle.std.proofs.lemmas.Bool.Decides.{nat_tests}
use Rattle.std.proofs.lemmas.List.Sums.{sum_by-cons}
use Rattle.pay_day.specs.Words.{monday}
use Rattle.pay_rules.specs.declared.fix.Fix.{Fix}
use Rattle.pay_rules.specs.declared.fix.What.{What}
use Rattle.pay_rules.specs.declared.fix.What.TheVariants.{Void, Fill, Credit, Drop}
use Rattle.pay_rules.specs.Credits.{CreditOf}
use Rattle.pay_rules.specs.Fixes.{Fixes, stands}
use Rattle.pay_rules.specs.StandingCredits.{given, given_by}
use Rattle.pay_why.specs.Dues.{is_credit_within, counts, counted, pence_of}
use Rattle.pay_why.specs.DueLaws.{DueReasonsAreDue, CountedAreAll, CountedAreOfTheWeek}

-- what one gives for days is its pence, where it is a Credit of them
given_is : (from through : ℕ) (what : What) → given from through what ≡ (if is_credit_within from through what then pence_of what else 0)
given_is from through (Void reader seq) = refl
given_is from through (Fill stamp place kind) = refl
given_is from through (Credit credit) = refl
given_is from through (Drop staff seq) = refl

-- of one that stands or not, and is a Credit of the days or not
with_one : (pence : Fix → ℕ) (fix : Fix) (others : List Fix) (stands within : Bool)
    → sum_by pence (if stands && within then fix ∷ others else others) ≡ (if stands then (if within then pence fix else 0) else 0) + sum_by pence others
with_one pence fix others true true = sum_by-cons pence fix others
with_one pence fix others true false = omega arith
with_one pence fix others false within = omega arith

alike : (stands : Bool) (from through : ℕ) (what : What) → (if stands then given from through what else 0) ≡ (if stands then (if is_credit_within from through what then pence_of what else 0) else 0)
alike true from through what = given_is from through what
alike false from through what = refl

all_counted : (accepted : List Fix) (from through : ℕ) (list : List Fix)
    → sum_by (λ (fix : Fix). pence_of fix.what) (filter (counts accepted from through) list) ≡ sum_by (given_by accepted from through) list
all_counted accepted from through [] = refl
all_counted accepted from through (fix ∷ list) =
    omega (
      arith,
      with_one (λ (its : Fix). pence_of its.what) fix (filter (counts accepted from through) list) (stands accepted fix) (is_credit_within from through fix.what),
      alike (stands accepted fix) from through fix.what,
      sum_by-cons (given_by accepted from through) fix list,
      all_counted accepted from through list,
    )

pub counted_are_all : CountedAreAll
counted_are_all price fixes through = all_counted (values fixes) (monday through) through (values fixes)

pub reasons_are_due : DueReasonsAreDue
reasons_are_due editions accepted through = refl

-- ---- each that counts

both : (a b : Bool) → (a && b) ≡ true → (a ≡ true) × (b ≡ true)
both true b h = (refl, h)
both false b h = cc

-- what passes a filter passes its test
passes : (test : Fix → Bool) (list : List Fix) (place : ℕ) (fix : Fix) → slice_get (filter test list) place ≡ Some fix → test fix ≡ true
passes test [] zero fix e = cc
passes test [] (suc place) fix e = cc
passes test (one ∷ list) place fix e = by_test test one (filter test list) (passes test list) (test one) refl place fix e
  where
    by_test : (test : Fix → Bool) (one : Fix) (others : List Fix) → ((place : ℕ) (fix : Fix) → slice_get others place ≡ Some fix → test fix ≡ true) → (b : Bool) → test one ≡ b
        → (place : ℕ) (fix : Fix) → slice_get (if b then one ∷ others else others) place ≡ Some fix → test fix ≡ true
    by_test test one others rest true h zero fix e = ap test (inner one fix (sym e)) ∙ h
      where
        inner : (one fix : Fix) → Some fix ≡ Some one → fix ≡ one
        inner one fix f = cc
    by_test test one others rest true h (suc place) fix e = rest place fix e
    by_test test one others rest false h place fix e = rest place fix e

within_is : (from through : ℕ) (what : What) → is_credit_within from through what ≡ true → (credit : CreditOf) × (what ≡ Credit credit) × (from ≤ credit.day) × (credit.day ≤ through)
within_is from through (Void reader seq) h = absurd (cc)
within_is from through (Fill stamp place kind) h = absurd (cc)
within_is from through (Credit credit) h =
    let days = both (nat_le from credit.day) (nat_le credit.day through) h in
    (credit, refl, grind (arith, nat_tests, days), grind (arith, nat_tests, days))
within_is from through (Drop staff seq) h = absurd (cc)

pub counted_of_the_week : CountedAreOfTheWeek
counted_of_the_week fixes through place fix e =
    let parts = both (stands (values fixes) fix) (is_credit_within (monday through) through fix.what) (passes (counts (values fixes) (monday through) through) (values fixes) place fix e) in
    let is = within_is (monday through) through fix.what parts.1 in
    (is.0, is.1, is.2, is.3, parts.0)
