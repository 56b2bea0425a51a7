-- What fell to operators, and the sums of weeks and of accounts, are all that was charged less what was given back.
use Rattle.std.proofs.Common.{◌≡◌, ◌∙◌, ℕ, Bool, true, false, cond, if◌then◌else◌, List, [], ◌∷◌, map, filter, fold, length, refl, sym, arith}
use Rattle.std.specs.Prelude.{ℤ, pos, ◌+ℤ◌, ◌&&◌}
use Rattle.std.specs.Cmp.{IsTotalOrder, eq_by_cmp_equiv, nat_cmp_total, unsigned_tied, tied_then, then_total, on_total}
use Rattle.std.specs.List.{AllByRecursion}
use Rattle.std.specs.Ordering.{nat_cmp, eq_by_cmp}
use Rattle.std.proofs.lemmas.Int.{ints}
use Rattle.pay_rules.specs.declared.posting.Posting.{Posting}
use Rattle.pay_money.specs.declared.limits.TheConstants.{OPERATORS}
use Rattle.pay_postings.specs.Words.{total, no_amounts, added, is_of}
use Rattle.pay_postings.specs.Postings.{with_amount}
use Rattle.pay_settle.specs.Laws.{AccountsAreAll, OperatorsAreAll, SumsAreNet, WeeksAreAll}
use Rattle.pay_settle.specs.Settled.{pair_cmp}
use Rattle.pay_settle.specs.Sums.{sum_of, is_in, with_shares, AddsUp}
use Rattle.pay_settle.proofs.Adding.{length-added, total-added}
use Rattle.pay_settle.proofs.Totals.{sum-cons, values_total}

-- ---- operators

shares_from : (so_far : List ℤ) (list : List Posting) → length so_far ≡ OPERATORS → AllByRecursion AddsUp list → total (fold with_shares so_far list) ≡ total so_far +ℤ sum_of list
shares_from so_far [] long each = omega (arith, ints)
shares_from so_far (p ∷ list) long each =
    let one = each.0 in
    let same : length so_far ≡ length p.share_amounts = long ∙ sym one.operators in
    omega (
      arith,
      ints,
      total-added so_far p.share_amounts same,
      one.together,
      sum-cons p list,
      shares_from (added so_far p.share_amounts) list (length-added so_far p.share_amounts same ∙ long) each.1,
    )

pub operators_are_all : OperatorsAreAll
operators_are_all list each =
    let none : total no_amounts ≡ pos 0 = refl in
    omega (arith, ints, none, shares_from no_amounts list refl each)

-- ---- weeks, and accounts and weeks

week_by : (q : ℕ) (p : Posting) → is_in q p ≡ eq_by_cmp nat_cmp q p.quote.week
week_by q p = sym (unsigned_tied p.quote.week q) ∙ (eq_by_cmp_equiv nat_cmp_total).symm p.quote.week q

pub weeks_are_all : WeeksAreAll
weeks_are_all list sums are = values_total nat_cmp_total (λ (p : Posting). p.quote.week) is_in week_by sums.weeks.entries list are.weeks_ordered are.weeks

pair_total : IsTotalOrder pair_cmp
pair_total = then_total (on_total (λ (q : ℕ × ℕ). q.0) nat_cmp_total) (on_total (λ (q : ℕ × ℕ). q.1) nat_cmp_total)

pair_by : (q : ℕ × ℕ) (p : Posting) → is_of q.0 q.1 p ≡ eq_by_cmp pair_cmp q (p.quote.account, p.quote.week)
pair_by q p =
    (λ i. sym (unsigned_tied p.quote.account q.0) i && sym (unsigned_tied p.quote.week q.1) i)
    ∙ tied_then (nat_cmp p.quote.account q.0) (nat_cmp p.quote.week q.1)
    ∙ (eq_by_cmp_equiv pair_total).symm (p.quote.account, p.quote.week) q

pub accounts_are_all : AccountsAreAll
accounts_are_all list sums are =
    values_total pair_total (λ (p : Posting). (p.quote.account, p.quote.week)) (λ (q : ℕ × ℕ). is_of q.0 q.1) pair_by sums.accounts.entries list are.accounts_ordered (λ q. are.accounts q.0 q.1)

-- ---- what a ledger tells

net_from : (account week : ℕ) (so_far : ℤ) (list : List Posting) → fold ◌+ℤ◌ so_far (map (λ (p : Posting). p.amount) (filter (is_of account week) list)) ≡ fold (with_amount account week) so_far list
net_from account week so_far [] = refl
net_from account week so_far (p ∷ list) = by (is_of account week p) (λ n. net_from account week n list)
  where
    by : (b : Bool) → ((n : ℤ) → fold ◌+ℤ◌ n (map (λ (q : Posting). q.amount) (filter (is_of account week) list)) ≡ fold (with_amount account week) n list)
        → fold ◌+ℤ◌ so_far (map (λ (q : Posting). q.amount) (cond b (p ∷ filter (is_of account week) list) (filter (is_of account week) list))) ≡ fold (with_amount account week) (if b then so_far +ℤ p.amount else so_far) list
    by true later = later (so_far +ℤ p.amount)
    by false later = later so_far

pub sums_are_net : SumsAreNet
sums_are_net account week list = net_from account week (pos 0) list
