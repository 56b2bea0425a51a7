-- Of postings that were posted one after another, all fell to operators.
use Rattle.std.proofs.Common.{◌≡◌, ◌∙◌, true, List, [], ◌∷◌, ◌++◌, length, Option, Some, None, sym, ap, arith}
use Rattle.std.specs.Prelude.{ℤ, pos}
use Rattle.std.specs.List.{AllByRecursion}
use Rattle.std.proofs.lemmas.Int.{ints}
use Rattle.pay_money.specs.declared.limits.TheConstants.{OPERATORS}
use Rattle.pay_rules.specs.declared.posting.Posting.{Posting}
use Rattle.pay_postings.specs.Words.{total, added, is_of, net, shares_posted, last_of, IsPaid, ArePaid}
use Rattle.pay_postings.specs.Paid.{EachStands}
use Rattle.pay_postings.proofs.Reading.{net_more, shares_more}
use Rattle.pay_postings.proofs.Settling.{Settled, settled_all, each_more, total_of_shares, length_of_shares, of_its_own}
use Rattle.pay_settle.specs.Laws.{PaidAddUp}
use Rattle.pay_settle.specs.Sums.{AddsUp}
use Rattle.pay_settle.proofs.Adding.{total-added}

-- what was posted for an account and a week fell to operators
record IsShared (amount : ℤ) (shares : List ℤ) : Type 0 where
  together : total shares ≡ amount
  operators : length shares ≡ OPERATORS

paid_is_shared : (p : Posting) (amount : ℤ) (shares : List ℤ) → IsPaid p amount shares → IsShared amount shares
paid_is_shared p amount shares paid = record {
  together = ap total paid.shared ∙ total_of_shares p.quote.shares ∙ ap pos paid.quote.shared ∙ sym paid.due;
  operators = ap length paid.shared ∙ length_of_shares p.quote.shares ∙ paid.quote.operators;
}

settled_is_shared : (last : Option Posting) (amount : ℤ) (shares : List ℤ) → Settled IsPaid last amount shares → IsShared amount shares
settled_is_shared None amount shares none = record { together = ap total none.1 ∙ sym none.0; operators = ap length none.1 }
settled_is_shared (Some p) amount shares paid = paid_is_shared p amount shares paid

module _ (before : List Posting) (p : Posting) (posted : ArePaid before) (paid : IsPaid p (net p.quote.account p.quote.week (before ++ p ∷ [])) (shares_posted p.quote.account p.quote.week (before ++ p ∷ []))) where
  -- the next one
  next_adds_up : AddsUp p
  next_adds_up =
      let account = p.quote.account in
      let week = p.quote.week in
      let its : is_of account week p ≡ true = of_its_own p.quote in
      let before_it = settled_is_shared (last_of account week before) (net account week before) (shares_posted account week before) (settled_all IsPaid account week before posted) in
      let after_it = paid_is_shared p (net account week (before ++ p ∷ [])) (shares_posted account week (before ++ p ∷ [])) paid in
      let both = total-added (shares_posted account week before) p.share_amounts (before_it.operators ∙ sym paid.amounts) in
      let all : total (added (shares_posted account week before) p.share_amounts) ≡ net account week (before ++ p ∷ []) = ap total (sym (shares_more account week before p its)) ∙ after_it.together in
      record { operators = paid.amounts; together = omega (arith, ints, both, all, before_it.together, net_more account week before p its) }

each_adds_up : (before list : List Posting) → ArePaid before → EachStands IsPaid before list → AllByRecursion AddsUp list
each_adds_up before [] posted each = tt
each_adds_up before (p ∷ list) posted each = (next_adds_up before p posted each.0, each_adds_up (before ++ p ∷ []) list (each_more IsPaid [] before p posted each.0) each.1)

pub paid_add_up : PaidAddUp
paid_add_up list paid = each_adds_up [] list tt paid
