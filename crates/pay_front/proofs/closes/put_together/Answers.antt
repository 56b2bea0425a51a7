use Rattle.std.proofs.Common.{◌≡◌, List, ℕ, map, sym, subst, rules, Option, None, IfSome}
use Rattle.std.specs.Prelude.{vec_items, IsPermutation, IsSortedByKey}
use Rattle.std.specs.Ordering.{nat_cmp}
use Rattle.std.proofs.lemmas.List.Sorted.{IsPermutation-map, answers_always}
use Rattle.std.proofs.lemmas.Result.{on_ok_weaker}
use Rattle.pay_front.specs.Closes.{all_postings, first_other, posted_line}
use Rattle.pay_front.specs.declared.closes.Posted.{Posted}
use Rattle.pay_front.proofs.closes.put_together.Goals as goal

-- what a posting is sorted by
abbrev account_of : Posted → ℕ
account_of p = p.account

pub returns : goal.returns
returns c =
    let replies : List (List ℕ) = map vec_items c.args.replies.now in
    let none : first_other replies ≡ None = search rules in
    let all : map posted_line c.postings_of.new.all.items ≡ all_postings replies = search rules in
    let sorted = c.sort_by_key.new.self.items in
    let by_account : IsSortedByKey account_of nat_cmp sorted = c.in_ok-sort_by_key.ensures.sorted account_of (answers_always _ _ _ (λ f a r g h. search rules)) in
    let moved : IsPermutation (all_postings replies) (map posted_line sorted) = subst (λ l. IsPermutation l (map posted_line sorted)) all (IsPermutation-map posted_line c.postings_of.new.all.items sorted c.in_ok-sort_by_key.ensures.permutation) in
    on_ok_weaker c.push_close.result (λ written. record {
      other = subst (λ (o : Option (List ℕ)). IfSome o (λ reply. c.push_close.new.out.items ≡ reply)) (sym none) tt;
      close = λ _. (sorted, moved, by_account, search rules);
    }) c.push_close.ensures
