use Rattle.std.proofs.Common.{rules, ℕ}
use Rattle.std.proofs.lemmas.List.Sorted.{answers_always}
use Rattle.std.proofs.lemmas.Result.{on_ok_weaker}
use Rattle.pay_rules.specs.QuoteParts.{QuoteParts}
use Rattle.pay_close.proofs.Sorting.{sorted_by}
use Rattle.pay_close.proofs.gathered.sort_quotes.Goals as goal

-- what a quote is sorted by
abbrev account_of : QuoteParts → ℕ
account_of q = q.account

pub returns : goal.returns
returns c =
    on_ok_weaker c.sort_by_key.result (λ s. sorted_by account_of _ _
    (s account_of (answers_always _ _ _ (λ f a r g h. search rules)))
    (c.sort_by_key.ensures.stable account_of (answers_always _ _ _ (λ f a r g h. search rules)))) c.sort_by_key.ensures.sorted
