use Rattle.std.proofs.Common.{rules, ℕ}
use Rattle.std.proofs.lemmas.List.Sorted.{answers_always}
use Rattle.std.proofs.lemmas.Result.{on_ok_weaker}
use Rattle.pay_rules.specs.SetsParts.{SetsParts}
use Rattle.pay_close.proofs.Sorting.{sorted_by}
use Rattle.pay_close.proofs.gathered.sort_sets.Goals as goal

-- what sets are sorted by
abbrev account_of : SetsParts → ℕ
account_of s = s.account

pub returns : goal.returns
returns c =
    on_ok_weaker c.sort_by_key.result (λ up. sorted_by account_of _ _
    (up account_of (answers_always _ _ _ (λ f a r g h. search rules)))
    (c.sort_by_key.ensures.stable account_of (answers_always _ _ _ (λ f a r g h. search rules)))) c.sort_by_key.ensures.sorted
