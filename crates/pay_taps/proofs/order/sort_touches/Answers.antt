use Rattle.std.proofs.Common.{rules, length, ap, ◌∙◌}
use Rattle.std.proofs.lemmas.List.Sorted.{answers_always, length_permutation}
use Rattle.std.proofs.lemmas.Result.{on_ok_weaker}
use Rattle.pay_rules.specs.Order.{comes_before}
use Rattle.pay_taps.proofs.Sorting.{stable_sort, ordered_permutes}
use Rattle.pay_taps.proofs.TouchOrder.{touch_key, touches_ranked}
use Rattle.pay_taps.proofs.order.sort_touches.Goals as goal

pub returns-clause-sorted : goal.returns-clause-sorted
returns-clause-sorted c =
    on_ok_weaker c.sort_by_key.result (λ s. stable_sort comes_before touches_ranked _ _
    (s touch_key (answers_always _ _ _ (λ f a r g h. search rules)))
    (c.sort_by_key.ensures.stable touch_key (answers_always _ _ _ (λ f a r g h. search rules)))) c.sort_by_key.ensures.sorted

pub returns-clause-in_order : goal.returns-clause-in_order
returns-clause-in_order c =
    on_ok_weaker c.sort_by_key.result (λ s. s touch_key (answers_always _ _ _ (λ f a r g h. search rules))) c.sort_by_key.ensures.sorted

pub returns-clause-as_many : goal.returns-clause-as_many
returns-clause-as_many c =
    on_ok_weaker c.sort_by_key.result (λ e. ap length e ∙ length_permutation _ _ (ordered_permutes comes_before _)) (returns-clause-sorted c)
