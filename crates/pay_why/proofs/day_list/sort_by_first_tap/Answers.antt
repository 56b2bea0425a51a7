use Rattle.std.proofs.Common.{rules, ℕ, Bool}
use Rattle.std.proofs.lemmas.List.Sorted.{answers_always}
use Rattle.std.proofs.lemmas.Result.{on_ok_weaker}
use Rattle.pay_why.specs.declared.listed.ListedJourney.{ListedJourney}
use Rattle.pay_why.proofs.day_list.sort_by_first_tap.Goals as goal

-- what a journey is sorted by
abbrev listed_key : ListedJourney → ℕ × Bool × ℕ × ℕ
listed_key one = (one.tap.stamp.utc, one.tap.filled, one.tap.first, one.tap.second)

pub returns : goal.returns
returns c =
    on_ok_weaker c.sort_by_key.result (λ s. c.sorting.ensures (λ (one : ListedJourney). one.tap) _ _
    (s listed_key (answers_always _ _ _ (λ f a r g h. search rules)))
    (c.sort_by_key.ensures.stable listed_key (answers_always _ _ _ (λ f a r g h. search rules)))) c.sort_by_key.ensures.sorted
