use Rattle.std.proofs.Common.{rules, ℕ, Bool}
use Rattle.std.proofs.lemmas.List.Sorted.{answers_always}
use Rattle.std.proofs.lemmas.Result.{on_ok_weaker}
use Rattle.pay_rules.specs.declared.journey.Journey.{Journey}
use Rattle.pay_rules.specs.RailJourneys.{first_tap}
use Rattle.pay_account.proofs.lines.sort_by_first_tap.Goals as goal

-- what a journey is sorted by
abbrev journey_key : Journey → ℕ × Bool × ℕ × ℕ
journey_key j = ((first_tap j).stamp.utc, (first_tap j).filled, (first_tap j).first, (first_tap j).second)

pub returns : goal.returns
returns c =
    on_ok_weaker c.sort_by_key.result (λ s. c.sorting.ensures first_tap _ _
    (s journey_key (answers_always _ _ _ (λ f a r g h. search rules)))
    (c.sort_by_key.ensures.stable journey_key (answers_always _ _ _ (λ f a r g h. search rules)))) c.sort_by_key.ensures.sorted
