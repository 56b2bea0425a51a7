-- The weights of the operators: what falls to each of journeys' fares.
use Rattle.std.specs.Prelude.{ℕ, ◌==◌, if◌then◌else◌, List, map, sum_by}
use Rattle.std.specs.List.{flat_map, range_with_len}
use Rattle.pay_money.specs.declared.limits.TheConstants.{OPERATORS}
use Rattle.pay_tables.specs.Words.{FareTables}
use Rattle.pay_rules.specs.declared.journey.Journey.{Journey}
use Rattle.pay_rules.specs.Portions.{Portion, portions}

-- the fares of journeys, together
abbrev pub sum_of_fares : List (Journey × ℕ) → ℕ
sum_of_fares journeys = sum_by (λ (one : Journey × ℕ). one.1) journeys

-- the portions of all of them
abbrev pub all_portions : FareTables → List (Journey × ℕ) → List Portion
all_portions tables journeys = flat_map (λ (one : Journey × ℕ). portions tables one.0 one.1) journeys

-- what falls to one operator of portions
abbrev pub weight : List Portion → ℕ → ℕ
weight list operator = sum_by (λ (one : Portion). if one.operator == operator then one.pence else 0) list

-- and to each of them, from operator 1 on
abbrev pub weights_of : List Portion → List ℕ
weights_of list = map (weight list) (range_with_len 1 OPERATORS)

-- the weights of the operators: what falls to each of the journeys' fares
abbrev pub weights : FareTables → List (Journey × ℕ) → List ℕ
weights tables journeys = weights_of (all_portions tables journeys)
