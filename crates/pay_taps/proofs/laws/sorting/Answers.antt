use Rattle.pay_rules.specs.Order.{comes_before}
use Rattle.pay_taps.proofs.Sorting.{stable_sort}
use Rattle.pay_taps.proofs.TouchOrder.{ranked_by}
use Rattle.pay_taps.proofs.laws.sorting.Goals as goal

pub returns : goal.returns
returns g c = λ touch list sorted up stays. stable_sort (λ a b. comes_before (touch a) (touch b)) (ranked_by touch) list sorted up stays
