use Rattle.pay_rules.specs.Order.{comes_before, in_order}
use Rattle.pay_taps.proofs.Sorting.{ordered_permutes, ordered_rises, ordered_keeps, sorted_from_rises}
use Rattle.pay_taps.proofs.TouchOrder.{touches_ranked}
use Rattle.pay_taps.proofs.laws.order.Goals as goal

pub returns : goal.returns
returns c = record {
  same_touches = ordered_permutes comes_before;
  in_order = λ list. sorted_from_rises comes_before (in_order list) (ordered_rises comes_before touches_ranked list);
  ties_stay = λ list touch. ordered_keeps comes_before touches_ranked touch list;
}
