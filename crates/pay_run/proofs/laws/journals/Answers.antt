use Rattle.pay_run.proofs.NewRequests.{replay_alone, stay_new, in_any_order, cut_leaves, front_replays, kept_gives, kept_in_any_order}
use Rattle.pay_run.proofs.laws.journals.Goals as goal

pub returns : goal.returns
returns c =
    let others_stay = c.accepted_alone.ensures.others in
    let forgets = c.order_forgets_arrival.ensures.accepted in
    record {
      one = replay_alone others_stay;
      newly = stay_new others_stay;
      many = in_any_order others_stay forgets;
      cut = cut_leaves;
      front = front_replays others_stay;
      goes_on = kept_gives others_stay;
      any_order = kept_in_any_order others_stay forgets;
    }
