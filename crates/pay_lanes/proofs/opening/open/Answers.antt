use Rattle.std.proofs.Common.{◌∙◌, ◌≤◌, ap, sym, subst, All, length, vec_items}
use Rattle.std.specs.Arc.{arc_value}
use Rattle.pay_lanes.proofs.Openings.{came_back, lists_made, lists_length, made_new, got_none, ready_now, lanes_are, workers_are, more_length, lanes_numbered, lanes_are_new, workers_are_new, are_together}
use Rattle.pay_lanes.specs.declared.limits.TheConstants.{MOST_REQUESTS, MOST_ANSWERS, MOST_LANES}
use Rattle.pay_lanes.specs.Ends.{numbers, AreTogether}
use Rattle.pay_lanes.specs.Openings.{IsNewLane}
use Rattle.pay_lanes.proofs.opening.open.Goals as goal

-- there are as many lists as mailboxes
pub all_lanes-requires-clause-count : goal.all_lanes-requires-clause-count
all_lanes-requires-clause-count g c =
    let rs = c.in_ok-requests.requests.items in
    let qs = c.in_ok-answers.answers.items in
    let answers = came_back c.in_ok-answers.answers.len c.args.shards qs c.deref_mut-2.result.now c.all_outboxes-2.new.inboxes c.in_ok-answers.answers.ok.0 c.deref_mut-2.ensures.value c.in_ok-to_lanes.ensures.inboxes in
    let to_shards = lists_made vec_items c.args.lanes c.in_ok-to_shards.to_shards.items rs c.deref_mut.result.now c.deref_mut.ensures.value c.in_ok-to_shards.ensures.made in
    let so_many = lists_length vec_items c.args.lanes c.in_ok-to_shards.to_shards.items rs to_shards in
    ap length answers ∙ (more_length c.args.shards qs ∙ (c.in_ok-answers.ensures.count ∙ sym so_many))

pub all_lanes-requires-clause-few : goal.all_lanes-requires-clause-few
all_lanes-requires-clause-few g c =
    let rs = c.in_ok-requests.requests.items in
    let to_shards = lists_made vec_items c.args.lanes c.in_ok-to_shards.to_shards.items rs c.deref_mut.result.now c.deref_mut.ensures.value c.in_ok-to_shards.ensures.made in
    let so_many = lists_length vec_items c.args.lanes c.in_ok-to_shards.to_shards.items rs to_shards in
    subst (λ n. n ≤ MOST_LANES) (sym so_many) c.if-lanes-gt-MOST_LANES.false

pub all_lanes-requires-clause-shards : goal.all_lanes-requires-clause-shards
all_lanes-requires-clause-shards g c =
    let rs = c.in_ok-requests.requests.items in
    let to_shards = lists_made vec_items c.args.lanes c.in_ok-to_shards.to_shards.items rs c.deref_mut.result.now c.deref_mut.ensures.value c.in_ok-to_shards.ensures.made in
    made_new vec_items MOST_REQUESTS c.args.lanes c.in_ok-to_shards.to_shards.items rs to_shards c.in_ok-requests.ensures.new

pub all_lanes-requires-clause-answers : goal.all_lanes-requires-clause-answers
all_lanes-requires-clause-answers g c =
    let qs = c.in_ok-answers.answers.items in
    let answers = came_back c.in_ok-answers.answers.len c.args.shards qs c.deref_mut-2.result.now c.all_outboxes-2.new.inboxes c.in_ok-answers.answers.ok.0 c.deref_mut-2.ensures.value c.in_ok-to_lanes.ensures.inboxes in
    got_none MOST_ANSWERS c.args.shards qs _ answers c.in_ok-answers.ensures.new

-- each mailbox has made one sender for each lane
pub all_workers-requires-clause-requests : goal.all_workers-requires-clause-requests
all_workers-requires-clause-requests g c =
    let rs = c.in_ok-requests.requests.items in
    let qs = c.in_ok-answers.answers.items in
    let requests = came_back c.in_ok-requests.requests.len c.args.lanes rs c.deref_mut.result.now c.all_outboxes.new.inboxes c.in_ok-requests.requests.ok.0 c.deref_mut.ensures.value c.in_ok-to_shards.ensures.inboxes in
    let to_lanes = lists_made vec_items c.args.shards c.in_ok-to_lanes.to_lanes.items qs c.deref_mut-2.result.now c.deref_mut-2.ensures.value c.in_ok-to_lanes.ensures.made in
    ready_now c.args.shards c.args.lanes rs _ qs _ c.in_ok-requests.ensures.count c.in_ok-answers.ensures.count requests to_lanes c.in_ok-requests.ensures.new

pub all_workers-requires-clause-lanes : goal.all_workers-requires-clause-lanes
all_workers-requires-clause-lanes g c =
    let qs = c.in_ok-answers.answers.items in
    let to_lanes = lists_made vec_items c.args.shards c.in_ok-to_lanes.to_lanes.items qs c.deref_mut-2.result.now c.deref_mut-2.ensures.value c.in_ok-to_lanes.ensures.made in
    made_new vec_items MOST_ANSWERS c.args.shards c.in_ok-to_lanes.to_lanes.items qs to_lanes c.in_ok-answers.ensures.new

-- what is opened
pub returns-clause-new_workers : goal.returns-clause-new_workers
returns-clause-new_workers g c =
    let rs = c.in_ok-requests.requests.items in
    let qs = c.in_ok-answers.answers.items in
    let requests = came_back c.in_ok-requests.requests.len c.args.lanes rs c.deref_mut.result.now c.all_outboxes.new.inboxes c.in_ok-requests.requests.ok.0 c.deref_mut.ensures.value c.in_ok-to_shards.ensures.inboxes in
    let to_lanes = lists_made vec_items c.args.shards c.in_ok-to_lanes.to_lanes.items qs c.deref_mut-2.result.now c.deref_mut-2.ensures.value c.in_ok-to_lanes.ensures.made in
    let over = workers_are (arc_value c.args.editions) c.args.shards c.args.lanes rs _ qs _ c.in_ok-workers.workers.items to_lanes requests c.in_ok-workers.ensures.requests c.in_ok-workers.ensures.lanes c.in_ok-workers.ensures.new in
    workers_are_new c.args.shards c.args.lanes rs qs (arc_value c.args.editions) c.in_ok-workers.workers.items over c.in_ok-answers.ensures.count

pub returns-clause-lanes : goal.returns-clause-lanes
returns-clause-lanes g c =
    let rs = c.in_ok-requests.requests.items in
    let qs = c.in_ok-answers.answers.items in
    let answers = came_back c.in_ok-answers.answers.len c.args.shards qs c.deref_mut-2.result.now c.all_outboxes-2.new.inboxes c.in_ok-answers.answers.ok.0 c.deref_mut-2.ensures.value c.in_ok-to_lanes.ensures.inboxes in
    let to_shards = lists_made vec_items c.args.lanes c.in_ok-to_shards.to_shards.items rs c.deref_mut.result.now c.deref_mut.ensures.value c.in_ok-to_shards.ensures.made in
    let made = lanes_are c.args.shards c.args.lanes rs qs _ _ c.in_ok-lanes.lanes.items to_shards answers c.in_ok-lanes.ensures in
    ap numbers made ∙ lanes_numbered c.args.shards c.args.lanes rs qs c.in_ok-answers.ensures.count

pub returns-clause-new_lanes : goal.returns-clause-new_lanes
returns-clause-new_lanes g c =
    let rs = c.in_ok-requests.requests.items in
    let qs = c.in_ok-answers.answers.items in
    let answers = came_back c.in_ok-answers.answers.len c.args.shards qs c.deref_mut-2.result.now c.all_outboxes-2.new.inboxes c.in_ok-answers.answers.ok.0 c.deref_mut-2.ensures.value c.in_ok-to_lanes.ensures.inboxes in
    let to_shards = lists_made vec_items c.args.lanes c.in_ok-to_shards.to_shards.items rs c.deref_mut.result.now c.deref_mut.ensures.value c.in_ok-to_shards.ensures.made in
    let made = lanes_are c.args.shards c.args.lanes rs qs _ _ c.in_ok-lanes.lanes.items to_shards answers c.in_ok-lanes.ensures in
    subst (All (IsNewLane c.args.shards)) (sym made) (lanes_are_new c.args.shards c.args.lanes rs qs c.in_ok-requests.ensures.count c.in_ok-requests.ensures.new c.in_ok-answers.ensures.new)

pub returns-clause-together : goal.returns-clause-together
returns-clause-together g c =
    let rs = c.in_ok-requests.requests.items in
    let qs = c.in_ok-answers.answers.items in
    let requests = came_back c.in_ok-requests.requests.len c.args.lanes rs c.deref_mut.result.now c.all_outboxes.new.inboxes c.in_ok-requests.requests.ok.0 c.deref_mut.ensures.value c.in_ok-to_shards.ensures.inboxes in
    let answers = came_back c.in_ok-answers.answers.len c.args.shards qs c.deref_mut-2.result.now c.all_outboxes-2.new.inboxes c.in_ok-answers.answers.ok.0 c.deref_mut-2.ensures.value c.in_ok-to_lanes.ensures.inboxes in
    let to_shards = lists_made vec_items c.args.lanes c.in_ok-to_shards.to_shards.items rs c.deref_mut.result.now c.deref_mut.ensures.value c.in_ok-to_shards.ensures.made in
    let to_lanes = lists_made vec_items c.args.shards c.in_ok-to_lanes.to_lanes.items qs c.deref_mut-2.result.now c.deref_mut-2.ensures.value c.in_ok-to_lanes.ensures.made in
    let made = lanes_are c.args.shards c.args.lanes rs qs _ _ c.in_ok-lanes.lanes.items to_shards answers c.in_ok-lanes.ensures in
    let over = workers_are (arc_value c.args.editions) c.args.shards c.args.lanes rs _ qs _ c.in_ok-workers.workers.items to_lanes requests c.in_ok-workers.ensures.requests c.in_ok-workers.ensures.lanes c.in_ok-workers.ensures.new in
    subst (AreTogether c.in_ok-workers.workers.items) (sym made) (are_together c.args.shards c.args.lanes rs qs (arc_value c.args.editions) c.in_ok-workers.workers.items over c.in_ok-requests.ensures.count c.in_ok-answers.ensures.count c.if-shards-gt-MOST_SHARDS.false
    (lanes_are_new c.args.shards c.args.lanes rs qs c.in_ok-requests.ensures.count c.in_ok-requests.ensures.new c.in_ok-answers.ensures.new))
