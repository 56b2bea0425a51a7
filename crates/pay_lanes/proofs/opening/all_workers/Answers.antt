use Rattle.std.proofs.Common.{◌≡◌, ◌⊎◌, inl, inr, ◌∙◌, false, [], All, length, ap, rules, sym, subst, vec_items}
use Rattle.std.proofs.lemmas.List.Elements.{All-head, All-tail}
use Rattle.std.proofs.Common.{map as each}
use Rattle.std.specs.Arc.{arc_value}
use Rattle.pay_lanes.proofs.Openings.{workers_begin, workers_then, workers_done, began_first, began_more, began_all, one_less, none_left, of_either}
use Rattle.std.specs.List.{range_with_len}
use Rattle.pay_lanes.specs.Openings.{shard_numbers, requests_of, ways_of}
use Rattle.pay_lanes.proofs.opening.all_workers.Given as given
use Rattle.pay_lanes.proofs.opening.all_workers.Goals as goal

-- no gate has let anything pass yet
pub loop-requests-init : goal.loop-requests-init
loop-requests-init g c =
    let it = c.into_iter-requests-iterator.result in
    let gates : it.b.rest.items ≡ c.args.gates.items = search rules in
    let lanes : it.a.b.rest.items ≡ c.args.lanes.items = search rules in
    let requests : it.a.a.rest.items ≡ c.args.requests.items = search rules in (
      workers_begin (arc_value c.args.editions.now) c.new-made.result.items (each vec_items it.a.b.rest.items, it.a.a.rest.items) (each vec_items c.args.lanes.items, c.args.requests.items)
          c.new-made.ensures.items (ap (each vec_items) lanes) requests c.requires.requests c.requires.lanes,
      ap length gates ∙ (c.requires.gates ∙ sym (ap length requests)),
      subst (All (λ gate. g.G.Gate.Holds gate [] false)) (sym gates) c.requires.none,
      began_first g.G.Gate.began c.args.gates.items c.new-made.result.items it.b.rest.items c.new-made.ensures.items gates,
    )

-- one more worker
pub loop-requests-preserved : goal.loop-requests-preserved
loop-requests-preserved g c =
    let was = c.loop-requests.requests-iterator in
    let is = c.next.new.self in
    let took = c.in-Some.ensures.steps in (
      workers_then (arc_value c.args.editions.now) c.loop-requests.made.items c.loop-requests.number (each vec_items c.args.lanes.items, c.args.requests.items)
          (each vec_items was.a.b.rest.items) (each vec_items is.a.b.rest.items) was.a.a.rest.items is.a.a.rest.items
          c.in-Some.lanes.items c.in-Some.requests c.in_ok-worker.field-0 c.push.new.self.items
          (ap (each vec_items) took.0.1.0) took.0.0.0
          (record { its_number = c.in_ok-worker.ensures.number; its_requests = c.in_ok-worker.ensures.requests; its_lanes = c.in_ok-worker.ensures.lanes; its_new = c.in_ok-worker.ensures.new })
          c.in_ok-push.ensures.items c.loop-requests.invariant.0,
      one_less was.b.rest.items is.b.rest.items was.a.a.rest.items is.a.a.rest.items c.in-Some.gate c.in-Some.requests took.1.0 took.0.0.0 c.loop-requests.invariant.1,
      All-tail (λ gate. g.G.Gate.Holds gate [] false) c.in-Some.gate is.b.rest.items (subst (All (λ gate. g.G.Gate.Holds gate [] false)) took.1.0 c.loop-requests.invariant.2),
      began_more g.G.Gate.began c.args.gates.items c.loop-requests.made.items c.push.new.self.items c.in_ok-worker.field-0 was.b.rest.items is.b.rest.items c.in-Some.gate
          c.in_ok-push.ensures.items c.in_ok-worker.ensures.began took.1.0 c.loop-requests.invariant.3,
    )

-- its gate has let nothing pass
pub worker-requires-clause-gate : goal.worker-requires-clause-gate
worker-requires-clause-gate g c =
    All-head (λ gate. g.G.Gate.Holds gate [] false) c.in-Some.gate c.next.new.self.b.rest.items
    (subst (All (λ gate. g.G.Gate.Holds gate [] false)) c.in-Some.ensures.steps.1.0 c.loop-requests.invariant.2)

-- the lists, or the receivers, have come to their end
abbrev Ended : (g : given.Over) → goal.After-drop-requests-iterator-4 g → Type 0
Ended g c = (each vec_items c.loop-requests.requests-iterator.a.b.rest.items ≡ []) ⊎ (c.loop-requests.requests-iterator.a.a.rest.items ≡ [])

ended : (g : given.Over) (c : goal.After-drop-requests-iterator-4 g) → Ended g c
ended g c =
    let left = c.loop-requests.requests-iterator in
    of_either c.in-None.ensures.steps
    (λ inner. of_either inner.1 (λ end. inr (none_left left.a.a.rest.items left.a.a.rest.len left.a.a.rest.ok.0 end.1.0)) (λ end. inl (ap (each vec_items) (none_left left.a.b.rest.items left.a.b.rest.len left.a.b.rest.ok.0 end.1.0))))
    (λ end. inr (none_left left.a.a.rest.items (length left.b.rest.items) c.loop-requests.invariant.1 (sym left.b.rest.ok.0 ∙ end.1.0)))

-- all is made
abbrev Done : (g : given.Over) → goal.After-drop-requests-iterator-4 g → Type 0
Done g c =
    (shard_numbers c.loop-requests.made.items ≡ range_with_len 0 (length c.args.requests.items))
    × (requests_of c.loop-requests.made.items ≡ c.args.requests.items)
    × (ways_of c.loop-requests.made.items ≡ each vec_items c.args.lanes.items)

done : (g : given.Over) (c : goal.After-drop-requests-iterator-4 g) → Done g c
done g c =
    workers_done (arc_value c.args.editions.now) c.loop-requests.made.items c.loop-requests.number (each vec_items c.args.lanes.items, c.args.requests.items)
    (each vec_items c.loop-requests.requests-iterator.a.b.rest.items) c.loop-requests.requests-iterator.a.a.rest.items (ended g c) c.loop-requests.invariant.0

pub returns-clause-numbers : goal.returns-clause-numbers
returns-clause-numbers g c = (done g c).0

pub returns-clause-requests : goal.returns-clause-requests
returns-clause-requests g c = (done g c).1

pub returns-clause-lanes : goal.returns-clause-lanes
returns-clause-lanes g c = (done g c).2

pub returns-clause-began : goal.returns-clause-began
returns-clause-began g c =
    let left = c.loop-requests.requests-iterator in
    began_all g.G.Gate.began c.args.gates.items c.loop-requests.made.items left.b.rest.items (each vec_items left.a.b.rest.items) left.a.a.rest.items (ended g c) c.loop-requests.invariant.0.ready c.loop-requests.invariant.1 c.loop-requests.invariant.3
