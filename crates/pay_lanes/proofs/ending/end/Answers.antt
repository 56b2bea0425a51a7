use Rattle.std.proofs.Common.{◌≡◌, All, ◌<◌, [], inl, inr, length, ap, rules, sym, ◌∙◌, subst, IsPermutation, arith}
use Rattle.std.proofs.Common.{map as each}
use Rattle.std.proofs.lemmas.Iterator.Adapters.{YieldsList-from_vec}
use Rattle.std.proofs.lemmas.Iterator.Consumers.{YieldsList-turn, YieldsList-end}
use Rattle.std.proofs.lemmas.List.{length_push}
use Rattle.std.proofs.lemmas.List.Elements.{All-nil}
use Rattle.std.specs.List.{range_with_len}
use Rattle.arrayvec.specs.ArrayVec.{array_vec_len}
use Rattle.pay_lanes.specs.Ends.{lanes_of, numbers}
use Rattle.pay_lanes.specs.Gates.{HavePassed}
use Rattle.pay_lanes.proofs.Numbers.{in_order_all, count, order_at}
use Rattle.pay_lanes.proofs.Exchanges.{each_length}
use Rattle.pay_lanes.proofs.Endings.{none_ended, next_here, one_ended, pushed, journals_end, many_end, known_end, asked_end, right_end, sent_end, answered_end, one_passed, one_gate_more, gates_end, one_began, began_end}
use Rattle.pay_lanes.proofs.InMemory.{whole_more}
use Rattle.pay_shard.specs.Words.{JournalParts}
use Rattle.pay_lanes.proofs.ending.end.Goals as goal

pub returns-then-not-put_in_order-clause-missing :
    goal.returns-then-not-put_in_order-clause-missing
returns-then-not-put_in_order-clause-missing g c = λ all.
    let yes = c.put_in_order.ensures.all.1 (subst (λ n. IsPermutation (range_with_len 0 n) (numbers c.args.lanes.items)) (sym (count c.deref.result.now c.args.workers.items c.lanes_of-count.result c.deref.ensures.value c.lanes_of-count.ensures)) all) in
    let no = c.if-not-put_in_order.true in
    cc

pub loop-worker-init : goal.loop-worker-init
loop-worker-init g c = (
  none_ended c.args.workers.items c.args.lanes.items c.put_in_order.new.lanes.items c.requires c.put_in_order.ensures.moved
      (order_at c.put_in_order.new.lanes.items c.deref.result.now c.args.workers.items c.lanes_of-count.result c.deref.ensures.value c.lanes_of-count.ensures (c.put_in_order.ensures.in_order (search rules)))
      _ _ _ _ c.new_in.ensures c.new_in-2.ensures,
  search rules,
  search rules,
  subst (λ gates. HavePassed g.G.Gate.Holds c.put_in_order.new.lanes.items [] gates) (sym c.new.ensures.items) tt,
  ap length c.new.ensures.items,
  inl c.new.ensures.items,
  ap (each g.G.Gate.began) c.new.ensures.items,
  λ keeps. subst (All (λ (j : JournalParts). j.memory.forgotten ≡ 0)) (sym c.new_in.ensures) (All-nil (λ (j : JournalParts). j.memory.forgotten ≡ 0)),
)

pub end_worker-journal-requires-clause-next : goal.end_worker-journal-requires-clause-next
end_worker-journal-requires-clause-next g c =
    let turn = (YieldsList-turn (YieldsList-from_vec {s = c.into_iter-worker-iterator.result} c.args.workers.items c.into_iter-worker-iterator.ensures.into_iter_gives.0 (c.into_iter-worker-iterator.ensures.into_iter_gives.1 ∙ c.args.workers.ok.0)) c.loop-worker.yielded c.loop-worker.worker-iterator c.loop-worker.yielded_by c.next.result c.next.new.self c.in-Some.worker c.in-Some.is c.next.ensures.steps) in
    next_here _ _ _ _ _ _ c.loop-worker.invariant.0 c.in-Some.worker turn.0 turn.1

pub end_worker-journal-requires-clause-few : goal.end_worker-journal-requires-clause-few
end_worker-journal-requires-clause-few g c =
    let turn = (YieldsList-turn (YieldsList-from_vec {s = c.into_iter-worker-iterator.result} c.args.workers.items c.into_iter-worker-iterator.ensures.into_iter_gives.0 (c.into_iter-worker-iterator.ensures.into_iter_gives.1 ∙ c.args.workers.ok.0)) c.loop-worker.yielded c.loop-worker.worker-iterator c.loop-worker.yielded_by c.next.result c.next.new.self c.in-Some.worker c.in-Some.is c.next.ensures.steps) in
    omega (arith, c.loop-worker.invariant.4, turn.0, c.requires.few)

pub push-requires : goal.push-requires
push-requires g c =
    let turn = (YieldsList-turn (YieldsList-from_vec {s = c.into_iter-worker-iterator.result} c.args.workers.items c.into_iter-worker-iterator.ensures.into_iter_gives.0 (c.into_iter-worker-iterator.ensures.into_iter_gives.1 ∙ c.args.workers.ok.0)) c.loop-worker.yielded c.loop-worker.worker-iterator c.loop-worker.yielded_by c.next.result c.next.new.self c.in-Some.worker c.in-Some.is c.next.ensures.steps) in
    let within : array_vec_len c.loop-worker.ended.journals < 16 = omega (arith, c.loop-worker.invariant.1, turn.0, c.requires.few) in
    (search rules, within)

pub push-requires-in-loop-worker : goal.push-requires-in-loop-worker
push-requires-in-loop-worker g c =
    let turn = (YieldsList-turn (YieldsList-from_vec {s = c.into_iter-worker-iterator.result} c.args.workers.items c.into_iter-worker-iterator.ensures.into_iter_gives.0 (c.into_iter-worker-iterator.ensures.into_iter_gives.1 ∙ c.args.workers.ok.0)) c.loop-worker.yielded c.loop-worker.worker-iterator c.loop-worker.yielded_by c.next.result c.next.new.self c.in-Some.worker c.in-Some.is c.next.ensures.steps) in
    let within : array_vec_len c.loop-worker.ended.left < 16 = omega (arith, c.loop-worker.invariant.2, turn.0, c.requires.few) in
    (search rules, within)

pub loop-worker-preserved : goal.loop-worker-preserved
loop-worker-preserved g c =
    let turn = (YieldsList-turn (YieldsList-from_vec {s = c.into_iter-worker-iterator.result} c.args.workers.items c.into_iter-worker-iterator.ensures.into_iter_gives.0 (c.into_iter-worker-iterator.ensures.into_iter_gives.1 ∙ c.args.workers.ok.0)) c.loop-worker.yielded c.loop-worker.worker-iterator c.loop-worker.yielded_by c.next.result c.next.new.self c.in-Some.worker c.in-Some.is c.next.ensures.steps) in
    let more = length_push c.loop-worker.yielded c.in-Some.worker in (
      one_ended _ _ _ _ _ _ c.loop-worker.invariant.0 c.in-Some.worker turn.0 turn.1 _ c.end_worker-journal.new.lanes.items c.end_worker-journal.result.0.items c.end_worker-journal.result.1.items _ _ more
          c.end_worker-journal.ensures.journal c.end_worker-journal.ensures.lanes c.end_worker-journal.ensures.sent c.end_worker-journal.ensures.answered c.requires.workers_of c.end_worker-journal.ensures.known c.end_worker-journal.ensures.right
          (pushed _ c.loop-worker.ended.journals.items c.push.new.self.items c.end_worker-journal.result.0 c.push.ensures.items) (pushed _ c.loop-worker.ended.left.items c.push-in-loop-worker.new.self.items c.end_worker-journal.result.1 c.push-in-loop-worker.ensures.items),
      omega (arith, c.loop-worker.invariant.1, more, c.push.ensures.len),
      omega (arith, c.loop-worker.invariant.2, more, c.push-in-loop-worker.ensures.len),
      one_passed _ _ _ _ _ _ c.loop-worker.invariant.0 c.in-Some.worker turn.0 turn.1 g.G.Gate.Holds _ _ _ more c.loop-worker.invariant.3 c.end_worker-journal.ensures.passed,
      one_gate_more _ _ _ _ _ _ _ c.loop-worker.invariant.4 more c.end_worker-journal.ensures.passed,
      inr c.end_worker-journal.ensures.has_room,
      one_began _ _ _ _ _ _ c.loop-worker.invariant.0 c.in-Some.worker turn.0 turn.1 g.G.Gate.began _ _ _ more c.loop-worker.invariant.6 c.end_worker-journal.ensures.began,
      λ keeps. whole_more c.loop-worker.ended.journals.items c.push.new.self.items c.end_worker-journal.result.0 c.push.ensures.items (c.end_worker-journal.ensures.whole keeps) (c.loop-worker.invariant.7 keeps),
    )

pub returns-clause-all : goal.returns-clause-all
returns-clause-all g c =
    in_order_all (lanes_of c.args.workers.items) c.args.lanes.items c.put_in_order.new.lanes.items c.put_in_order.ensures.moved
    (order_at c.put_in_order.new.lanes.items c.deref.result.now c.args.workers.items c.lanes_of-count.result c.deref.ensures.value c.lanes_of-count.ensures (c.put_in_order.ensures.in_order (search rules)))

pub returns-clause-journals : goal.returns-clause-journals
returns-clause-journals g c =
    let end = (YieldsList-end (YieldsList-from_vec {s = c.into_iter-worker-iterator.result} c.args.workers.items c.into_iter-worker-iterator.ensures.into_iter_gives.0 (c.into_iter-worker-iterator.ensures.into_iter_gives.1 ∙ c.args.workers.ok.0)) c.loop-worker.yielded c.loop-worker.worker-iterator c.loop-worker.yielded_by c.next.result c.next.new.self c.in-None.is c.next.ensures.steps) in
    journals_end _ _ _ _ _ _ c.loop-worker.invariant.0 end.1

pub returns-clause-asked : goal.returns-clause-asked
returns-clause-asked g c =
    let end = (YieldsList-end (YieldsList-from_vec {s = c.into_iter-worker-iterator.result} c.args.workers.items c.into_iter-worker-iterator.ensures.into_iter_gives.0 (c.into_iter-worker-iterator.ensures.into_iter_gives.1 ∙ c.args.workers.ok.0)) c.loop-worker.yielded c.loop-worker.worker-iterator c.loop-worker.yielded_by c.next.result c.next.new.self c.in-None.is c.next.ensures.steps) in
    asked_end _ _ _ _ _ _ c.loop-worker.invariant.0 end.1 c.args.lanes.items c.requires c.put_in_order.ensures.moved
    (order_at c.put_in_order.new.lanes.items c.deref.result.now c.args.workers.items c.lanes_of-count.result c.deref.ensures.value c.lanes_of-count.ensures (c.put_in_order.ensures.in_order (search rules)))

pub returns-clause-right : goal.returns-clause-right
returns-clause-right g c =
    let end = (YieldsList-end (YieldsList-from_vec {s = c.into_iter-worker-iterator.result} c.args.workers.items c.into_iter-worker-iterator.ensures.into_iter_gives.0 (c.into_iter-worker-iterator.ensures.into_iter_gives.1 ∙ c.args.workers.ok.0)) c.loop-worker.yielded c.loop-worker.worker-iterator c.loop-worker.yielded_by c.next.result c.next.new.self c.in-None.is c.next.ensures.steps) in
    right_end _ _ _ _ _ _ c.loop-worker.invariant.0 end.1

pub returns-clause-many : goal.returns-clause-many
returns-clause-many g c =
    let end = (YieldsList-end (YieldsList-from_vec {s = c.into_iter-worker-iterator.result} c.args.workers.items c.into_iter-worker-iterator.ensures.into_iter_gives.0 (c.into_iter-worker-iterator.ensures.into_iter_gives.1 ∙ c.args.workers.ok.0)) c.loop-worker.yielded c.loop-worker.worker-iterator c.loop-worker.yielded_by c.next.result c.next.new.self c.in-None.is c.next.ensures.steps) in
    sym (each_length _ c.loop-worker.ended.left.items) ∙ many_end _ _ _ _ _ _ c.loop-worker.invariant.0 end.1

pub returns-clause-known : goal.returns-clause-known
returns-clause-known g c =
    let end = (YieldsList-end (YieldsList-from_vec {s = c.into_iter-worker-iterator.result} c.args.workers.items c.into_iter-worker-iterator.ensures.into_iter_gives.0 (c.into_iter-worker-iterator.ensures.into_iter_gives.1 ∙ c.args.workers.ok.0)) c.loop-worker.yielded c.loop-worker.worker-iterator c.loop-worker.yielded_by c.next.result c.next.new.self c.in-None.is c.next.ensures.steps) in
    known_end _ _ _ _ _ _ c.loop-worker.invariant.0 end.1

pub returns-clause-sent : goal.returns-clause-sent
returns-clause-sent g c =
    let end = (YieldsList-end (YieldsList-from_vec {s = c.into_iter-worker-iterator.result} c.args.workers.items c.into_iter-worker-iterator.ensures.into_iter_gives.0 (c.into_iter-worker-iterator.ensures.into_iter_gives.1 ∙ c.args.workers.ok.0)) c.loop-worker.yielded c.loop-worker.worker-iterator c.loop-worker.yielded_by c.next.result c.next.new.self c.in-None.is c.next.ensures.steps) in
    sent_end _ _ _ _ _ _ c.loop-worker.invariant.0 end.1 c.args.lanes.items c.put_in_order.ensures.moved

pub returns-clause-answered : goal.returns-clause-answered
returns-clause-answered g c =
    let end = (YieldsList-end (YieldsList-from_vec {s = c.into_iter-worker-iterator.result} c.args.workers.items c.into_iter-worker-iterator.ensures.into_iter_gives.0 (c.into_iter-worker-iterator.ensures.into_iter_gives.1 ∙ c.args.workers.ok.0)) c.loop-worker.yielded c.loop-worker.worker-iterator c.loop-worker.yielded_by c.next.result c.next.new.self c.in-None.is c.next.ensures.steps) in
    answered_end _ _ _ _ _ _ c.loop-worker.invariant.0 end.1 c.args.lanes.items c.put_in_order.ensures.moved

pub returns-clause-gates : goal.returns-clause-gates
returns-clause-gates g c =
    let end = (YieldsList-end (YieldsList-from_vec {s = c.into_iter-worker-iterator.result} c.args.workers.items c.into_iter-worker-iterator.ensures.into_iter_gives.0 (c.into_iter-worker-iterator.ensures.into_iter_gives.1 ∙ c.args.workers.ok.0)) c.loop-worker.yielded c.loop-worker.worker-iterator c.loop-worker.yielded_by c.next.result c.next.new.self c.in-None.is c.next.ensures.steps) in
    gates_end _ _ _ _ _ _ c.loop-worker.invariant.0 end.1 g.G.Gate.Holds c.loop-worker.ended.gates.items c.args.lanes.items c.put_in_order.ensures.moved c.loop-worker.invariant.3

pub returns-clause-began : goal.returns-clause-began
returns-clause-began g c =
    let end = (YieldsList-end (YieldsList-from_vec {s = c.into_iter-worker-iterator.result} c.args.workers.items c.into_iter-worker-iterator.ensures.into_iter_gives.0 (c.into_iter-worker-iterator.ensures.into_iter_gives.1 ∙ c.args.workers.ok.0)) c.loop-worker.yielded c.loop-worker.worker-iterator c.loop-worker.yielded_by c.next.result c.next.new.self c.in-None.is c.next.ensures.steps) in
    began_end _ _ _ _ _ _ c.loop-worker.invariant.0 end.1 g.G.Gate.began c.loop-worker.ended.gates.items c.loop-worker.invariant.6
