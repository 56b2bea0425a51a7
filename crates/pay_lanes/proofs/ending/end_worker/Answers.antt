use Rattle.std.proofs.Common.{length, subst, ap, arith}
use Rattle.pay_mailbox.specs.Words.{MailboxParts}
use Rattle.pay_lanes.specs.Parts.{WorkerParts}
use Rattle.pay_lanes.specs.Working.{IsWorking}
use Rattle.pay_lanes.specs.Gates.{IsGated}
use Rattle.pay_lanes.proofs.Endings.{began_after}
use Rattle.pay_lanes.proofs.Exchanges.{begun, some_left, some_way, own_way, own_first, one_more, all_back, all_given, all_left, all_known, all_answered, all_passed}
use Rattle.pay_lanes.proofs.InMemory.{whole_of}
use Rattle.pay_lanes.proofs.ending.end_worker.Goals as goal

pub returns-clause-whole : goal.returns-clause-whole
returns-clause-whole g c = whole_of g.G.Gate.forgets c.worker.inside.shard c.into_journal.result.memory c.into_journal.ensures.memory c.worker.invariant.6

pub loop-place-init : goal.loop-place-init
loop-place-init g c = begun c.args.worker _ c.args.lanes.now.items c.worker.view_is c.requires.next.back

pub remove-way-requires : goal.remove-way-requires
remove-way-requires g c =
    let some = some_left _ _ c.requires.next c.loop-place.place _ _ _ c.loop-place.invariant (omega (arith, c.args.lanes.now.ok.0)) in
    omega (arith, some, c.loop-place.ways.ok.0)

pub exchange-requires-clause-some : goal.exchange-requires-clause-some
exchange-requires-clause-some g c =
    some_way _ _ c.requires.next c.loop-place.place _ _ _ c.loop-place.invariant c.index_mut.result.now (omega (arith, c.args.lanes.now.ok.0)) c.index_mut.ensures.value

pub exchange-requires-clause-own : goal.exchange-requires-clause-own
exchange-requires-clause-own g c =
    own_way _ _ c.requires.next c.loop-place.place _ _ _ c.loop-place.invariant c.index_mut.result.now c.remove-way.result (omega (arith, c.args.lanes.now.ok.0)) c.index_mut.ensures.value c.remove-way.ensures.value

pub rejoin-requires : goal.rejoin-requires
rejoin-requires g c =
    own_first _ _ c.requires.next c.loop-place.place _ _ _ c.loop-place.invariant c.index_mut.result.now c.exchange.result _ (omega (arith, c.args.lanes.now.ok.0)) c.index_mut.ensures.value c.exchange.ensures.first

pub loop-place-preserved : goal.loop-place-preserved
loop-place-preserved g c =
    one_more _ _ c.requires.next c.loop-place.place _ _ _ c.loop-place.invariant c.index_mut.result.now c.remove-way.result c.exchange.result _ (omega (arith, c.args.lanes.now.ok.0)) c.index_mut.ensures.value c.remove-way.ensures.value c.exchange.ensures.first
    c.exchange.ensures.number c.exchange.ensures.taken _ _ _ c.exchange.ensures.lane c.remove-way.ensures.items c.rejoin.ensures

pub receive_rest-requires-clause-back : goal.receive_rest-requires-clause-back
receive_rest-requires-clause-back g c =
    all_back _ _ c.requires.next c.loop-place.place _ _ _ c.loop-place.invariant (omega (arith, c.args.lanes.now.ok.0)) (subst IsWorking c.worker.view_is c.worker.invariant.0)

pub receive_rest-requires-clause-room : goal.receive_rest-requires-clause-room
receive_rest-requires-clause-room g c =
    let none = ap length c.worker.invariant.1 in
    let first = ap (λ (m : MailboxParts). m.capacity) c.loop-place.invariant.mailbox in
    let same = ap (λ (w : WorkerParts). w.requests.mailbox.capacity) c.worker.view_is in
    omega (arith, none, first, same, c.worker.invariant.2, c.worker.inside.left.ok.0)

pub returns-clause-lanes : goal.returns-clause-lanes
returns-clause-lanes g c = all_given _ _ c.requires.next c.loop-place.place _ _ _ c.loop-place.invariant (omega (arith, c.args.lanes.now.ok.0)) (subst IsWorking c.worker.view_is c.worker.invariant.0)

pub returns-clause-sent : goal.returns-clause-sent
returns-clause-sent g c =
    all_left _ _ c.requires.next c.loop-place.place _ _ _ c.loop-place.invariant (omega (arith, c.args.lanes.now.ok.0)) (subst IsWorking c.worker.view_is c.worker.invariant.0)
    _ _ c.receive_rest.ensures.got.0 _ c.worker.invariant.1 c.receive_rest.ensures.got.1 c.receive_rest.ensures.got.2 c.receive_rest.ensures.all

pub returns-clause-known : goal.returns-clause-known
returns-clause-known g c =
    all_known _ _ c.requires.next c.loop-place.place _ _ _ c.loop-place.invariant (omega (arith, c.args.lanes.now.ok.0)) (subst IsWorking c.worker.view_is c.worker.invariant.0)
    _ _ c.receive_rest.ensures.got.0 _ c.worker.invariant.1 c.receive_rest.ensures.got.1 c.receive_rest.ensures.got.2 c.receive_rest.ensures.all

pub returns-clause-answered : goal.returns-clause-answered
returns-clause-answered g c =
    all_answered _ _ c.requires.next c.loop-place.place _ _ _ c.loop-place.invariant (omega (arith, c.args.lanes.now.ok.0)) (subst IsWorking c.worker.view_is c.worker.invariant.0)

pub returns-clause-passed : goal.returns-clause-passed
returns-clause-passed g c = record {
  gate = c.worker.inside.gate;
  pushed = c.keep_gate.ensures.items;
  passed = all_passed _ _ c.requires.next c.loop-place.place _ _ _ c.loop-place.invariant (omega (arith, c.args.lanes.now.ok.0)) (subst IsWorking c.worker.view_is c.worker.invariant.0)
      (g.G.Gate.Holds c.worker.inside.gate) (subst (λ (w : WorkerParts). IsGated (g.G.Gate.Holds c.worker.inside.gate) w.shard w.shut w.lanes) c.worker.view_is c.worker.invariant.3);
}

pub returns-clause-began : goal.returns-clause-began
returns-clause-began g c =
    began_after g.G.Gate.began c.args.gates.now.items c.keep_gate.new.gates.items c.worker.inside.gate c.args.worker.began c.keep_gate.ensures.items (ap (λ (w : WorkerParts). w.began) c.worker.view_is)
