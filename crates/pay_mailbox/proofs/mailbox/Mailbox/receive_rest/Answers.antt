use Rattle.std.proofs.Common.{arith, refl, sym, ap, ◌∙◌, subst}
use Rattle.pay_mailbox.specs.Parts.{HasAll}
use Rattle.pay_mailbox.proofs.Counts.{got_all}
use Rattle.pay_mailbox.proofs.Rests.{none_moved, one_moved, moved_so}
use Rattle.pay_mailbox.proofs.mailbox.Mailbox.receive_rest.Goals as goal

pub loop-init : goal.loop-init
loop-init g c = record {
  mailbox = ap (λ r. r.mailbox) c.waiting-end.ensures.same ∙ c.requires.mailbox;
  moved = none_moved _ _ _ c.waiting-end.ensures.same;
  len = omega arith;
  capacity = refl;
}

pub receive-requires : goal.receive-requires
receive-requires g c = c.loop.invariant.mailbox

pub push_reserved-requires : goal.push_reserved-requires
push_reserved-requires g c = omega (arith, c.loop.invariant.len, c.loop.invariant.capacity, c.loop-test.true, c.waiting-end.ensures.few, c.requires.room)

pub returns-in-None-clause-got : goal.returns-in-None-clause-got
returns-in-None-clause-got g c = moved_so _ _ _ _ _ _ c.loop.invariant.moved c.in-None.ensures.none

pub loop-preserved : goal.loop-preserved
loop-preserved g c = record {
  mailbox = ap (λ r. r.mailbox) c.in-Some.ensures.got ∙ c.loop.invariant.mailbox;
  moved = one_moved _ _ _ _ _ _ _ c.in-Some.item c.loop.invariant.moved c.in-Some.ensures.got c.push_reserved.ensures.items;
  len = c.push_reserved.ensures.len ∙ omega (arith, c.loop.invariant.len);
  capacity = c.push_reserved.ensures.capacity ∙ c.loop.invariant.capacity;
}

pub compare-requires : goal.compare-requires
compare-requires g c = c.loop.invariant.mailbox

pub returns-clause-got : goal.returns-clause-got
returns-clause-got g c = moved_so _ _ _ _ _ _ c.loop.invariant.moved c.compare.ensures.same

pub returns-clause-all : goal.returns-clause-all
returns-clause-all g c = let moved = c.loop.invariant.moved in
    subst (HasAll g.S.Senders.sender) (sym c.compare.ensures.same)
    (got_all g.S.Senders.sender _ _ _ moved.items c.requires.back c.waiting-end.ensures.held (moved.count ∙ omega (arith, c.loop-test.false, c.loop.auto.counter-end)) moved.got c.compare.ensures.first)
