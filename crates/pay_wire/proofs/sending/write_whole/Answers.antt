use Rattle.std.proofs.Common.{arith, refl, ◌∙◌}
use Rattle.std.proofs.KnownBytes.{Appends-nil}
use Rattle.std.proofs.lemmas.Grind.{common_steps}
use Rattle.pay_wire.proofs.Fronts.{Appends_fronts}
use Rattle.pay_wire.proofs.WriterCalls.{no_writes, one_more_write}
use Rattle.pay_wire.proofs.sending.write_whole.Goals as goal

pub loop-init : goal.loop-init
loop-init g c = record {
  within = omega arith;
  front = Appends-nil _;
  same_writer = refl;
  not_failed = c.requires;
  writes = no_writes _ _;
}

pub loop-preserved : goal.loop-preserved
loop-preserved g c = record {
  within = grind (arith, common_steps, c.in_ok-taken.ensures.within);
  front = Appends_fronts _ _ _ c.loop.taken c.in_ok-taken.field-0 c.args.bytes.now c.loop.invariant.front c.in_ok-taken.ensures.ok;
  same_writer = c.in_ok-taken.ensures.same_writer ∙ c.loop.invariant.same_writer;
  not_failed = c.in_ok-taken.ensures.not_failed;
  writes = one_more_write _ _ _ _ _ c.loop.invariant.writes c.in_ok-taken.ensures.told;
}

-- so many writes were not enough
pub returns-clause-cause : goal.returns-clause-cause
returns-clause-cause g c = (_, c.loop.counter, omega (arith, c.loop-test.false, c.loop.auto.counter-end), c.loop.invariant.writes)
