use Rattle.std.proofs.Common.{◌-◌, arith}
use Rattle.pay_caps.proofs.Used.{one_less_used, last_used}
use Rattle.pay_caps.proofs.cells.used_to.Goals as goal

pub returns-then-spans-used-ne0 : goal.returns-then-spans-used-ne0
returns-then-spans-used-ne0 c = omega (arith, last_used c.args.spans.now (c.loop-used.used - 1) (omega arith) (omega arith))

pub loop-used-preserved : goal.loop-used-preserved
loop-used-preserved c = record {
  in_most = one_less_used c.args.spans.now (c.loop-used.used - 1) (omega arith) (omega arith);
  in_range = omega arith;
}
