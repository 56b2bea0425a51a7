use Rattle.std.proofs.Common.{arith}
use Rattle.pay_wire.proofs.ShareWords.{share_put}
use Rattle.pay_wire.proofs.reply.put_shares.Goals as goal

pub loop-i-preserved : goal.loop-i-preserved
loop-i-preserved g c = record {
  items = share_put g.I.Integer.text c.args.line.now.items c.args.shares.now c.loop-i.i c.index-shares-i.result _ _ (omega arith) c.loop-i.invariant.items c.put_share.ensures.items;
  len = omega (arith, c.put_share.ensures.len, c.loop-i.invariant.len);
}
