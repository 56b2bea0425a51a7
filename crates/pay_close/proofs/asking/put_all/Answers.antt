use Rattle.std.proofs.Common.{◌<◌, [], ◌∷◌, ◌++◌, length, ap, ◌∙◌, arith, length-append}
use Rattle.pay_close.proofs.AllAsked.{put_more, refuses_within}
use Rattle.pay_close.proofs.asking.put_all.Goals as goal

pub returns-in-Err-clause-refused : goal.returns-in-Err-clause-refused
returns-in-Err-clause-refused g c =
    let i = c.loop-shard.invariant in
    let many = i.0 in
    let below = c.loop-shard-test.true in
    let of = c.requires.of_desk in
    let fewer : length c.loop-shard.tickets.items < c.args.of = omega (arith, many, below) in (
      fewer,
      refuses_within g.D.Desk.parts (g.D.Desk.parts c.args.desk.now).standing c.loop-shard.desk c.loop-shard.tickets.items c.in-Err.fault i.1.waits (omega (arith, fewer, of)) c.in-Err.ensures.refused,
    )

-- one more
pub loop-shard-preserved : goal.loop-shard-preserved
loop-shard-preserved g c =
    let i = c.loop-shard.invariant in
    let many = i.0 in
    let below = c.loop-shard-test.true in
    let more = c.push.ensures.items ∙ ap (λ n. c.loop-shard.tickets.items ++ n ∷ []) c.number.ensures in
    let long = ap length more ∙ length-append c.loop-shard.tickets.items (c.in-Ok.ticket ∷ []) in (
      omega (arith, many, long),
      put_more c.args.day c.args.of _ _ c.loop-shard.shard c.in-Ok.ticket _ c.loop-shard.tickets.items c.push.new.self.items _ _ _ _ i.1 i.0 c.quotes_command.ensures c.in-Ok.ensures.added c.in-Ok.ensures.later c.in-Ok.ensures.fresh c.in-Ok.ensures.waits more,
      λ ticket answer h. c.in-Ok.ensures.transcript ticket answer (i.2 ticket answer h),
      omega (arith, below),
    )
