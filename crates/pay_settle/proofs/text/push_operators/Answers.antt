use Rattle.std.proofs.Common.{rules, arith, ◌≡◌, ◌+◌, ◌++◌, length}
use Rattle.pay_settle.specs.Text.{operator_rows}
use Rattle.pay_settle.proofs.Rows.{next_operator, rows_are}
use Rattle.pay_settle.proofs.text.push_operators.Goals as goal

pub loop-place-preserved : goal.loop-place-preserved
loop-place-preserved c =
    let long : length c.args.sums.now ≡ 16 = search rules in
    next_operator c.loop-place.place c.args.sums.now c.loop-place.text.items c.push_share.new.text.items (c.args.text.now.items ++ operator_rows 1 c.args.sums.now) (omega (arith, long, c.loop-place-test.true)) c.in_ok-push_share.ensures c.loop-place.invariant

pub returns : goal.returns
returns c = rows_are (c.loop-place.place + 1) c.loop-place.place c.args.sums.now c.args.text.now.items c.loop-place.text.items (operator_rows 1 c.args.sums.now) (search rules) (search rules) c.loop-place.invariant
