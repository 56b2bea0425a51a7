use Rattle.std.proofs.Common.{arith}
use Rattle.sqlite.specs.Held.{state}
use Rattle.sqlite.specs.State.{HasCleanDisk}
use Rattle.pay_records.proofs.Kinded.{three_tables}
use Rattle.pay_records.proofs.kind.shared_tables.Goals as goal

pub returns-clause-value : goal.returns-clause-value
returns-clause-value g c clean =
    let last = c.presence_by-3.ensures.survives.clean in
    let middle = c.presence_by-2.ensures.survives.clean in
    let second : HasCleanDisk (state g.S.Store c.presence_by-2.new.tx.conn.now) = omega (arith, last, clean) in
    let first : HasCleanDisk (state g.S.Store c.presence_by.new.tx.conn.now) = omega (arith, middle, second) in
    three_tables (state g.S.Store c.args.tx.now.conn.now) (state g.S.Store c.presence_by.new.tx.conn.now) (state g.S.Store c.presence_by-2.new.tx.conn.now) (state g.S.Store c.presence_by-3.new.tx.conn.now) _ _ _ _ _ _
    (c.in_ok-meta.ensures.value first) (c.in_ok-taps.ensures.value second) (c.in_ok-fixes.ensures.value clean) _ _ c.with.ensures c.with-2.ensures
