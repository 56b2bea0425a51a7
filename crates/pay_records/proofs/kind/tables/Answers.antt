use Rattle.std.proofs.Common.{arith}
use Rattle.sqlite.specs.Held.{state}
use Rattle.sqlite.specs.State.{HasCleanDisk}
use Rattle.pay_records.proofs.Kinded.{seven_tables}
use Rattle.pay_records.proofs.kind.tables.Goals as goal

pub returns-clause-value : goal.returns-clause-value
returns-clause-value g c clean =
    let last = c.second_tables.ensures.survives.clean in
    let middle = c.first_tables.ensures.survives.clean in
    let second : HasCleanDisk (state g.S.Store c.first_tables.new.tx.conn.now) = omega (arith, last, clean) in
    let first : HasCleanDisk (state g.S.Store c.shared_tables.new.tx.conn.now) = omega (arith, middle, second) in
    seven_tables (state g.S.Store c.args.tx.now.conn.now) (state g.S.Store c.shared_tables.new.tx.conn.now) (state g.S.Store c.first_tables.new.tx.conn.now) (state g.S.Store c.second_tables.new.tx.conn.now) _ _ _
    (c.in_ok-shared.ensures.value first) (c.in_ok-first.ensures.value second) (c.in_ok-second.ensures.value clean)
