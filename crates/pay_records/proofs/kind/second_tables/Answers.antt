use Rattle.std.proofs.Common.{arith}
use Rattle.sqlite.specs.Held.{state}
use Rattle.sqlite.specs.State.{HasCleanDisk}
use Rattle.pay_records.proofs.Kinded.{two_tables}
use Rattle.pay_records.proofs.kind.second_tables.Goals as goal

pub returns-clause-value : goal.returns-clause-value
returns-clause-value g c clean =
    let last = c.presence_by-2.ensures.survives.clean in
    let first : HasCleanDisk (state g.S.Store c.presence_by.new.tx.conn.now) = omega (arith, last, clean) in
    two_tables (state g.S.Store c.args.tx.now.conn.now) (state g.S.Store c.presence_by.new.tx.conn.now) (state g.S.Store c.presence_by-2.new.tx.conn.now) _ _ _ _
    (c.in_ok-postings.ensures.value first) (c.in_ok-shares.ensures.value clean) _ c.with.ensures
