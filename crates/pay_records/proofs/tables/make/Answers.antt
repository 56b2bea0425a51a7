use Rattle.std.proofs.Common.{arith}
use Rattle.sqlite.specs.Held.{state}
use Rattle.sqlite.specs.State.{HasCleanDisk}
use Rattle.pay_records.proofs.Made.{ledger_made}
use Rattle.pay_records.proofs.tables.make.Goals as goal

pub returns-clause-made : goal.returns-clause-made
returns-clause-made g c clean =
    let a = state g.S.Store c.make_first.new.tx.conn.now in
    let b = state g.S.Store c.make_taps.new.tx.conn.now in
    let d = state g.S.Store c.make_fixes.new.tx.conn.now in
    let third : HasCleanDisk d = omega (arith, clean, c.add_meta.ensures.survives.clean) in
    let second : HasCleanDisk b = omega (arith, third, c.make_fixes.ensures.survives.clean) in
    let first : HasCleanDisk a = omega (arith, second, c.make_taps.ensures.survives.clean) in
    ledger_made (state g.S.Store c.args.tx.now.conn.now) a b d (state g.S.Store c.add_meta.new.tx.conn.now) (c.in_ok-make_first.ensures.made first) (c.in_ok-make_taps.ensures.made second) (c.in_ok-make_fixes.ensures.made third)
    (c.in_ok-add_meta.ensures.made clean)
