use Rattle.std.proofs.Common.{arith}
use Rattle.sqlite.specs.Held.{state}
use Rattle.sqlite.specs.State.{HasCleanDisk}
use Rattle.pay_records.proofs.Upgraded.{upgrades}
use Rattle.pay_records.proofs.copy.upgrade.Goals as goal

pub returns-clause-upgraded : goal.returns-clause-upgraded
returns-clause-upgraded g c clean =
    let a = state g.S.Store c.set_version.new.tx.conn.now in
    let b = state g.S.Store c.make_new.new.tx.conn.now in
    let d = state g.S.Store c.copy_postings.new.tx.conn.now in
    let third : HasCleanDisk d = omega (arith, clean, c.copy_shares.ensures.survives.clean) in
    let second : HasCleanDisk b = omega (arith, third, c.copy_postings.ensures.survives.clean) in
    let first : HasCleanDisk a = omega (arith, second, c.make_new.ensures.survives.clean) in
    upgrades (state g.S.Store c.args.tx.now.conn.now) a b d (state g.S.Store c.copy_shares.new.tx.conn.now) (c.in_ok-set_version.ensures.made first) (c.in_ok-make_new.ensures.made second) (c.in_ok-copy_postings.ensures.made third)
    (c.in_ok-copy_shares.ensures.made clean)
