use Rattle.std.proofs.Common.{arith}
use Rattle.sqlite.specs.Held.{state}
use Rattle.sqlite.specs.State.{HasCleanDisk}
use Rattle.pay_records.proofs.Made.{new_made}
use Rattle.pay_records.proofs.copy.make_new.Goals as goal

pub returns-clause-made : goal.returns-clause-made
returns-clause-made g c clean =
    let a = state g.S.Store c.make_postings.new.tx.conn.now in
    let first : HasCleanDisk a = omega (arith, clean, c.make_shares.ensures.survives.clean) in
    new_made (state g.S.Store c.args.tx.now.conn.now) a (state g.S.Store c.make_shares.new.tx.conn.now) (c.in_ok-make_postings.ensures.added first) (c.in_ok-make_shares.ensures.added clean)
