use Rattle.std.proofs.Common.{arith}
use Rattle.sqlite.specs.Held.{state}
use Rattle.sqlite.specs.State.{HasCleanDisk}
use Rattle.pay_records.proofs.Made.{first_made}
use Rattle.pay_records.proofs.tables.make_first.Goals as goal

pub returns-clause-made : goal.returns-clause-made
returns-clause-made g c clean =
    let a = state g.S.Store c.make_meta.new.tx.conn.now in
    let b = state g.S.Store c.make_postings.new.tx.conn.now in
    let second : HasCleanDisk b = omega (arith, clean, c.make_shares.ensures.survives.clean) in
    let first : HasCleanDisk a = omega (arith, second, c.make_postings.ensures.survives.clean) in
    first_made (state g.S.Store c.args.tx.now.conn.now) a b (state g.S.Store c.make_shares.new.tx.conn.now) (c.in_ok-make_meta.ensures.made first) (c.in_ok-make_postings.ensures.made second) (c.in_ok-make_shares.ensures.made clean)
