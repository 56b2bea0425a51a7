use Rattle.std.proofs.Common.{arith, ap, ◌∙◌}
use Rattle.sqlite.specs.Held.{state}
use Rattle.sqlite.specs.State.{HasCleanDisk}
use Rattle.pay_records.specs.Kinds.{kind_by}
use Rattle.pay_records.proofs.Kinded.{kind_where_all}
use Rattle.pay_records.proofs.kind.by_tables.Goals as goal

pub returns-in_ok-query-in-There-clause-value : goal.returns-in_ok-query-in-There-clause-value
returns-in_ok-query-in-There-clause-value g c clean =
    let last = c.query.ensures.survives.clean in
    let first : HasCleanDisk (state g.S.Store c.tables.new.tx.conn.now) = omega (arith, last, clean) in
    let told = c.in_ok-there.ensures.value first in
    kind_where_all (state g.S.Store c.args.tx.now.conn.now) (state g.S.Store c.tables.new.tx.conn.now) (state g.S.Store c.query.new.tx.conn.now) told.1 _
    (c.in_ok-query-in-There.ensures.shown clean) c.in_ok-there.there told.0 c.in-There.is c.kind_by.result (c.kind_by.ensures ∙ ap (kind_by c.in_ok-there.there) c.deref.ensures.value)
