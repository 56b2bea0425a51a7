use Rattle.sqlite.specs.Held.{state}
use Rattle.pay_records.proofs.Kinded.{presence_told, kept_prepared}
use Rattle.pay_records.proofs.kind.presence_by.Goals as goal

pub returns-clause-value : goal.returns-clause-value
returns-clause-value g c clean =
    presence_told (state g.S.Store c.args.tx.now.conn.now) (state g.S.Store c.prepare-prepared.new.self.conn.now) c.args.sql.now _
    (c.prepare-prepared.ensures.ok clean) (c.prepare-prepared.ensures.shape clean) (c.prepare-prepared.ensures.err clean) c.told_by.result c.told_by.ensures.value

pub returns-clause-unchanged : goal.returns-clause-unchanged
returns-clause-unchanged g c clean =
    kept_prepared (state g.S.Store c.args.tx.now.conn.now) (state g.S.Store c.prepare-prepared.new.self.conn.now) c.args.sql.now _ (c.prepare-prepared.ensures.ok clean) (c.prepare-prepared.ensures.err clean)
