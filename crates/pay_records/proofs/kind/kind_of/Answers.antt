use Rattle.std.proofs.lemmas.Result.{IfOk-weaker}
use Rattle.sqlite.specs.Held.{state}
use Rattle.pay_records.proofs.Kinded.{kind_of_blank, kind_of_ledger, kind_of_first, is_of_kind}
use Rattle.pay_records.proofs.kind.kind_of.Goals as goal

pub returns-clause-blank : goal.returns-clause-blank
returns-clause-blank g c clean =
    IfOk-weaker c.by_tables.result _ _ (kind_of_blank (state g.S.Store c.args.tx.now.conn.now) (state g.S.Store c.by_tables.new.tx.conn.now)) (c.by_tables.ensures.value clean)

pub returns-clause-ledger : goal.returns-clause-ledger
returns-clause-ledger g c clean =
    IfOk-weaker c.by_tables.result _ _ (kind_of_ledger (state g.S.Store c.args.tx.now.conn.now) (state g.S.Store c.by_tables.new.tx.conn.now)) (c.by_tables.ensures.value clean)

pub returns-clause-first : goal.returns-clause-first
returns-clause-first g c clean =
    IfOk-weaker c.by_tables.result _ _ (kind_of_first (state g.S.Store c.args.tx.now.conn.now) (state g.S.Store c.by_tables.new.tx.conn.now)) (c.by_tables.ensures.value clean)

pub returns-clause-value : goal.returns-clause-value
returns-clause-value g c clean =
    IfOk-weaker c.by_tables.result _ _ (is_of_kind (state g.S.Store c.args.tx.now.conn.now) (state g.S.Store c.by_tables.new.tx.conn.now)) (c.by_tables.ensures.value clean)
