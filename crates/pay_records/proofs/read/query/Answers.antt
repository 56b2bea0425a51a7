use Rattle.sqlite.specs.Held.{state}
use Rattle.pay_records.proofs.Unchanged.{kept_all, kept_none, inside_shown}
use Rattle.pay_records.proofs.read.query.Goals as goal

pub returns-in_err-query_all-clause-unchanged : goal.returns-in_err-query_all-clause-unchanged
returns-in_err-query_all-clause-unchanged g c clean inside =
    kept_none (state g.S.Store c.args.tx.now.conn.now) (state g.S.Store c.query_all.new.self.conn.now) _ _ _ (c.in_err-query_all.ensures.err clean)

pub returns-clause-unchanged : goal.returns-clause-unchanged
returns-clause-unchanged g c clean inside =
    kept_all (state g.S.Store c.args.tx.now.conn.now) (state g.S.Store c.query_all.new.self.conn.now) _ inside _ _ (c.in_ok-query_all.ensures.ok clean)

pub returns-clause-inside : goal.returns-clause-inside
returns-clause-inside g c clean =
    inside_shown (state g.S.Store c.args.tx.now.conn.now) (state g.S.Store c.query_all.new.self.conn.now) _ _ _ (c.in_ok-query_all.ensures.ok clean)
