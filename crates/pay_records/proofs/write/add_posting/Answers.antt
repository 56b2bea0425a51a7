use Rattle.std.proofs.Common.{rules, IsTrue, subst, sym}
use Rattle.sqlite.specs.Held.{state}
use Rattle.pay_records.proofs.Unchanged.{kept_row, inside_row, on_ok}
use Rattle.pay_records.proofs.Posted.{posting_told}
use Rattle.pay_records.proofs.write.add_posting.Goals as goal

pub returns-in_err-shown-clause-unchanged : goal.returns-in_err-shown-clause-unchanged
returns-in_err-shown-clause-unchanged g c clean inside =
    kept_row (state g.S.Store c.args.tx.now.conn.now) (state g.S.Store c.query_row.new.self.conn.now) _ inside _ c.query_row.result (c.query_row.ensures.row clean)

pub returns-clause-adds : goal.returns-clause-adds
returns-clause-adds g c clean inside =
    posting_told (state g.S.Store c.args.tx.now.conn.now) (state g.S.Store c.query_row.new.self.conn.now) inside c.args.account c.args.row.now _ c.in_ok-shown.shown c.number_at.result
    (c.in_ok-shown.ensures.row clean) (search rules) c.number_at.ensures

pub returns-clause-unchanged : goal.returns-clause-unchanged
returns-clause-unchanged g c clean inside =
    kept_row (state g.S.Store c.args.tx.now.conn.now) (state g.S.Store c.query_row.new.self.conn.now) _ inside _ c.query_row.result (c.query_row.ensures.row clean)

pub returns-clause-inside : goal.returns-clause-inside
returns-clause-inside g c clean inside =
    on_ok _ c.number_at.result (subst IsTrue (sym (inside_row (state g.S.Store c.args.tx.now.conn.now) (state g.S.Store c.query_row.new.self.conn.now) _ _ _ (c.in_ok-shown.ensures.row clean))) inside)
