use Rattle.std.proofs.Common.{inl, inr, rules, subst, sym}
use Rattle.std.proofs.lemmas.Bool.{cases_Bool}
use Rattle.sqlite.specs.Held.{state}
use Rattle.pay_records.proofs.Unchanged.{kept_inside, kept_same}
use Rattle.sqlite.specs.State.{KeepsCommit}
use Rattle.pay_records.proofs.Added.{share_added}
use Rattle.pay_records.proofs.write.add_share.Goals as goal

pub returns-clause-adds : goal.returns-clause-adds
returns-clause-adds g c clean =
    let old = state g.S.Store c.args.tx.now.conn.now in
    let new = state g.S.Store c.execute.new.self.conn.now in
    elim (cases_Bool old.in_transaction) [
      | inl inside ↦ share_added old new c.args.row.now _ c.execute.result (c.execute.ensures.runs clean inside) (search rules) inside
      | inr ended ↦ let refused = (c.execute.ensures.ended ended).0 in rw refused tt
    ]

pub returns-clause-unchanged : goal.returns-clause-unchanged
returns-clause-unchanged g c clean =
    let old = state g.S.Store c.args.tx.now.conn.now in
    elim (cases_Bool old.in_transaction) [
      | inl inside ↦ kept_inside 0 _ _ old (state g.S.Store c.execute.new.self.conn.now) c.execute.result (c.execute.ensures.runs clean inside)
      | inr ended ↦ let same = (c.execute.ensures.ended ended).1 in subst (λ h. KeepsCommit old (state g.S.Store h)) (sym same) (kept_same old)
    ]
