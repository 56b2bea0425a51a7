use Rattle.std.proofs.Common.{inl, inr, subst, sym}
use Rattle.std.proofs.lemmas.Bool.{cases_Bool}
use Rattle.sqlite.specs.Held.{state}
use Rattle.sqlite.specs.State.{KeepsCommit}
use Rattle.pay_records.proofs.Unchanged.{kept_inside, kept_same}
use Rattle.pay_records.proofs.Copies.{version_set_by}
use Rattle.pay_records.proofs.copy.set_version.Goals as goal

pub returns-clause-made : goal.returns-clause-made
returns-clause-made g c clean =
    let old = state g.S.Store c.args.tx.now.conn.now in
    elim (cases_Bool old.in_transaction) [
      | inl inside ↦ version_set_by old (state g.S.Store c.execute.new.self.conn.now) c.execute.result (c.execute.ensures.runs clean inside) inside
      | inr ended ↦ let refused = (c.execute.ensures.ended ended).0 in rw refused tt
    ]

pub returns-clause-unchanged : goal.returns-clause-unchanged
returns-clause-unchanged g c clean =
    let old = state g.S.Store c.args.tx.now.conn.now in
    elim (cases_Bool old.in_transaction) [
      | inl inside ↦ kept_inside 0 _ _ old (state g.S.Store c.execute.new.self.conn.now) c.execute.result (c.execute.ensures.runs clean inside)
      | inr ended ↦ let same = (c.execute.ensures.ended ended).1 in subst (λ h. KeepsCommit old (state g.S.Store h)) (sym same) (kept_same old)
    ]
