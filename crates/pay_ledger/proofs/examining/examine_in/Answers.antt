use Rattle.std.proofs.lemmas.Result.{IfOk-weaker}
use Rattle.sqlite.specs.Held.{state}
use Rattle.pay_ledger.proofs.Along.{was, and_so}
use Rattle.pay_ledger.proofs.Passed.{all_found}
use Rattle.pay_ledger.proofs.Finding.{of_all, first_of_all}
use Rattle.pay_ledger.proofs.examining.examine_in.Goals as goal

pub returns-clause-step : goal.returns-clause-step
returns-clause-step g c = and_so g.S.Store _ c.in_ok-numbers.ensures.step c.examine_all.ensures.step

pub returns-clause-found : goal.returns-clause-found
returns-clause-found g c clean =
    IfOk-weaker c.examine_all.result _ _ (λ found each. all_found (g.E.Examiner.Passes c.args.examiner.now) (state g.S.Store c.args.tx.now.conn.now) (state g.S.Store c.all_accounts.new.tx.conn.now) (state g.S.Store c.examine_all.new.tx.conn.now) _ _ found c.deref.ensures.value
    (c.in_ok-numbers.ensures.found (was g.S.Store c.examine_all.ensures.step clean)) each) (c.examine_all.ensures.found clean)

pub returns-clause-finds : goal.returns-clause-finds
returns-clause-finds g c clean =
    IfOk-weaker c.examine_all.result _ _ (λ found each. of_all (g.E.Examiner.Finds c.args.examiner.now) (state g.S.Store c.args.tx.now.conn.now) (state g.S.Store c.all_accounts.new.tx.conn.now) (state g.S.Store c.examine_all.new.tx.conn.now) _ _ found c.deref.ensures.value
    (c.in_ok-numbers.ensures.found (was g.S.Store c.examine_all.ensures.step clean)) each) (c.examine_all.ensures.finds clean)

pub returns-clause-first : goal.returns-clause-first
returns-clause-first g c clean =
    IfOk-weaker c.examine_all.result _ _ (λ found each. first_of_all (g.E.Examiner.Passes c.args.examiner.now) (state g.S.Store c.args.tx.now.conn.now) (state g.S.Store c.all_accounts.new.tx.conn.now) (state g.S.Store c.examine_all.new.tx.conn.now) _ _ found c.deref.ensures.value
    c.in_ok-numbers.ensures.ascend (c.in_ok-numbers.ensures.found (was g.S.Store c.examine_all.ensures.step clean)) each) (c.examine_all.ensures.up_to clean)
