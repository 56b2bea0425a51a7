use Rattle.std.proofs.Common.{◌≡◌, Some, None, rules}
use Rattle.std.specs.List.{last_or}
use Rattle.sqlite.specs.Held.{state}
use Rattle.pay_records.specs.Words.{HoldsRows}
use Rattle.pay_ledger.proofs.Along.{goes_by_read, stops, was, and_stopped, and_gone}
use Rattle.pay_ledger.proofs.Newest.{none_read, both_read, newest_answered, newest_refused}
use Rattle.pay_ledger.proofs.lookup.read_newest.Goals as goal

pub returns-in_default-clause-found : goal.returns-in_default-clause-found
returns-in_default-clause-found g c clean rows k =
    let none : None ≡ last_or None c.in_ok-accounts.accounts.items = search rules in
    none_read rows c.in_ok-accounts.accounts.items (c.in_ok-accounts.ensures.found clean rows k).0 none

pub returns-in_err-rows-clause-step : goal.returns-in_err-rows-clause-step
returns-in_err-rows-clause-step g c =
    and_stopped g.S.Store c.from_residual-in_err-rows.result
    (goes_by_read g.S.Store c.args.tx.now.conn c.posted_accounts.new.tx.conn c.posted_accounts.ensures.same_reference c.posted_accounts.ensures.unchanged c.in_ok-accounts.ensures.inside c.posted_accounts.ensures.survives)
    _ c.from_residual-in_err-rows.ensures.1
    (stops g.S.Store c.posted_accounts.new.tx.conn c.postings_of.new.tx.conn c.postings_of.ensures.same_reference c.postings_of.ensures.unchanged c.postings_of.ensures.survives)

pub returns-clause-step : goal.returns-clause-step
returns-clause-step g c =
    and_gone g.S.Store _
    (goes_by_read g.S.Store c.args.tx.now.conn c.posted_accounts.new.tx.conn c.posted_accounts.ensures.same_reference c.posted_accounts.ensures.unchanged c.in_ok-accounts.ensures.inside c.posted_accounts.ensures.survives)
    (goes_by_read g.S.Store c.posted_accounts.new.tx.conn c.postings_of.new.tx.conn c.postings_of.ensures.same_reference c.postings_of.ensures.unchanged c.in_ok-rows.ensures.inside c.postings_of.ensures.survives)

pub returns-clause-found : goal.returns-clause-found
returns-clause-found g c clean =
    let first = state g.S.Store c.args.tx.now.conn.now in
    let between = state g.S.Store c.posted_accounts.new.tx.conn.now in
    let last = state g.S.Store c.postings_of.new.tx.conn.now in
    let before = was g.S.Store (goes_by_read g.S.Store c.posted_accounts.new.tx.conn c.postings_of.new.tx.conn c.postings_of.ensures.same_reference c.postings_of.ensures.unchanged c.in_ok-rows.ensures.inside c.postings_of.ensures.survives) clean in
    let is_last : Some c.in-Some.account ≡ last_or None c.in_ok-accounts.accounts.items = search rules in
    newest_answered c.newest_of.result _ c.deref-2.result.now (HoldsRows first.now) c.newest_of.ensures
    (both_read first between last _ c.in-Some.account _ _ _ c.deref-2.result.now (c.in_ok-accounts.ensures.found before) (c.in_ok-rows.ensures.found clean) is_last (search rules) (search rules) c.deref-2.ensures.value)

pub returns-clause-refused : goal.returns-clause-refused
returns-clause-refused g c clean =
    let first = state g.S.Store c.args.tx.now.conn.now in
    let between = state g.S.Store c.posted_accounts.new.tx.conn.now in
    let last = state g.S.Store c.postings_of.new.tx.conn.now in
    let before = was g.S.Store (goes_by_read g.S.Store c.posted_accounts.new.tx.conn c.postings_of.new.tx.conn c.postings_of.ensures.same_reference c.postings_of.ensures.unchanged c.in_ok-rows.ensures.inside c.postings_of.ensures.survives) clean in
    let is_last : Some c.in-Some.account ≡ last_or None c.in_ok-accounts.accounts.items = search rules in
    newest_refused c.newest_of.result _ c.deref-2.result.now (HoldsRows first.now) c.newest_of.ensures
    (both_read first between last _ c.in-Some.account _ _ _ c.deref-2.result.now (c.in_ok-accounts.ensures.found before) (c.in_ok-rows.ensures.found clean) is_last (search rules) (search rules) c.deref-2.ensures.value)
