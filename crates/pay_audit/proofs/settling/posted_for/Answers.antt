use Rattle.std.proofs.Common.{ap, subst, sym, ◌∙◌}
use Rattle.std.specs.Prelude.{pos}
use Rattle.pay_records.specs.Found as found
use Rattle.pay_audit.specs.Settled.{so_far, ComeTooFar}
use Rattle.pay_audit.proofs.SharesRead.{alike}
use Rattle.pay_audit.proofs.Sums.{read_come_to, any_fault}
use Rattle.pay_audit.proofs.Fronts.{never_too_far}
use Rattle.pay_audit.proofs.settling.posted_for.Goals as goal

pub returns-clause-told : goal.returns-clause-told
returns-clause-told g c clean ledger k =
    let it = c.in_ok-postings.ensures.read clean k.stores.rows k.stores.held in
    let own = sym it.2 ∙ c.in_ok-postings.ensures.told clean ledger k in
    c.in_ok-so_far.ensures.value ∙ ap so_far (c.as_slice.ensures ∙ it.2) ∙ read_come_to c.args.account c.args.week (found.postings_of (pos c.args.account) k.stores.rows) it.1.0 it.0 it.1.2 ∙ alike c.args.account c.args.week it.0 ledger.postings own

pub returns-clause-read : goal.returns-clause-read
returns-clause-read g c clean rows k =
    let it = c.in_ok-postings.ensures.read clean rows k in
    (it.0, it.1, c.in_ok-so_far.ensures.value ∙ ap so_far (c.as_slice.ensures ∙ it.2) ∙ read_come_to c.args.account c.args.week (found.postings_of (pos c.args.account) rows) it.1.0 it.0 it.1.2)

pub returns-in_err-so_far-clause-never_bad : goal.returns-in_err-so_far-clause-never_bad
returns-in_err-so_far-clause-never_bad g c clean =
    any_fault c.from_residual-in_err-so_far.result _
    (λ fault ledger k. absurd
    (never_too_far c.net_of_rows.ensures k.stores.rows c.args.account c.args.week _ (c.in_ok-postings.ensures.read clean k.stores.rows k.stores.held) (subst ComeTooFar c.as_slice.ensures c.in_err-so_far.ensures.too_far.1)))

pub returns-in_err-so_far-clause-bad : goal.returns-in_err-so_far-clause-bad
returns-in_err-so_far-clause-bad g c clean =
    any_fault c.from_residual-in_err-so_far.result _
    (λ fault rows k. absurd (never_too_far c.net_of_rows.ensures rows c.args.account c.args.week _ (c.in_ok-postings.ensures.read clean rows k) (subst ComeTooFar c.as_slice.ensures c.in_err-so_far.ensures.too_far.1)))
