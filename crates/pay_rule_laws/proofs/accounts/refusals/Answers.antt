use Rattle.pay_rules.specs.declared.limits.TheConstants.{MOST_TAPS}
use Rattle.pay_rule_laws.proofs.Results.{conflict_iff}
use Rattle.pay_rule_laws.proofs.accounts.refusals.Goals as goal

pub returns-clause-conflict : goal.returns-clause-conflict
returns-clause-conflict c editions accepted tap =
    let iff = conflict_iff editions accepted tap in
    let means = c.judgements.ensures.conflict MOST_TAPS accepted.taps tap in
    (λ e. let parts = iff.0 e in (parts.0, means.0 parts.1), λ h. iff.1 (h.0, means.1 h.1))
