use Rattle.pay_rules.specs.declared.limits.TheConstants.{MOST_FIXES}
use Rattle.pay_rule_laws.proofs.Results.{fix_conflict_iff}
use Rattle.pay_rule_laws.proofs.accounts.refusals_of_fixes.Goals as goal

pub returns-clause-conflict : goal.returns-clause-conflict
returns-clause-conflict c editions accepted fix =
    let iff = fix_conflict_iff editions accepted fix in
    let means = c.judgements.ensures.conflict MOST_FIXES accepted.fixes fix in
    (λ e. let parts = iff.0 e in (parts.0, means.0 parts.1), λ h. iff.1 (h.0, means.1 h.1))
