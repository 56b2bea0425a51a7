use Rattle.std.proofs.Common.{ap, sym, ◌∙◌}
use Rattle.pay_rules.specs.declared.limits.TheConstants.{MOST_FIXES}
use Rattle.pay_rules.specs.Fixes.{judged}
use Rattle.pay_account.proofs.Own.{own_after_fix}
use Rattle.pay_account.proofs.account.Account.accept_fix.Goals as goal

-- whatever came of it, all are of the account
pub invariant_of-self : goal.invariant_of-self
invariant_of-self c =
    let fix = c.args.fix in
    let inside = c.self.inside in
    own_after_fix inside.number inside.taps inside.fixes c.add.new.self fix c.add.result (c.one_more.ensures.among inside.fixes fix)
    ((c.judgements.ensures.added MOST_FIXES inside.fixes fix).0 (ap (λ a. judged a.1.fixes fix) c.self.view_is ∙ c.requires.judged)).0 c.add.ensures.after (c.requires.own ∙ sym (ap (λ a. a.0) c.self.view_is)) c.self.invariant
