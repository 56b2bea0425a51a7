use Rattle.std.proofs.Common.{Ok, ap, sym, ◌∙◌}
use Rattle.pay_rules.specs.declared.addition.Addition.TheVariants.{Added}
use Rattle.pay_rules.specs.declared.limits.TheConstants.{MOST_TAPS}
use Rattle.pay_rules.specs.Taps.{judged}
use Rattle.pay_account.proofs.Own.{own_after_tap}
use Rattle.pay_account.proofs.account.Account.accept_tap.Goals as goal

pub invariant_of-self-2 : goal.invariant_of-self-2
invariant_of-self-2 c =
    let tap = c.args.tap in
    let inside = c.self.inside in
    own_after_tap inside.number inside.taps c.put_at.new.self inside.fixes tap (Ok Added) (c.one_more.ensures.among inside.taps tap)
    ((c.judgements.ensures.added MOST_TAPS inside.taps tap).0 (ap (λ a. judged a.1.taps tap) c.self.view_is ∙ c.requires.place.is_new)).0 c.in_ok-put_at.ensures.ok
    (c.requires.own ∙ sym (ap (λ a. a.0) c.self.view_is)) c.self.invariant
