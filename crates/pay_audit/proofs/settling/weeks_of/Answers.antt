use Rattle.pay_audit.proofs.Weeks.{just_these}
use Rattle.pay_audit.proofs.settling.weeks_of.Goals as goal

pub returns-clause-exactly : goal.returns-clause-exactly
returns-clause-exactly g c =
    just_these (g.F.Fares.account c.args.account.now) (g.F.Fares.accepted c.args.account.now) c.in_ok-sets.sets _ _ c.in_ok-taps.taps.items c.in_ok-all.all.items c.each_once.result.items c.in_ok-sets.ensures c.taps.ensures.value c.fixes.ensures.value
    c.in_ok-taps.ensures c.in_ok-all.ensures c.each_once.ensures.same
