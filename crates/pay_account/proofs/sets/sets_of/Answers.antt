use Rattle.std.proofs.Common.{sym}
use Rattle.pay_account.proofs.sets.sets_of.Goals as goal

pub of-requires-clause-numbered_taps : goal.of-requires-clause-numbered_taps
of-requires-clause-numbered_taps c = record { set = c.args.taps.now; numbered = c.in_ok-taps.ensures.numbered; all = sym c.in_ok-taps.ensures.all }

pub of-requires-clause-numbered_fixes : goal.of-requires-clause-numbered_fixes
of-requires-clause-numbered_fixes c = record { set = c.args.fixes.now; numbered = c.in_ok-fixes.ensures.numbered; all = sym c.in_ok-fixes.ensures.all }
