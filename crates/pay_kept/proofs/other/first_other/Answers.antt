use Rattle.std.proofs.Common.{IfNone, subst}
use Rattle.pay_kept.specs.Alike.{AreWithin}
use Rattle.pay_kept.proofs.Alike.{all_alike}
use Rattle.pay_kept.proofs.other.first_other.Goals as goal

pub returns-in-None-clause-alike : goal.returns-in-None-clause-alike
returns-in-None-clause-alike c =
    all_alike c.args.shard.now c.args.old.now c.editions-new.result.now c.editions-new.ensures c.first_difference-first.result c.last_alike-last.result c.last_alike-last.ensures c.first_difference-first.ensures.in_range
    c.first_difference-first.ensures.agree c.agreement.ensures (subst (λ o. IfNone o (AreWithin c.args.shard.now c.args.old.now c.last_alike-last.result)) c.in-None.is c.in_ok-account.ensures.none)
