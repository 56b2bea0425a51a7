use Rattle.std.proofs.Common.{IfNone, IfSome, subst}
use Rattle.pay_kept.specs.Alike.{AreAlike, AreTouched}
use Rattle.pay_kept.proofs.kept.compare.Goals as goal

pub returns-in-None-clause-alike : goal.returns-in-None-clause-alike
returns-in-None-clause-alike c = record {
  has_ledger = c.in-Some.parts.0;
  fares = c.in-Some.parts.1.now;
  says = c.in-Some.ensures.kept;
  old = c.in_ok-old.old;
  read = c.in_ok-old.ensures.ok;
  alike = subst (λ o. IfNone o (AreAlike c.args.shard.now c.in_ok-old.old)) c.in-None.is c.in_ok-first_other.ensures.alike;
}

pub returns-clause-other : goal.returns-clause-other
returns-clause-other c =
    (c.in-Some.parts.0, c.in-Some.parts.1.now, c.in_ok-old.old, c.in-Some.ensures.kept, c.in_ok-old.ensures.ok, subst (λ o. IfSome o (λ it. AreTouched c.args.shard.now c.in_ok-old.old it.difference it.account it.on)) c.in-Some-2.is c.in_ok-first_other.ensures.other)
