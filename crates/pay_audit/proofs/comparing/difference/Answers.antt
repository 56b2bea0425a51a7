use Rattle.std.proofs.Common.{Option, IfSome, subst}
use Rattle.pay_postings.specs.Words.{parts}
use Rattle.pay_audit.specs.declared.difference.Difference.{Difference}
use Rattle.pay_audit.specs.Differs.{IsOtherItem}
use Rattle.pay_audit.proofs.Accounts.{agrees, counted, item_differs, postings_differ}
use Rattle.pay_audit.proofs.comparing.difference.Goals as goal

pub other_posting-requires-clause-version : goal.other_posting-requires-clause-version
other_posting-requires-clause-version g c =
    counted (g.F.Fares.account c.args.account.now) (g.F.Fares.accepted c.args.account.now) c.in_ok-sets.sets _ _ c.in_ok-sets.ensures c.taps.ensures.value c.fixes.ensures.value

pub returns-clause-agree : goal.returns-clause-agree
returns-clause-agree g c =
    agrees c.args.editions.now (g.F.Fares.account c.args.account.now) (g.F.Fares.accepted c.args.account.now) _ c.in_ok-other_posting-in-None.field-0 c.in_ok-sets.sets _ _ c.in_ok-sets.ensures c.as_slice.ensures.value c.in-None.is
    c.in_ok-other.ensures.taps c.in_ok-other.ensures.fixes c.in_ok-other_posting-in-None.ensures.agree

pub returns-in-Some-clause-differs : goal.returns-in-Some-clause-differs
returns-in-Some-clause-differs g c =
    item_differs c.args.editions.now (g.F.Fares.account c.args.account.now) (g.F.Fares.accepted c.args.account.now) c.in_ok-sets.sets (parts c.args.archived.now) c.in-Some.other c.in_ok-sets.ensures
    (subst (λ (o : Option Difference). IfSome o (IsOtherItem c.in_ok-sets.sets (parts c.args.archived.now))) c.in-Some.is c.in_ok-other.ensures.differs)

pub returns-clause-differs : goal.returns-clause-differs
returns-clause-differs g c =
    postings_differ c.args.editions.now (g.F.Fares.account c.args.account.now) (g.F.Fares.accepted c.args.account.now) _ c.in_ok-other_posting-in-None.field-0 c.in_ok-sets.sets (parts c.args.archived.now) _ c.in_ok-sets.ensures c.as_slice.ensures.value c.in-None.is
    c.in_ok-other.ensures.taps c.in_ok-other.ensures.fixes c.in_ok-other_posting-in-None.ensures.differs
