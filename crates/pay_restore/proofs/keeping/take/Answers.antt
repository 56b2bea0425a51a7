use Rattle.std.proofs.Common.{sym, ◌∙◌, subst}
use Rattle.std.specs.BTreeMap.{is_at}
use Rattle.std.specs.Ordering.{nat_cmp}
use Rattle.pay_restore.specs.Filed.{IsFiled, AreFiled}
use Rattle.pay_restore.proofs.AtNumbers.{is_held, nothing_held, put_back, one_of_all, all_but_one}
use Rattle.pay_restore.proofs.keeping.take.Goals as goal

pub returns-in-Some-clause-accepted : goal.returns-in-Some-clause-accepted
returns-in-Some-clause-accepted g c = is_held g.F.Fares.accepted c.args.accounts.now.entries c.args.number c.in-Some.account c.in-Some.ensures.value

pub returns-in-Some-clause-own : goal.returns-in-Some-clause-own
returns-in-Some-clause-own g c editions kept =
    (one_of_all (IsFiled g.F.Fares.account (g.F.Fares.IsPricedBy editions)) c.args.accounts.now.entries c.args.number c.in-Some.account kept c.in-Some.ensures.value).0

pub returns-in-Some-clause-priced_by : goal.returns-in-Some-clause-priced_by
returns-in-Some-clause-priced_by g c editions kept =
    (one_of_all (IsFiled g.F.Fares.account (g.F.Fares.IsPricedBy editions)) c.args.accounts.now.entries c.args.number c.in-Some.account kept c.in-Some.ensures.value).2

pub returns-in-Some-clause-others : goal.returns-in-Some-clause-others
returns-in-Some-clause-others g c accepted = put_back g.F.Fares.accepted c.args.accounts.now.entries c.remove.new.self.entries c.args.number accepted c.remove.ensures.updates.0

pub returns-in-Some-clause-kept : goal.returns-in-Some-clause-kept
returns-in-Some-clause-kept g c editions kept =
    subst (AreFiled g.F.Fares.account (g.F.Fares.IsPricedBy editions)) (sym c.remove.ensures.entries)
    (all_but_one (IsFiled g.F.Fares.account (g.F.Fares.IsPricedBy editions)) (is_at (nat_cmp c.args.number)) c.args.accounts.now.entries kept)

pub returns-in-None-clause-accepted : goal.returns-in-None-clause-accepted
returns-in-None-clause-accepted g c = c.new.ensures.nothing ∙ nothing_held g.F.Fares.accepted c.args.accounts.now.entries c.args.number c.in-None.ensures.value
