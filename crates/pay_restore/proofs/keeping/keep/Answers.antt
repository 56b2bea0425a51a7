use Rattle.std.proofs.Common.{ap, sym, ◌∙◌, subst}
use Rattle.std.specs.FinMap.{insert}
use Rattle.pay_restore.specs.Filed.{held, AreFiled}
use Rattle.pay_restore.proofs.AtNumbers.{inserted, kept_and_one}
use Rattle.pay_restore.proofs.keeping.keep.Goals as goal

pub returns-clause-state : goal.returns-clause-state
returns-clause-state g c =
    inserted g.F.Fares.accepted c.args.accounts.now.entries c.insert.new.self.entries c.number-number.result c.args.account c.in_ok-insert.ensures.updates.0
    ∙ ap (λ n. insert (held g.F.Fares.accepted c.args.accounts.now.entries) n (g.F.Fares.accepted c.args.account)) c.number-number.ensures

pub returns-clause-kept : goal.returns-clause-kept
returns-clause-kept g c editions priced kept =
    subst (AreFiled g.F.Fares.account (g.F.Fares.IsPricedBy editions)) (sym c.in_ok-insert.ensures.entries)
    (kept_and_one g.F.Fares.account (g.F.Fares.IsPricedBy editions) c.args.accounts.now.entries c.number-number.result c.args.account c.number-number.ensures c.requires priced kept)
