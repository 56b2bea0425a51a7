use Rattle.std.proofs.Common.{ap, ◌∙◌}
use Rattle.std.specs.FinMap as map
use Rattle.pay_tables.proofs.NumberMaps.{from_entries-updated}
use Rattle.pay_tables.proofs.places.Places.put.Goals as goal

pub returns-clause-ok : goal.returns-clause-ok
returns-clause-ok c =
    from_entries-updated c.self.inside.numbers.entries c.insert.new.self.entries c.args.number c.args.place c.in_ok-insert.ensures.updates.0
    ∙ ap (λ m. map.insert m c.args.number c.args.place) c.self.view_is
