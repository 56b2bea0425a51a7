use Rattle.std.proofs.Common.{is_some, ap, sym, ◌∙◌}
use Rattle.std.specs.FinMap as map
use Rattle.pay_tables.proofs.NumberMaps.{get-lookup}
use Rattle.pay_tables.proofs.places.Places.contains.Goals as goal

pub returns : goal.returns
returns c =
    c.contains_key.ensures ∙ sym (ap is_some (get-lookup c.self.inside.numbers.entries c.args.number))
    ∙ ap (λ m. map.contains_key m c.args.number) c.self.view_is
