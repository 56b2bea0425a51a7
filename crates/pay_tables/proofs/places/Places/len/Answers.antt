use Rattle.std.proofs.Common.{ap, sym, ◌∙◌}
use Rattle.std.specs.FinMap as map
use Rattle.pay_tables.proofs.NumberMaps.{len-made}
use Rattle.pay_tables.proofs.places.Places.len.Goals as goal

pub returns : goal.returns
returns c = c.len.ensures.len ∙ sym (len-made _ c.len.ensures.ordered) ∙ ap (λ m. map.len m) c.self.view_is
