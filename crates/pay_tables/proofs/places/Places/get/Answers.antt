use Rattle.std.proofs.Common.{ap, sym, ◌∙◌}
use Rattle.std.specs.FinMap as map
use Rattle.std.specs.List.{slice_get}
use Rattle.pay_tables.proofs.NumberMaps.{get-lookup}
use Rattle.pay_tables.proofs.places.Places.get.Goals as goal

pub returns-in-Some : goal.returns-in-Some
returns-in-Some c =
    c.self.invariant c.args.number c.in-Some.found (ap (λ laid. slice_get laid c.args.number) (sym c.deref.ensures.value) ∙ sym c.laid_at.ensures ∙ c.in-Some.is)
    ∙ sym (get-lookup c.self.inside.numbers.entries c.args.number)
    ∙ ap (λ m. map.get m c.args.number) c.self.view_is

pub returns-in-None : goal.returns-in-None
returns-in-None c =
    c.copied.ensures ∙ c.get.ensures.value ∙ sym (get-lookup c.self.inside.numbers.entries c.args.number)
    ∙ ap (λ m. map.get m c.args.number) c.self.view_is
