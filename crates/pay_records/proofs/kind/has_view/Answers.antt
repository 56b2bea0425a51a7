use Rattle.std.proofs.Common.{◌∙◌, ap}
use Rattle.pay_records.specs.Kinds.{has_view}
use Rattle.pay_records.proofs.Views.{free_has_no_view}
use Rattle.pay_records.proofs.kind.has_view.Goals as goal

pub returns-clause-free : goal.returns-clause-free
returns-clause-free g c free = c.has_view_in.ensures ∙ ap has_view c.schema.ensures.value ∙ free_has_no_view _ free
