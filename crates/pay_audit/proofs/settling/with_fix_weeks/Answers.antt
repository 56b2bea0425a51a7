use Rattle.std.proofs.Common.{arith}
use Rattle.std.proofs.lemmas.Grind.{common_steps}
use Rattle.std.proofs.lemmas.List.{map-append}
use Rattle.std.proofs.lemmas.List.Elements.{filter_map-append}
use Rattle.pay_audit.proofs.settling.with_fix_weeks.Goals as goal

pub loop-fix-preserved : goal.loop-fix-preserved
loop-fix-preserved c = grind (arith, common_steps, filter_map-append, map-append)
