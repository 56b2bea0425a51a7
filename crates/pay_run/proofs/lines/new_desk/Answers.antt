use Rattle.std.proofs.Common.{◌∙◌, refl}
use Rattle.std.specs.List.{IsDistinct}
use Rattle.pay_shard.specs.Words.{state_of}
use Rattle.pay_run.proofs.PastLines.{has_none}
use Rattle.pay_run.proofs.lines.new_desk.Goals as goal

-- no account has the number of another
pub new-requires-2-clause-distinct : goal.new-requires-2-clause-distinct
unfolding IsDistinct
new-requires-2-clause-distinct g c = rw c.new.ensures.items tt

pub returns-clause-base : goal.returns-clause-base
unfolding state_of
returns-clause-base g c = c.in-Ok.ensures.base ∙ (rw c.new.ensures.items refl)

pub returns-clause-none : goal.returns-clause-none
unfolding state_of
returns-clause-none g c zone = has_none zone _ c.in-Ok.desk c.in-Ok.ensures.editions (c.in-Ok.ensures.base ∙ (rw c.new.ensures.items refl)) c.in-Ok.ensures.journal
