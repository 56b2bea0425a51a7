use Rattle.std.proofs.Common.{pos, ◌+ℤ◌, ap, sym, ◌∙◌}
use Rattle.pay_day.specs.Day.{local_seconds}
use Rattle.pay_day.proofs.service.stamp_at.Goals as goal

pub returns : goal.returns
unfolding local_seconds
returns c zone e = c.moment_of.ensures zone (c.local_clock.ensures.value ∙ ap (λ o. pos c.args.utc +ℤ o) (sym e))
