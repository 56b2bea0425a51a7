use Rattle.pay_serve.proofs.Runs.{passed_are_kept}
use Rattle.pay_serve.proofs.laws.passed_are_kept.Goals as goal

pub returns : goal.returns
returns g c = passed_are_kept g.K.Keeper.holds g.K.Keeper.HasFailed g.K.Keeper.IsSettled
