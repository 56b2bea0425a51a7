use Rattle.pay_session.proofs.InputLines.{goes_on, bad_goes_on, long_goes_on}
use Rattle.pay_session.proofs.laws.session_goes_on.Goals as goal

pub returns : goal.returns
returns c =
    let spelled = c.read_as_spelled.ensures.spelled in
    record { line = goes_on spelled; bad = bad_goes_on spelled; long = long_goes_on spelled }
