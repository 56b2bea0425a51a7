use Rattle.pay_session.proofs.InputLines.{front_of, none_unread}
use Rattle.pay_session.proofs.laws.unread_after_quit.Goals as goal

pub returns : goal.returns
returns c = record { after = front_of c.read_as_spelled.ensures.spelled; none = none_unread }
