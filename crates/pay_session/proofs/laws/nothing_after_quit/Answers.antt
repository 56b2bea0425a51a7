use Rattle.pay_session.proofs.InputLines.{stops_at_quit, leaves_after_quit, same_before_quit}
use Rattle.pay_session.proofs.laws.nothing_after_quit.Goals as goal

pub returns : goal.returns
returns c = record { asked = stops_at_quit; same = same_before_quit; unread = leaves_after_quit }
