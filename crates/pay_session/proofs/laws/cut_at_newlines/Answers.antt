use Rattle.pay_session.proofs.InputLines.{whole_again, lines_are_whole, rest_is_no_line, only_cutting}
use Rattle.pay_session.proofs.laws.cut_at_newlines.Goals as goal

pub returns : goal.returns
returns c = record { whole = whole_again; lines = lines_are_whole; rest = rest_is_no_line; only = only_cutting }
