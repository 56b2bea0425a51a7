use Rattle.pay_session.proofs.InputPieces.{line_requests_line, line_requests_part, rest_of_line, rest_of_part}
use Rattle.pay_session.proofs.laws.line_by_line.Goals as goal

pub returns : goal.returns
returns c = record { line = line_requests_line; rest = rest_of_line; no_line = line_requests_part; all_rest = rest_of_part }
