use Rattle.pay_session.specs.Requests.{input_lines}
use Rattle.pay_account_lines.proofs.Lines.{asked_of_own}
use Rattle.pay_account_lines.proofs.laws.own_lines_ask.Goals as goal

pub returns : goal.returns
returns c = λ account text. asked_of_own c.line_by_line.ensures account (input_lines text) (c.cut_at_newlines.ensures.lines text)
