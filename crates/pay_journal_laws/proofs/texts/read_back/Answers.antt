use Rattle.pay_journal_laws.proofs.CommandLines.{all_lines, read_back}
use Rattle.pay_journal_laws.proofs.texts.read_back.Goals as goal

pub returns : goal.returns
returns c =
    let l = c.each_is_a_line.ensures in
    read_back c.line_by_line.ensures c.read_as_spelled.ensures.read (all_lines l.tap l.fix l.due l.show l.close l.quit)
