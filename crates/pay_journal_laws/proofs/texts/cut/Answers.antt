use Rattle.pay_journal_laws.proofs.CommandLines.{all_lines, cut, one_lost}
use Rattle.pay_journal_laws.proofs.texts.cut.Goals as goal

pub returns : goal.returns
returns c =
    let l = c.each_is_a_line.ensures in
    let lines = all_lines l.tap l.fix l.due l.show l.close l.quit in
    record { anywhere = cut c.line_by_line.ensures c.read_as_spelled.ensures.read lines; last = one_lost c.line_by_line.ensures c.read_as_spelled.ensures.read lines }
