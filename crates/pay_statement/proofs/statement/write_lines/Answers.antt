use Rattle.csv.specs.Writing.{text_written}
use Rattle.pay_statement.proofs.Appended.{row_more}
use Rattle.pay_statement.proofs.statement.write_lines.Goals as goal

pub loop-line-preserved : goal.loop-line-preserved
loop-line-preserved g c = record {
  between = c.in_ok-write_line.ensures.between;
  text = row_more (text_written g.W.Write.contents c.args.rows.now) (text_written g.W.Write.contents c.loop-line.rows) (text_written g.W.Write.contents c.write_line.new.rows)
      c.args.editions.now c.args.lines.now c.loop-line.line-index c.line-item.result c.loop-line-test.true c.line-item.is c.loop-line.invariant.text c.in_ok-write_line.ensures.text;
}
