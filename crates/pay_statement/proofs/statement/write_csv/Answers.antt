use Rattle.csv.specs.Writing.{text_written}
use Rattle.pay_statement.specs.Statement.{statement_text}
use Rattle.pay_statement.proofs.Appended.{through}
use Rattle.pay_statement.proofs.statement.write_csv.Goals as goal

pub returns-in-Ok : goal.returns-in-Ok
returns-in-Ok g c =
    let made = c.from_writer-rows.ensures in
    through (g.W.Write.contents c.args.writer) (text_written g.W.Write.contents c.write_rows.new.rows) (g.W.Write.contents c.in-Ok.writer) (statement_text c.args.editions.now c.args.lines.now)
    (rw (made.wtr, made.empty) at c.in_ok-write_rows.ensures) c.in-Ok.ensures.ok
