use Rattle.std.proofs.Common.{take}
use Rattle.std.specs.Io.KnownBytes.{Appends}
use Rattle.csv.specs.Writing.{text_written}
use Rattle.pay_statement.specs.Rows.{IsBetweenRows}
use Rattle.pay_statement.specs.Statement.{rows_of_lines}
use Rattle.pay_statement.proofs.statement.write_lines.Given as goal

-- the rows of the first journeys are written
abbrev pub invariant-loop-line : goal.invariant-loop-line
invariant-loop-line g l = record {
  between : IsBetweenRows l.rows;
  text : Appends (text_written g.W.Write.contents l.fn.rows) (text_written g.W.Write.contents l.rows) (rows_of_lines l.editions (take l.line-index l.lines));
}
