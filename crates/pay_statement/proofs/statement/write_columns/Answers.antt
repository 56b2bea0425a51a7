use Rattle.std.proofs.Common.{subst, List, ℕ}
use Rattle.std.specs.Prelude.{OnOk}
use Rattle.std.specs.Io.KnownBytes.{Appends}
use Rattle.csv.specs.Writing.{text_written}
use Rattle.pay_statement.proofs.Plain.{row_of_columns}
use Rattle.pay_statement.proofs.statement.write_columns.Goals as goal

pub returns-clause-text : goal.returns-clause-text
returns-clause-text g c =
    subst (λ (text : List ℕ). OnOk c.write_row.result (Appends (text_written g.W.Write.contents c.args.rows.now) (text_written g.W.Write.contents c.write_row.new.rows) text))
    row_of_columns c.write_row.ensures.text
