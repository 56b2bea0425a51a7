use Rattle.std.proofs.Common.{◌≡◌, ◌∙◌, subst, ap, List, [], ◌∷◌, ℕ}
use Rattle.std.specs.Prelude.{OnOk}
use Rattle.std.specs.Io.KnownBytes.{Appends}
use Rattle.csv.specs.Writing.{default_writer, row_text, text_written}
use Rattle.pay_statement.specs.Statement.{fields_of_line}
use Rattle.pay_statement.proofs.Plain.{row_of_line}
use Rattle.pay_statement.proofs.statement.write_line.Goals as goal

pub returns-clause-text : goal.returns-clause-text
returns-clause-text g c =
    let fields : c.as_slice.result.now ∷ c.word.result.now ∷ c.as_slice-2.result.now ∷ c.as_slice-3.result.now ∷ c.as_slice-4.result.now ∷ c.as_slice-5.result.now
    ∷ c.as_slice-6.result.now ∷ [] ≡ fields_of_line c.args.editions.now c.args.line.now = cc in
    subst (λ (text : List ℕ). OnOk c.write_row.result (Appends (text_written g.W.Write.contents c.args.rows.now) (text_written g.W.Write.contents c.write_row.new.rows) text))
    (ap (row_text default_writer) fields ∙ row_of_line c.args.editions.now c.args.line.now) c.write_row.ensures.text
