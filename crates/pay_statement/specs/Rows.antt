-- A writer of rows that stands between two of them.
use Rattle.std.specs.Prelude.{◌≡◌, false}
use Rattle.csv.specs.Writing.{default_writer, writer_setup, fields_written, has_written}
use Rattle.csv.specs.declared.writer.Writer.{Writer}

-- it writes as `csv` does by default, and no field of the next row is written yet
pub record IsBetweenRows {W : Type 0} (rows : Writer W) : Type 0 where
  pub setup : writer_setup rows ≡ default_writer
  pub fields : fields_written rows ≡ 0
  pub wrote : has_written rows ≡ false
