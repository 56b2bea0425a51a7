-- What the rows of a statement are read as.
use Rattle.std.proofs.Common.{◌≡◌, ◌∙◌, ℕ, zero, suc, ◌+◌, ◌≤◌, List, [], ◌∷◌, ◌++◌, length, map, codes, refl, sym, ap, ap₂, length-append, arith}
use Rattle.std.proofs.lemmas.List.{length-map}
use Rattle.std.specs.List.{join_with_byte}
use Rattle.csv.specs.Machine.{next_record}
use Rattle.csv.specs.Reading.{default_config, records, records_from}
use Rattle.csv.specs.Writing.{read_back}
use Rattle.csv.specs.declared.parser.State.TheVariants as st
use Rattle.csv.proofs.RoundTrip.{read-write, rows_text}
use Rattle.pay_tables.specs.Words.{FareEditions}
use Rattle.pay_rules.specs.declared.shown.Line.{Line}
use Rattle.pay_statement.specs.Statement.{columns, fields_of_line, row, rows_of_lines, statement_text}
use Rattle.pay_statement.proofs.Plain.{row_of_columns, row_of_line}

-- rows, read in as many turns as there are rows, or in more
each_row : (rows : List (List (List ℕ))) (turns : ℕ) → length rows ≤ turns → records_from default_config turns st.StartRecord (rows_text rows) ≡ map read_back rows
unfolding records_from rows_text next_record
each_row [] zero within = refl
each_row [] (suc turns) within = refl
each_row (fields ∷ rows) zero within = absurd (omega arith)
each_row (fields ∷ rows) (suc turns) within =
    let fewer : length rows ≤ turns = omega arith in
    rw (read-write fields (rows_text rows)) (ap (λ (later : List (List (List ℕ))). read_back fields ∷ later) (each_row rows turns fewer))

-- the rows of journeys, as `csv` writes them
as_written : (editions : FareEditions) (lines : List Line) → rows_text (map (fields_of_line editions) lines) ≡ rows_of_lines editions lines
unfolding rows_text
as_written editions [] = refl
as_written editions (line ∷ lines) = rw (row_of_line editions line) (ap (λ (rows : List ℕ). row (fields_of_line editions line) ++ rows) (as_written editions lines))

statement_written : (editions : FareEditions) (lines : List Line) → rows_text (columns ∷ map (fields_of_line editions) lines) ≡ statement_text editions lines
unfolding rows_text
statement_written editions lines = ap₂ (λ (first rows : List ℕ). first ++ rows) row_of_columns (as_written editions lines)

-- a row has some bytes
each_has_some : (editions : FareEditions) (lines : List Line) → length lines ≤ length (rows_of_lines editions lines)
each_has_some editions [] = omega arith
each_has_some editions (line ∷ lines) =
    let ended = length-append (join_with_byte 44 (fields_of_line editions line)) (codes "\n") in
    let parted = length-append (row (fields_of_line editions line)) (rows_of_lines editions lines) in
    let later = each_has_some editions lines in
    omega (arith, ended, parted, later)

enough_turns : (editions : FareEditions) (lines : List Line) → length (columns ∷ map (fields_of_line editions) lines) ≤ length (statement_text editions lines) + 1
enough_turns editions lines =
    let many = length-map lines (fields_of_line editions) in
    let parted = length-append (row columns) (rows_of_lines editions lines) in
    let later = each_has_some editions lines in
    omega (arith, many, parted, later)

same_fields : (editions : FareEditions) (lines : List Line) → map read_back (map (fields_of_line editions) lines) ≡ map (fields_of_line editions) lines
same_fields editions [] = refl
same_fields editions (line ∷ lines) = ap (λ (later : List (List (List ℕ))). fields_of_line editions line ∷ later) (same_fields editions lines)

pub statement_read : (editions : FareEditions) (lines : List Line) → records default_config (statement_text editions lines) ≡ columns ∷ map (fields_of_line editions) lines
statement_read editions lines =
    ap (records_from default_config (length (statement_text editions lines) + 1) st.StartRecord) (sym (statement_written editions lines))
    ∙ each_row (columns ∷ map (fields_of_line editions) lines) (length (statement_text editions lines) + 1) (enough_turns editions lines)
    ∙ ap (λ (later : List (List (List ℕ))). columns ∷ later) (same_fields editions lines)
