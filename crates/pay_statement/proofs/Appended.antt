-- What a writer holds that was given to the rows, and back.
use Rattle.std.proofs.Common.{◌≡◌, ◌∙◌, ℕ, ◌+◌, ◌<◌, List, [], ◌∷◌, ◌++◌, Option, Some, None, length, take, get_or, ap, sym, subst, append-nil}
use Rattle.std.proofs.lemmas.List.{take_more}
use Rattle.std.proofs.lemmas.Grind.{flat_map-append}
use Rattle.std.proofs.KnownBytes.{Appends-trans}
use Rattle.std.specs.Io.KnownBytes.{Appends, Keeps, append_known}
use Rattle.pay_tables.specs.Words.{FareEditions}
use Rattle.pay_rules.specs.declared.shown.Line.{Line}
use Rattle.pay_statement.specs.Statement.{fields_of_line, row, rows_of_lines}

-- nothing was left to be written at first
pub through : (old mid new : Option (List ℕ)) (text : List ℕ) → Appends (append_known old []) mid text → Keeps mid new → Appends old new text
through None mid new text p q = tt
through (Some x) None new text p q = absurd p
through (Some x) (Some y) None text p q = absurd q
through (Some x) (Some y) (Some z) text p q = q ∙ p ∙ ap (λ (bytes : List ℕ). bytes ++ text) (append-nil x)

-- the rows of the first journeys, and then the row of the next one
pub row_more : (old mid new : Option (List ℕ)) (editions : FareEditions) (lines : List Line) (i : ℕ) (line : Line) → i < length lines → line ≡ get_or lines i line
    → Appends old mid (rows_of_lines editions (take i lines)) → Appends mid new (row (fields_of_line editions line)) → Appends old new (rows_of_lines editions (take (i + 1) lines))
row_more old mid new editions lines i line low is before next =
    let text : Line → List ℕ = λ l. row (fields_of_line editions l) in
    let first = rows_of_lines editions (take i lines) in
    let more : rows_of_lines editions (take (i + 1) lines) ≡ first ++ row (fields_of_line editions line) =
    ap (rows_of_lines editions) (take_more lines i line low) ∙ flat_map-append text (take i lines) (get_or lines i line ∷ [])
    ∙ ap (λ (l : Line). first ++ (text l ++ [])) (sym is) ∙ ap (λ (rest : List ℕ). first ++ rest) (append-nil (text line)) in
    subst (Appends old new) (sym more) (Appends-trans old mid new first (row (fields_of_line editions line)) before next)
