-- Each INSERT of the ledger, and the values that it stores.
use Rattle.std.proofs.Common.{ℕ, pos, List, [], ◌∷◌, codes}
use Rattle.sqlite_schema.specs.declared.command.Returning.{Returning}
use Rattle.sqlite.specs.Source.TheVariants.{Values}
use Rattle.sqlite.specs.Term.{Term, lit, col}
use Rattle.sqlite.specs.declared.types.Value.TheVariants.{Null, Int, Text}

abbrev pub insert_posting : List ℕ
insert_posting = codes "INSERT INTO postings2 (account, week, through, version, due, amount, edition) VALUES (?1, ?2, ?3, ?4, ?5, ?6, ?7) RETURNING id"

abbrev pub insert_share : List ℕ
insert_share = codes "INSERT INTO shares2 (posting, operator, amount) VALUES (?1, ?2, ?3)"

abbrev pub insert_tap : List ℕ
insert_tap = codes "INSERT INTO taps (account, reader, seq, utc, day, second, place, kind) VALUES (?1, ?2, ?3, ?4, ?5, ?6, ?7, ?8)"

abbrev pub insert_fix : List ℕ
insert_fix = codes "INSERT INTO fixes (account, staff, seq, what, a, b, c, d, e) VALUES (?1, ?2, ?3, ?4, ?5, ?6, ?7, ?8, ?9)"

abbrev pub insert_meta : List ℕ
insert_meta = codes "INSERT INTO meta (name, version) VALUES ('farebox', 2)"

-- the columns in order, after an empty rowid
abbrev pub share_terms : List Term
share_terms = lit Null ∷ col 0 0 ∷ col 0 1 ∷ col 0 2 ∷ []

abbrev pub tap_terms : List Term
tap_terms = lit Null ∷ col 0 0 ∷ col 0 1 ∷ col 0 2 ∷ col 0 3 ∷ col 0 4 ∷ col 0 5 ∷ col 0 6 ∷ col 0 7 ∷ []

abbrev pub fix_terms : List Term
fix_terms = lit Null ∷ col 0 0 ∷ col 0 1 ∷ col 0 2 ∷ col 0 3 ∷ col 0 4 ∷ col 0 5 ∷ col 0 6 ∷ col 0 7 ∷ col 0 8 ∷ []

-- the number of a posting and its rowid are empty
abbrev pub posting_terms : List Term
posting_terms = lit Null ∷ lit Null ∷ col 0 0 ∷ col 0 1 ∷ col 0 2 ∷ col 0 3 ∷ col 0 4 ∷ col 0 5 ∷ col 0 6 ∷ []

-- the row of `meta`
abbrev pub meta_terms : List Term
meta_terms = lit Null ∷ lit (Text (codes "farebox")) ∷ lit (Int (pos 2)) ∷ []

-- what RETURNING shows: the number
abbrev pub returned : Returning
returned = record { names = codes "id" ∷ []; row = Values (col 0 9 ∷ []) 1 }
