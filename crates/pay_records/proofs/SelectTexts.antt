-- What each SELECT of the ledger means over its tables.
use Rattle.std.proofs.Common.{◌≡◌, ℕ, false, List, [], ◌∷◌, codes}
use Rattle.sqlite_value.specs.declared.keys.Key.{Key}
use Rattle.sqlite_value.specs.declared.keys.Collation.TheVariants.{Binary}
use Rattle.sqlite_sql.specs.declared.ops.CompareOp.TheVariants.{Eq, Ge, Le}
use Rattle.sqlite_sql.specs.declared.ops.BinaryOp.TheVariants.{Compare}
use Rattle.sqlite.specs.Command.TheVariants.{Select}
use Rattle.sqlite.specs.Term.{Term, col, op2}
use Rattle.sqlite.specs.Query.{Query, inner, end}
use Rattle.sqlite.specs.Schema.{Schema}
use Rattle.sqlite.specs.Listing.{understood, reads_listing}
use Rattle.sqlite.proofs.Callers.{IsPlain, command_of}
use Rattle.pay_records.proofs.Selects.{simple}

abbrev pub select_postings : List ℕ
select_postings = codes "SELECT account, id, week, through, version, due, amount, edition FROM postings2 WHERE account >= ?1 AND account <= ?2 ORDER BY id"

abbrev pub select_shares : List ℕ
select_shares = codes "SELECT account, posting, operator, shares2.amount FROM postings2 JOIN shares2 ON shares2.posting = postings2.id WHERE account >= ?1 AND account <= ?2"

abbrev pub select_taps : List ℕ
select_taps = codes "SELECT account, reader, seq, utc, day, second, place, kind FROM taps WHERE account >= ?1 AND account <= ?2 ORDER BY rowid"

abbrev pub select_fixes : List ℕ
select_fixes = codes "SELECT account, staff, seq, what, a, b, c, d, e FROM fixes WHERE account >= ?1 AND account <= ?2 ORDER BY rowid"

abbrev pub select_all_taps : List ℕ
select_all_taps = codes "SELECT account, reader, seq, utc, day, second, place, kind FROM taps ORDER BY rowid"

abbrev pub select_all_fixes : List ℕ
select_all_fixes = codes "SELECT account, staff, seq, what, a, b, c, d, e FROM fixes ORDER BY rowid"

abbrev pub select_posted_accounts : List ℕ
select_posted_accounts = codes "SELECT account FROM postings2 ORDER BY id"

abbrev pub select_tapped_accounts : List ℕ
select_tapped_accounts = codes "SELECT account FROM taps ORDER BY rowid"

abbrev pub select_fixed_accounts : List ℕ
select_fixed_accounts = codes "SELECT account FROM fixes ORDER BY rowid"

abbrev pub select_meta : List ℕ
select_meta = codes "SELECT name, version FROM meta"

-- a column of the first table is between the parameters
abbrev pub is_between_given : ℕ → List Term
is_between_given at = op2 (Compare Ge Binary) (col 1 at) (col 0 0) ∷ op2 (Compare Le Binary) (col 1 at) (col 0 1) ∷ []

abbrev pub by_rowid : List (Term × Key)
by_rowid = (col 1 0, record { collation = Binary; descending = false }) ∷ []

-- over the tables of these trees
abbrev pub postings_query : ℕ → Query
postings_query tree = simple (inner tree end) (is_between_given 2) (col 1 2 ∷ col 1 0 ∷ col 1 3 ∷ col 1 4 ∷ col 1 5 ∷ col 1 6 ∷ col 1 7 ∷ col 1 8 ∷ []) by_rowid

abbrev pub shares_query : ℕ → ℕ → Query
shares_query postings shares = simple (inner postings (inner shares end)) (op2 (Compare Eq Binary) (col 2 1) (col 1 0) ∷ is_between_given 2) (col 1 2 ∷ col 2 1 ∷ col 2 2 ∷ col 2 3 ∷ []) []

abbrev pub taps_query : ℕ → Query
taps_query tree = simple (inner tree end) (is_between_given 1) (col 1 1 ∷ col 1 2 ∷ col 1 3 ∷ col 1 4 ∷ col 1 5 ∷ col 1 6 ∷ col 1 7 ∷ col 1 8 ∷ []) by_rowid

abbrev pub fixes_query : ℕ → Query
fixes_query tree = simple (inner tree end) (is_between_given 1) (col 1 1 ∷ col 1 2 ∷ col 1 3 ∷ col 1 4 ∷ col 1 5 ∷ col 1 6 ∷ col 1 7 ∷ col 1 8 ∷ col 1 9 ∷ []) by_rowid

abbrev pub all_taps_query : ℕ → Query
all_taps_query tree = simple (inner tree end) [] (col 1 1 ∷ col 1 2 ∷ col 1 3 ∷ col 1 4 ∷ col 1 5 ∷ col 1 6 ∷ col 1 7 ∷ col 1 8 ∷ []) by_rowid

abbrev pub all_fixes_query : ℕ → Query
all_fixes_query tree = simple (inner tree end) [] (col 1 1 ∷ col 1 2 ∷ col 1 3 ∷ col 1 4 ∷ col 1 5 ∷ col 1 6 ∷ col 1 7 ∷ col 1 8 ∷ col 1 9 ∷ []) by_rowid

-- the account is the second column of a row of `postings2`, and the first one of the others, after the rowid
abbrev pub posted_accounts_query : ℕ → Query
posted_accounts_query tree = simple (inner tree end) [] (col 1 2 ∷ []) by_rowid

abbrev pub accounts_query : ℕ → Query
accounts_query tree = simple (inner tree end) [] (col 1 1 ∷ []) by_rowid

abbrev pub meta_query : ℕ → Query
meta_query tree = simple (inner tree end) [] (col 1 1 ∷ col 1 2 ∷ []) []

-- under a schema a text is this query, and nothing else
pub record IsQuery (schema : Schema) (text : List ℕ) (q : Query) (names : List (List ℕ)) : Type 0 where
  pub command : command_of (understood schema text) ≡ Select (record { lets = []; body = q }) names
  pub plain : IsPlain (understood schema text)
  pub unlisted : reads_listing schema text ≡ false
