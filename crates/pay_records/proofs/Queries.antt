-- What each SELECT of the ledger means under any schema that has its tables.
use Rattle.std.proofs.Common.{◌≡◌, ℕ, true, false, List, [], ◌∷◌, map, codes, Option, Some, None, Ok, refl, sym, ap, subst}
use Rattle.sqlite_tied.specs.Compute.{everything}
use Rattle.sqlite_ast.specs.declared.Expr.{Expr}
use Rattle.sqlite_ast.specs.declared.Select.{Select as Written}
use Rattle.sqlite.specs.Command.TheVariants.{Select}
use Rattle.sqlite.specs.Query.{Query}
use Rattle.sqlite.specs.Schema.{Schema}
use Rattle.sqlite.proofs.Callers.{IsPlain, command_of}
use Rattle.sqlite_schema.specs.Names.{same_name}
use Rattle.sqlite_typing.specs.Types.{accepts_program}
use Rattle.sqlite_resolve.specs.Lowering.{chosen, alone, first_found}
use Rattle.sqlite_resolve.specs.Scope.{Name, is_rowid}
use Rattle.sqlite_resolve.specs.Select.{ungrouped}
use Rattle.sqlite_resolve.specs.Compile.{first, read}
use Rattle.sqlite_resolve.specs.Body.{tests}
use Rattle.sqlite_resolve.specs.Order.{sorts}
use Rattle.pay_records.specs.Tables.{meta, taps, taps_columns, fixes, fixes_columns, postings}
use Rattle.pay_records.specs.Places.{Place, HasTable}
use Rattle.pay_records.proofs.SelectTexts.{select_meta, select_posted_accounts, select_tapped_accounts, select_fixed_accounts, select_all_taps, select_all_fixes, select_taps, select_fixes, select_postings, IsQuery, is_between_given as given_between, by_rowid, meta_query, posted_accounts_query, accounts_query, all_taps_query, all_fixes_query, taps_query, fixes_query, postings_query}
use Rattle.pay_records.proofs.Selecting.{bare, source, by_column, select_of, parsed_as, understood_is, classes_are, reads_one, rowid_sorts, column_sorts, between_tests, is_between_given}

pub is_query : (schema : Schema) (text : List ℕ) (s : Written) (names : List Name) (size : ℕ) (q : Query) (shown : List (List ℕ)) → first text ≡ Ok (parsed_as s names size)
    → read schema s ≡ Ok (Select (record { lets = []; body = q }) shown) → IsQuery schema text q shown
is_query schema text s names size q shown parsed reads =
    let it = understood_is schema text s names size (Select (record { lets = []; body = q }) shown) parsed reads in
    record { command = ap command_of it.0; plain = subst IsPlain (sym it.0) (refl, refl); unlisted = it.1 }

-- the parameters by their spelling
abbrev pub parameters : List Name
parameters = codes "?1" ∷ codes "?2" ∷ []

-- ---- the row of `meta`

abbrev pub meta_names : List Name
meta_names = codes "name" ∷ codes "version" ∷ []

abbrev meta_written : Written
meta_written = select_of (map bare meta_names) (source (codes "meta") None ∷ []) None []

meta_parsed : first select_meta ≡ Ok (parsed_as meta_written [] 30)
unfolding first everything
meta_parsed = refl

module _ (schema : Schema) (place : Place) (has : HasTable schema place meta) where
  meta_accepted : accepts_program schema [] (meta_query place.table.tree) [] ≡ true
  meta_accepted = simp (classes_are schema place meta has)

  meta_read : read schema meta_written ≡ Ok (Select (record { lets = []; body = meta_query place.table.tree }) meta_names)
  unfolding ungrouped same_name tests sorts
  meta_read = reads_one schema place meta has meta_names _ refl refl None [] [] [] 99998 99998 _ _ refl refl meta_accepted

  pub select_meta_is : IsQuery schema select_meta (meta_query place.table.tree) meta_names
  select_meta_is = is_query schema select_meta meta_written [] 30 (meta_query place.table.tree) meta_names meta_parsed meta_read

-- ---- all of a table

abbrev all_taps_written : Written
all_taps_written = select_of (map bare taps_columns) (source (codes "taps") None ∷ []) None (by_column (codes "rowid") ∷ [])

all_taps_parsed : first select_all_taps ≡ Ok (parsed_as all_taps_written [] 83)
unfolding first everything
all_taps_parsed = refl

module _ (schema : Schema) (place : Place) (has : HasTable schema place taps) where
  all_taps_accepted : accepts_program schema [] (all_taps_query place.table.tree) [] ≡ true
  all_taps_accepted = simp (classes_are schema place taps has)

  all_taps_read : read schema all_taps_written ≡ Ok (Select (record { lets = []; body = all_taps_query place.table.tree }) taps_columns)
  unfolding ungrouped same_name tests is_rowid
  all_taps_read = reads_one schema place taps has taps_columns _ refl refl None (by_column (codes "rowid") ∷ []) [] by_rowid 99992 99991 _ _ refl
      (rowid_sorts schema place taps has _ false (codes "rowid") refl refl refl 99992 _ refl) all_taps_accepted

  pub select_all_taps_is : IsQuery schema select_all_taps (all_taps_query place.table.tree) taps_columns
  select_all_taps_is = is_query schema select_all_taps all_taps_written [] 83 (all_taps_query place.table.tree) taps_columns all_taps_parsed all_taps_read

abbrev all_fixes_written : Written
all_fixes_written = select_of (map bare fixes_columns) (source (codes "fixes") None ∷ []) None (by_column (codes "rowid") ∷ [])

all_fixes_parsed : first select_all_fixes ≡ Ok (parsed_as all_fixes_written [] 73)
unfolding first everything
all_fixes_parsed = refl

module _ (schema : Schema) (place : Place) (has : HasTable schema place fixes) where
  all_fixes_accepted : accepts_program schema [] (all_fixes_query place.table.tree) [] ≡ true
  all_fixes_accepted = simp (classes_are schema place fixes has)

  all_fixes_read : read schema all_fixes_written ≡ Ok (Select (record { lets = []; body = all_fixes_query place.table.tree }) fixes_columns)
  unfolding ungrouped same_name tests is_rowid
  all_fixes_read = reads_one schema place fixes has fixes_columns _ refl refl None (by_column (codes "rowid") ∷ []) [] by_rowid 99991 99990 _ _ refl
      (rowid_sorts schema place fixes has _ false (codes "rowid") refl refl refl 99991 _ refl) all_fixes_accepted

  pub select_all_fixes_is : IsQuery schema select_all_fixes (all_fixes_query place.table.tree) fixes_columns
  select_all_fixes_is = is_query schema select_all_fixes all_fixes_written [] 73 (all_fixes_query place.table.tree) fixes_columns all_fixes_parsed all_fixes_read

-- ---- of a stretch of accounts

abbrev between : Option Expr
between = Some (is_between_given (codes "account"))

abbrev taps_written : Written
taps_written = select_of (map bare taps_columns) (source (codes "taps") None ∷ []) between (by_column (codes "rowid") ∷ [])

taps_parsed : first select_taps ≡ Ok (parsed_as taps_written parameters 121)
unfolding first everything
taps_parsed = refl

module _ (schema : Schema) (place : Place) (has : HasTable schema place taps) where
  taps_accepted : accepts_program schema [] (taps_query place.table.tree) [] ≡ true
  taps_accepted = simp (classes_are schema place taps has)

  taps_read : read schema taps_written ≡ Ok (Select (record { lets = []; body = taps_query place.table.tree }) taps_columns)
  unfolding ungrouped same_name is_rowid chosen alone first_found
  taps_read = reads_one schema place taps has taps_columns _ refl refl between (by_column (codes "rowid") ∷ []) (given_between 1) by_rowid 99985 99984 _ _
      (between_tests schema place taps has _ false (codes "account") 0 _ refl refl refl refl refl 99992 _ refl)
      (rowid_sorts schema place taps has _ false (codes "rowid") refl refl refl 99985 _ refl) taps_accepted

  pub select_taps_is : IsQuery schema select_taps (taps_query place.table.tree) taps_columns
  select_taps_is = is_query schema select_taps taps_written parameters 121 (taps_query place.table.tree) taps_columns taps_parsed taps_read

abbrev fixes_written : Written
fixes_written = select_of (map bare fixes_columns) (source (codes "fixes") None ∷ []) between (by_column (codes "rowid") ∷ [])

fixes_parsed : first select_fixes ≡ Ok (parsed_as fixes_written parameters 111)
unfolding first everything
fixes_parsed = refl

module _ (schema : Schema) (place : Place) (has : HasTable schema place fixes) where
  fixes_accepted : accepts_program schema [] (fixes_query place.table.tree) [] ≡ true
  fixes_accepted = simp (classes_are schema place fixes has)

  fixes_read : read schema fixes_written ≡ Ok (Select (record { lets = []; body = fixes_query place.table.tree }) fixes_columns)
  unfolding ungrouped same_name is_rowid chosen alone first_found
  fixes_read = reads_one schema place fixes has fixes_columns _ refl refl between (by_column (codes "rowid") ∷ []) (given_between 1) by_rowid 99984 99983 _ _
      (between_tests schema place fixes has _ false (codes "account") 0 _ refl refl refl refl refl 99991 _ refl)
      (rowid_sorts schema place fixes has _ false (codes "rowid") refl refl refl 99984 _ refl) fixes_accepted

  pub select_fixes_is : IsQuery schema select_fixes (fixes_query place.table.tree) fixes_columns
  select_fixes_is = is_query schema select_fixes fixes_written parameters 111 (fixes_query place.table.tree) fixes_columns fixes_parsed fixes_read

abbrev pub postings_names : List Name
postings_names = codes "account" ∷ codes "id" ∷ codes "week" ∷ codes "through" ∷ codes "version" ∷ codes "due" ∷ codes "amount" ∷ codes "edition" ∷ []

abbrev postings_written : Written
postings_written = select_of (map bare postings_names) (source (codes "postings2") None ∷ []) between (by_column (codes "id") ∷ [])

postings_parsed : first select_postings ≡ Ok (parsed_as postings_written parameters 129)
unfolding first everything
postings_parsed = refl

module _ (schema : Schema) (place : Place) (has : HasTable schema place postings) where
  postings_accepted : accepts_program schema [] (postings_query place.table.tree) [] ≡ true
  postings_accepted = simp (classes_are schema place postings has)

  postings_read : read schema postings_written ≡ Ok (Select (record { lets = []; body = postings_query place.table.tree }) postings_names)
  unfolding ungrouped same_name chosen alone first_found
  postings_read = reads_one schema place postings has postings_names _ refl refl between (by_column (codes "id") ∷ []) (given_between 2) by_rowid 99985 99984 _ _
      (between_tests schema place postings has _ false (codes "account") 1 _ refl refl refl refl refl 99992 _ refl)
      (column_sorts schema place postings has _ false (codes "id") 0 _ refl refl refl 99985 _ refl) postings_accepted

  pub select_postings_is : IsQuery schema select_postings (postings_query place.table.tree) postings_names
  select_postings_is = is_query schema select_postings postings_written parameters 129 (postings_query place.table.tree) postings_names postings_parsed postings_read

-- ---- the accounts of all rows

abbrev pub account_name : List Name
account_name = codes "account" ∷ []

abbrev posted_accounts_written : Written
posted_accounts_written = select_of (map bare account_name) (source (codes "postings2") None ∷ []) None (by_column (codes "id") ∷ [])

posted_accounts_parsed : first select_posted_accounts ≡ Ok (parsed_as posted_accounts_written [] 41)
unfolding first everything
posted_accounts_parsed = refl

module _ (schema : Schema) (place : Place) (has : HasTable schema place postings) where
  posted_accounts_accepted : accepts_program schema [] (posted_accounts_query place.table.tree) [] ≡ true
  posted_accounts_accepted = simp (classes_are schema place postings has)

  posted_accounts_read : read schema posted_accounts_written ≡ Ok (Select (record { lets = []; body = posted_accounts_query place.table.tree }) account_name)
  unfolding ungrouped same_name tests sorts alone
  posted_accounts_read = reads_one schema place postings has account_name _ refl refl None (by_column (codes "id") ∷ []) [] by_rowid 99999 99998 _ _ refl
      (column_sorts schema place postings has _ false (codes "id") 0 _ refl refl refl 99999 _ refl) posted_accounts_accepted

  pub select_posted_accounts_is : IsQuery schema select_posted_accounts (posted_accounts_query place.table.tree) account_name
  select_posted_accounts_is = is_query schema select_posted_accounts posted_accounts_written [] 41 (posted_accounts_query place.table.tree) account_name posted_accounts_parsed posted_accounts_read

abbrev tapped_accounts_written : Written
tapped_accounts_written = select_of (map bare account_name) (source (codes "taps") None ∷ []) None (by_column (codes "rowid") ∷ [])

tapped_accounts_parsed : first select_tapped_accounts ≡ Ok (parsed_as tapped_accounts_written [] 39)
unfolding first everything
tapped_accounts_parsed = refl

module _ (schema : Schema) (place : Place) (has : HasTable schema place taps) where
  tapped_accounts_accepted : accepts_program schema [] (accounts_query place.table.tree) [] ≡ true
  tapped_accounts_accepted = simp (classes_are schema place taps has)

  tapped_accounts_read : read schema tapped_accounts_written ≡ Ok (Select (record { lets = []; body = accounts_query place.table.tree }) account_name)
  unfolding ungrouped same_name tests is_rowid
  tapped_accounts_read = reads_one schema place taps has account_name _ refl refl None (by_column (codes "rowid") ∷ []) [] by_rowid 99999 99998 _ _ refl
      (rowid_sorts schema place taps has _ false (codes "rowid") refl refl refl 99999 _ refl) tapped_accounts_accepted

  pub select_tapped_accounts_is : IsQuery schema select_tapped_accounts (accounts_query place.table.tree) account_name
  select_tapped_accounts_is = is_query schema select_tapped_accounts tapped_accounts_written [] 39 (accounts_query place.table.tree) account_name tapped_accounts_parsed tapped_accounts_read

abbrev fixed_accounts_written : Written
fixed_accounts_written = select_of (map bare account_name) (source (codes "fixes") None ∷ []) None (by_column (codes "rowid") ∷ [])

fixed_accounts_parsed : first select_fixed_accounts ≡ Ok (parsed_as fixed_accounts_written [] 40)
unfolding first everything
fixed_accounts_parsed = refl

module _ (schema : Schema) (place : Place) (has : HasTable schema place fixes) where
  fixed_accounts_accepted : accepts_program schema [] (accounts_query place.table.tree) [] ≡ true
  fixed_accounts_accepted = simp (classes_are schema place fixes has)

  fixed_accounts_read : read schema fixed_accounts_written ≡ Ok (Select (record { lets = []; body = accounts_query place.table.tree }) account_name)
  unfolding ungrouped same_name tests is_rowid
  fixed_accounts_read = reads_one schema place fixes has account_name _ refl refl None (by_column (codes "rowid") ∷ []) [] by_rowid 99999 99998 _ _ refl
      (rowid_sorts schema place fixes has _ false (codes "rowid") refl refl refl 99999 _ refl) fixed_accounts_accepted

  pub select_fixed_accounts_is : IsQuery schema select_fixed_accounts (accounts_query place.table.tree) account_name
  select_fixed_accounts_is = is_query schema select_fixed_accounts fixed_accounts_written [] 40 (accounts_query place.table.tree) account_name fixed_accounts_parsed fixed_accounts_read
