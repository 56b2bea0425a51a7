-- That the tables of a ledger are there, as the queries of presence tell it.
use Rattle.std.proofs.Common.{◌≡◌, ℕ, true, List, [], ◌∷◌, map, codes, Some, None, Ok, refl, ap}
use Rattle.sqlite_tied.specs.Compute.{everything}
use Rattle.sqlite_ast.specs.declared.Select.{Select as Written}
use Rattle.sqlite.specs.Schema.{Schema}
use Rattle.sqlite.specs.Table.{Table}
use Rattle.sqlite_schema.specs.Names.{same_name}
use Rattle.sqlite_draft.specs.Query.{query_of}
use Rattle.sqlite_typing.specs.Types.{accepts_program}
use Rattle.sqlite_resolve.specs.declared.scope.Output.{Output}
use Rattle.sqlite_resolve.specs.Scope.{Name}
use Rattle.sqlite_resolve.specs.Body.{tests}
use Rattle.sqlite_resolve.specs.Order.{sorts}
use Rattle.sqlite_resolve.specs.Select.{ungrouped}
use Rattle.sqlite_resolve.specs.Compile.{first}
use Rattle.pay_records.specs.Tables.{meta, postings, postings_columns, first_postings, first_columns, shares, shares_columns, first_shares, taps, taps_columns, fixes, fixes_columns}
use Rattle.pay_records.specs.Places.{Place, HasTable, alike}
use Rattle.pay_records.specs.Kinds.{is_there, shared_in, first_in, second_in, presence_of}
use Rattle.pay_records.specs.declared.kind.Presence.TheVariants.{There}
use Rattle.pay_records.proofs.Selecting.{bare, source, select_of, parsed_as, understood_is, classes_are, outputs_in, draft, reads_one}
use Rattle.pay_records.proofs.Resolving.{is_enough}
use Rattle.pay_records.proofs.Queries.{meta_names}

abbrev pub all_of : List Name → Name → Written
all_of names table = select_of (map bare names) (source table None ∷ []) None []

module _ (schema : Schema) (place : Place) (wanted : Table) (has : HasTable schema place wanted) where
  pub told_there : (names : List Name) (outputs : List Output) (are : outputs_in (alike wanted place.table) names ≡ Some outputs) (enough : is_enough 100000 outputs ≡ true)
      → accepts_program schema [] (query_of (draft schema place wanted has names outputs are enough [] [])) [] ≡ true → (text : List ℕ) (size : ℕ) → first text ≡ Ok (parsed_as (all_of names wanted.name) [] size)
      → is_there schema text ≡ There
  unfolding tests sorts
  told_there names outputs are enough accepted text size parsed =
      let reads = reads_one schema place wanted has names outputs are enough None [] [] [] _ _ _ _ refl refl accepted in
      ap presence_of (understood_is schema text (all_of names wanted.name) [] size _ parsed reads).0

abbrev pub posting_names : List Name
posting_names = codes "id" ∷ postings_columns

abbrev pub first_names : List Name
first_names = codes "id" ∷ first_columns

pub meta_parsed : first (codes "SELECT name, version FROM meta") ≡ Ok (parsed_as (all_of meta_names (codes "meta")) [] 30)
unfolding first everything
meta_parsed = refl

pub first_postings_parsed : first (codes "SELECT id, account, week, through, version, due, amount FROM postings") ≡ Ok (parsed_as (all_of first_names (codes "postings")) [] 69)
unfolding first everything
first_postings_parsed = refl

pub first_shares_parsed : first (codes "SELECT posting, operator, amount FROM shares") ≡ Ok (parsed_as (all_of shares_columns (codes "shares")) [] 44)
unfolding first everything
first_shares_parsed = refl

pub postings_parsed : first (codes "SELECT id, account, week, through, version, due, amount, edition FROM postings2") ≡ Ok (parsed_as (all_of posting_names (codes "postings2")) [] 79)
unfolding first everything
postings_parsed = refl

pub shares_parsed : first (codes "SELECT posting, operator, amount FROM shares2") ≡ Ok (parsed_as (all_of shares_columns (codes "shares2")) [] 45)
unfolding first everything
shares_parsed = refl

pub taps_parsed : first (codes "SELECT account, reader, seq, utc, day, second, place, kind FROM taps") ≡ Ok (parsed_as (all_of taps_columns (codes "taps")) [] 68)
unfolding first everything
taps_parsed = refl

pub fixes_parsed : first (codes "SELECT account, staff, seq, what, a, b, c, d, e FROM fixes") ≡ Ok (parsed_as (all_of fixes_columns (codes "fixes")) [] 58)
unfolding first everything
fixes_parsed = refl

module _ (schema : Schema) (place : Place) where
  meta_there : HasTable schema place meta → is_there schema (codes "SELECT name, version FROM meta") ≡ There
  unfolding same_name ungrouped
  meta_there has = told_there schema place meta has meta_names _ refl refl (simp (ungrouped, classes_are schema place meta has)) _ 30 meta_parsed

  first_postings_there : HasTable schema place first_postings → is_there schema (codes "SELECT id, account, week, through, version, due, amount FROM postings") ≡ There
  unfolding same_name ungrouped
  first_postings_there has = told_there schema place first_postings has first_names _ refl refl (simp (ungrouped, classes_are schema place first_postings has)) _ 69 first_postings_parsed

  first_shares_there : HasTable schema place first_shares → is_there schema (codes "SELECT posting, operator, amount FROM shares") ≡ There
  unfolding same_name ungrouped
  first_shares_there has = told_there schema place first_shares has shares_columns _ refl refl (simp (ungrouped, classes_are schema place first_shares has)) _ 44 first_shares_parsed

  postings_there : HasTable schema place postings → is_there schema (codes "SELECT id, account, week, through, version, due, amount, edition FROM postings2") ≡ There
  unfolding same_name ungrouped
  postings_there has = told_there schema place postings has posting_names _ refl refl (simp (ungrouped, classes_are schema place postings has)) _ 79 postings_parsed

  shares_there : HasTable schema place shares → is_there schema (codes "SELECT posting, operator, amount FROM shares2") ≡ There
  unfolding same_name ungrouped
  shares_there has = told_there schema place shares has shares_columns _ refl refl (simp (ungrouped, classes_are schema place shares has)) _ 45 shares_parsed

  taps_there : HasTable schema place taps → is_there schema (codes "SELECT account, reader, seq, utc, day, second, place, kind FROM taps") ≡ There
  unfolding same_name ungrouped
  taps_there has = told_there schema place taps has taps_columns _ refl refl (simp (ungrouped, classes_are schema place taps has)) _ 68 taps_parsed

  fixes_there : HasTable schema place fixes → is_there schema (codes "SELECT account, staff, seq, what, a, b, c, d, e FROM fixes") ≡ There
  unfolding same_name ungrouped
  fixes_there has = told_there schema place fixes has fixes_columns _ refl refl (simp (ungrouped, classes_are schema place fixes has)) _ 58 fixes_parsed

pub shared_there : (schema : Schema) (m t f : Place) → HasTable schema m meta → HasTable schema t taps → HasTable schema f fixes → shared_in schema ≡ There
shared_there schema m t f has_meta has_taps has_fixes = simp (meta_there schema m has_meta, taps_there schema t has_taps, fixes_there schema f has_fixes)

pub first_there : (schema : Schema) (p s : Place) → HasTable schema p first_postings → HasTable schema s first_shares → first_in schema ≡ There
first_there schema p s has_postings has_shares = simp (first_postings_there schema p has_postings, first_shares_there schema s has_shares)

pub second_there : (schema : Schema) (p s : Place) → HasTable schema p postings → HasTable schema s shares → second_in schema ≡ There
second_there schema p s has_postings has_shares = simp (postings_there schema p has_postings, shares_there schema s has_shares)
