-- That none of the tables of a ledger is there, as the queries of presence tell it.
use Rattle.std.proofs.Common.{◌≡◌, ℕ, true, List, [], ◌∷◌, map, codes, None, Ok, Err, refl, ap, ap₂, ◌∙◌}
use Rattle.sqlite_tied.specs.Compute.{everything}
use Rattle.sqlite_ast.specs.declared.Core.{Core, out-Core}
use Rattle.sqlite_ast.specs.declared.Select.{Select as Written}
use Rattle.sqlite.specs.Schema.{Schema}
use Rattle.sqlite.specs.Effect.{Database}
use Rattle.sqlite.specs.Listing.{understood, listing_schema, if_select}
use Rattle.sqlite_resolve.specs.declared.error.CompileError.TheVariants.{NoSuchTable}
use Rattle.sqlite_resolve.specs.Lowering.{fresh, max_budget, take_slot}
use Rattle.sqlite_resolve.specs.Scope.{Name}
use Rattle.sqlite_resolve.specs.Terms.{number}
use Rattle.sqlite_resolve.specs.Body.{body, bounds, bound, table_in}
use Rattle.sqlite_resolve.specs.Select.{parts, named, paging, constant_or}
use Rattle.sqlite_resolve.specs.Program.{query, query_to, level, with, whole, alone, are_named, Building, Shown as Shown'}
use Rattle.sqlite_resolve.specs.Compile.{compiled, first, planned, timed, meaning, returning, command, read}
use Rattle.sqlite_resolve.proofs.ProgramLemmas.{single_named}
use Rattle.pay_records.specs.Free.{IsUnused, IsFree}
use Rattle.pay_records.specs.Tables.{shares_columns, taps_columns, fixes_columns}
use Rattle.pay_records.specs.Kinds.{is_there, shared_in, first_in, second_in, tables_in}
use Rattle.pay_records.specs.declared.kind.Presence.{Presence}
use Rattle.pay_records.specs.declared.kind.Presences.{Presences}
use Rattle.pay_records.specs.declared.kind.Presence.TheVariants.{Missing}
use Rattle.pay_records.proofs.Selecting.{bare, source, source_is, core_of, core_is, select_is, no_limit, parsed_as}
use Rattle.pay_records.proofs.Presences.{all_of, posting_names, first_names, meta_parsed, first_postings_parsed, first_shares_parsed, postings_parsed, shares_parsed, taps_parsed, fixes_parsed}
use Rattle.pay_records.proofs.Queries.{meta_names}

module _ (schema : Schema) (name : Name) (unused : IsUnused schema name) (names : List Name) where
  abbrev core : Core
  core = core_of (map bare names) (source name None ∷ []) None

  abbrev written : Written
  written = all_of names name

  no_bounds : bounds schema (source name None ∷ []) (fresh 1 max_budget) ≡ Err NoSuchTable
  unfolding bounds bound take_slot table_in
  no_bounds = simp (bounds, bound, take_slot, source_is, table_in, unused.no_table, unused.no_view)

  no_draft : named schema core [] (no_limit, number 0) ≡ Err NoSuchTable
  unfolding named parts body
  no_draft = simp (named, parts, body, core_is, no_bounds)

  all_named : are_named (out-Core core).from ≡ true
  all_named = simp (core_is, source_is)

  not_alone : (again : Schema → Written → Building Shown') → alone again schema core [] (no_limit, number 0) [] ≡ Err NoSuchTable
  unfolding alone
  not_alone again = simp (alone, single_named again schema core [] (no_limit, number 0) [] all_named, no_draft)

  paged : paging schema written ≡ Ok (no_limit, number 0)
  unfolding paging constant_or
  paged = simp (paging, select_is, constant_or)

  no_level : (again : Schema → Written → Building Shown') → level again schema written [] ≡ Err NoSuchTable
  unfolding level with whole
  no_level again = simp (level, select_is, with, whole, paged, not_alone again)

  no_query : query schema written ≡ Err NoSuchTable
  unfolding query query_to
  no_query = no_level (query_to 15)

  not_read : read schema written ≡ Err NoSuchTable
  unfolding read
  not_read = simp (read, no_query)

  module _ (text : List ℕ) (size : ℕ) (parsed : first text ≡ Ok (parsed_as written [] size)) where
    not_planned : planned schema (parsed_as written [] size) ≡ Err NoSuchTable
    unfolding planned timed meaning returning command
    not_planned = simp (planned, timed, meaning, returning, command, not_read)

    not_compiled : compiled schema text ≡ Err NoSuchTable
    unfolding compiled
    not_compiled = simp (compiled, parsed, not_planned)

    pub is_missing : if_select (compiled listing_schema text) ≡ Err NoSuchTable → is_there schema text ≡ Missing
    unfolding understood
    is_missing unlisted = simp (understood, not_compiled, unlisted)

meta_unlisted : if_select (compiled listing_schema (codes "SELECT name, version FROM meta")) ≡ Err NoSuchTable
unfolding listing_schema everything
meta_unlisted = refl

first_postings_unlisted : if_select (compiled listing_schema (codes "SELECT id, account, week, through, version, due, amount FROM postings")) ≡ Err NoSuchTable
unfolding listing_schema everything
first_postings_unlisted = refl

first_shares_unlisted : if_select (compiled listing_schema (codes "SELECT posting, operator, amount FROM shares")) ≡ Err NoSuchTable
unfolding listing_schema everything
first_shares_unlisted = refl

postings_unlisted : if_select (compiled listing_schema (codes "SELECT id, account, week, through, version, due, amount, edition FROM postings2")) ≡ Err NoSuchTable
unfolding listing_schema everything
postings_unlisted = refl

shares_unlisted : if_select (compiled listing_schema (codes "SELECT posting, operator, amount FROM shares2")) ≡ Err NoSuchTable
unfolding listing_schema everything
shares_unlisted = refl

taps_unlisted : if_select (compiled listing_schema (codes "SELECT account, reader, seq, utc, day, second, place, kind FROM taps")) ≡ Err NoSuchTable
unfolding listing_schema everything
taps_unlisted = refl

fixes_unlisted : if_select (compiled listing_schema (codes "SELECT account, staff, seq, what, a, b, c, d, e FROM fixes")) ≡ Err NoSuchTable
unfolding listing_schema everything
fixes_unlisted = refl

abbrev pub those : Presence → Presence → Presence → Presences
those shared first second = record { shared = shared; first = first; second = second }

pub second_missing : (schema : Schema) → IsUnused schema (codes "postings2") → IsUnused schema (codes "shares2") → second_in schema ≡ Missing
second_missing schema postings shares = simp (
  is_missing schema (codes "postings2") postings posting_names _ 79 postings_parsed postings_unlisted,
  is_missing schema (codes "shares2") shares shares_columns _ 45 shares_parsed shares_unlisted,
)

first_missing : (schema : Schema) → IsUnused schema (codes "postings") → IsUnused schema (codes "shares") → first_in schema ≡ Missing
first_missing schema postings shares = simp (
  is_missing schema (codes "postings") postings first_names _ 69 first_postings_parsed first_postings_unlisted,
  is_missing schema (codes "shares") shares shares_columns _ 44 first_shares_parsed first_shares_unlisted,
)

shared_missing : (schema : Schema) → IsUnused schema (codes "meta") → IsUnused schema (codes "taps") → IsUnused schema (codes "fixes") → shared_in schema ≡ Missing
shared_missing schema meta taps fixes = simp (
  is_missing schema (codes "meta") meta meta_names _ 30 meta_parsed meta_unlisted,
  is_missing schema (codes "taps") taps taps_columns _ 68 taps_parsed taps_unlisted,
  is_missing schema (codes "fixes") fixes fixes_columns _ 58 fixes_parsed fixes_unlisted,
)

pub tables_missing : (db : Database) → IsFree db → tables_in db.schema ≡ those Missing Missing Missing
tables_missing db free =
    let schema = db.schema in
    let u = free.ledger.unused in
    let shared = shared_missing schema u.0 u.1.1.1.0 u.1.1.1.1.0 in
    let first = first_missing schema free.no_postings free.no_shares in
    let second = second_missing schema u.1.0 u.1.1.0 in
    ap (λ p. those p (first_in schema) (second_in schema)) shared ∙ ap₂ (those Missing) first second
