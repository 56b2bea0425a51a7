-- From a text that is read to what is understood, under any schema.
use Rattle.std.proofs.Common.{◌≡◌, ℕ, List, false, if◌then◌else◌, Option, Ok, ap, ◌∙◌}
use Rattle.sqlite_syntax.specs.declared.statement.Parsed.{Parsed}
use Rattle.sqlite_schema.specs.declared.command.Command.{Command}
use Rattle.sqlite_schema.specs.declared.command.Returning.{Returning}
use Rattle.sqlite_resolve.specs.declared.compiled.Compiled.{Compiled}
use Rattle.sqlite_resolve.specs.Scope.{Name}
use Rattle.sqlite_resolve.specs.Lowering.{and_then}
use Rattle.sqlite_resolve.specs.Compile.{first, planned, with_command, compiled}
use Rattle.sqlite.specs.Schema.{Schema}
use Rattle.sqlite.specs.Listing.{understood, reads_listing, listing_schema, misses_table, if_select}

pub compiled_as : (schema : Schema) (text : List ℕ) (p : Parsed) (plan : List Name × (Command × Option Returning)) → first text ≡ Ok p → planned schema p ≡ Ok plan → compiled schema text ≡ Ok (with_command p plan)
unfolding compiled
compiled_as schema text p plan read is = ap (λ r. and_then r (λ p. and_then (planned schema p) (λ plan. Ok (with_command p plan)))) read ∙ ap (λ r. and_then r (λ plan. Ok (with_command p plan))) is

pub understood_as : (schema : Schema) (text : List ℕ) (c : Compiled) → compiled schema text ≡ Ok c → (understood schema text ≡ Ok c) × (reads_listing schema text ≡ false)
unfolding understood
understood_as schema text c is = (ap (λ r. if misses_table r then if_select (compiled listing_schema text) else r) is, ap misses_table is)
