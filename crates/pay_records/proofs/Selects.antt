-- What a SELECT over one table shows.
use Rattle.std.proofs.Common.{◌≡◌, ℕ, pos, negsuc, List, [], ◌∷◌, map, false, None, ap, subst, ◌∙◌}
use Rattle.std.specs.Prelude.{IsPermutation, IsSorted}
use Rattle.sqlite_value.specs.declared.keys.Key.{Key}
use Rattle.sqlite.specs.Command.TheVariants.{Select}
use Rattle.sqlite.specs.Schema.{Schema}
use Rattle.sqlite.specs.Order.{Row}
use Rattle.sqlite.specs.Tree.{Trees}
use Rattle.sqlite.specs.Term.{Term}
use Rattle.sqlite_sql.specs.Query.{Join}
use Rattle.sqlite.specs.Query.{Query, Output, IsAnswer, output, output_cmp, matches}
use Rattle.sqlite.specs.Program.{overlay}
use Rattle.sqlite.specs.declared.types.Value.TheVariants.{Null, Int}
use Rattle.sqlite.specs.Term.{lit}
use Rattle.sqlite.specs.Listing.{understood, reads_listing}
use Rattle.sqlite.specs.State.{State, Shown}
use Rattle.sqlite.proofs.Callers.{IsPlain, command_of, reads_as}

module _ (text : List ℕ) (schema : Schema) (q : Query) (names : List (List ℕ)) (command : command_of (understood schema text) ≡ Select (record { lets = []; body = q }) names) (plain : IsPlain (understood schema text))
    (unlisted : reads_listing schema text ≡ false) where
  pub answers : (params : Row) (old new : State) (rows : List Row) → old.now.schema ≡ schema → Shown text params old new rows → IsAnswer q (overlay old.now.trees []) params rows
  answers params old new rows has h = (reads_as text params old new schema has (Select (record { lets = []; body = q }) names) command plain unlisted rows h).answer Null

-- all rows of a table, or of tables side by side, that pass a test, in order
abbrev pub simple : Join → List Term → List Term → List (Term × Key) → Query
simple from test project order = record {
  from = from;
  filter = test;
  group = None;
  project = project;
  distinct = false;
  collations = [];
  order = order;
  limit = lit (Int (negsuc 0));
  offset = lit (Int (pos 0));
}

-- the rows are those of an order of what matches
pub record AreOutputs (q : Query) (all : List Output) (rows : List Row) : Type 0 where
  pub ordered : List Output
  pub same : IsPermutation all ordered
  pub sorted : IsSorted (output_cmp q) ordered
  pub shown : rows ≡ map (λ o. o.1) ordered

pub simply : (from : Join) (test project : List Term) (order : List (Term × Key)) (db : Trees) (params : Row) (rows : List Row) → IsAnswer (simple from test project order) db params rows
    → AreOutputs (simple from test project order) (map (output (simple from test project order)) (matches db test from (params ∷ []))) rows
simply from test project order db params rows a =
    let q = simple from test project order in
    let kept : a.kept ≡ map (output q) (matches db test from (params ∷ [])) = a.distinct ∙ ap (map (output q)) a.grouped in
    record { ordered = a.ordered; same = subst (λ k. IsPermutation k a.ordered) kept a.same; sorted = a.sorted; shown = a.shown }
