-- No view stands in the place of a table where a ledger can be made.
use Rattle.std.proofs.Common.{◌≡◌, ℕ, Bool, false, ◌&&◌, ◌||◌, List, ◌∙◌, ap}
use Rattle.std.specs.Prelude.{is_some, is_none}
use Rattle.sqlite.specs.Effect.{Database}
use Rattle.sqlite.specs.Schema.{Schema}
use Rattle.sqlite_schema.specs.Names.{table_named}
use Rattle.pay_records.specs.Free.{IsUnused, IsFree}
use Rattle.pay_records.specs.Kinds.{is_view, has_view}

unused_is_no_view : (schema : Schema) (name : List ℕ) → IsUnused schema name → is_view schema name ≡ false
unused_is_no_view schema name u = ap (λ o. is_none (table_named schema name) && is_some o) u.no_view ∙ ap (λ o. is_none o && false) u.no_table

neither : (a b : Bool) → a ≡ false → b ≡ false → (a || b) ≡ false
neither a b first second = ap (λ c. c || b) first ∙ second

pub free_has_no_view : (db : Database) → IsFree db → has_view db.schema ≡ false
free_has_no_view db free =
    let u = free.ledger.unused in
    let no = unused_is_no_view db.schema in
    neither _ _ (neither _ _ (no _ u.0) (neither _ _ (no _ u.1.1.1.0) (no _ u.1.1.1.1.0)))
    (neither _ _ (neither _ _ (no _ free.no_postings) (no _ free.no_shares)) (neither _ _ (no _ u.1.0) (no _ u.1.1.0)))
