-- What a database over new files holds: nothing.
use Rattle.std.proofs.Common.{◌≡◌, inl, inr, List, [], ◌∷◌, length, refl, sym, ap, subst, arith}
use Rattle.std.specs.List.{AllZip}
use Rattle.sqlite_trees.specs.Tree.{Trees}
use Rattle.sqlite_wal.specs.Recovery.{Image}
use Rattle.sqlite_schema.specs.declared.schema.Schema.{Schema}
use Rattle.sqlite_catalog.specs.Listing.{IsSound, AreListed, IsTableRow, IsIndexRow, IsViewRow}
use Rattle.sqlite.specs.State.{State, IsLive, Opens}
use Rattle.sqlite.specs.Steps.{IsEmpty}
use Rattle.sqlite.specs.Files.{AreFoundIn}
use Rattle.sqlite.specs.Files as files

-- files without a byte have no page, so no database is found in them
found_nothing : (image : Image) (db : Trees) → image.db ≡ [] → AreFoundIn image db → files.IsEmpty db
found_nothing image db none found = elim found [
  | inl it ↦ let long = ap length none in absurd (omega (arith, long, it.3.found.present))
  | inr it ↦ it.1
]

none_there : {X Y : Type 0} (P : X → Y → Type 0) (ys : List Y) → AllZip P [] ys → ys ≡ []
none_there P [] all = refl
none_there P (y ∷ ys) all = absurd all

no_objects : (schema : Schema) → AreListed [] schema → schema ≡ record { tables = []; indexes = []; views = [] }
no_objects schema listed = λ i. record {
  tables = none_there IsTableRow schema.tables listed.tables i;
  indexes = none_there (IsIndexRow schema.tables) schema.indexes listed.indexes i;
  views = none_there IsViewRow schema.views listed.views i;
}

-- where nothing is listed there are no tables
no_tables : (schema : Schema) (db : Trees) → IsSound schema db → files.IsEmpty db → schema ≡ record { tables = []; indexes = []; views = [] }
no_tables schema db sound empty = no_objects schema (subst (λ objects. AreListed objects schema) empty.1 sound.lists.listed)

-- a connection that finds what is in such files has no tables
pub opened_empty : (image : Image) (s : State) → image.db ≡ [] → Opens s → IsLive s → AreFoundIn image s.committed.trees → IsEmpty s
opened_empty image s none opens live found =
    let bare : files.IsEmpty s.now.trees = subst (λ db. files.IsEmpty db.trees) (sym opens.clean) (found_nothing image s.committed.trees none found) in
    (opens, live, no_tables s.now.schema s.now.trees (live opens.is_open).0 bare)
