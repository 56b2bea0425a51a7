-- What a ledger has of accounts.
use Rattle.std.specs.Prelude.{ℕ, List, map, refl}
use Rattle.std.specs.Coded.{Coded, code_by, coded×, coded_ℕ, coded_list}
use Rattle.std.specs.FinMap as finite
use Rattle.std.specs.FinMap.{FinMap}
use Rattle.std.specs.Ordering.{nat_cmp}
use Rattle.pay_rules.specs.declared.posting.Posting.{Posting}
use Rattle.pay_rules.specs.contracts.posting.Posting as posting
use Rattle.pay_rows.specs.declared.row.TapRow.{TapRow}
use Rattle.pay_rows.specs.declared.row.FixRow.{FixRow}
use Rattle.pay_rows.specs.contracts.row.TapRow as tap_row
use Rattle.pay_rows.specs.contracts.row.FixRow as fix_row
use Rattle.pay_postings.specs.declared.archived.Archived.{Archived}

pub record ArchivedParts : Type 0 where
  -- the postings of an account, in order
  pub postings : List Posting
  -- the rows of its archived taps, in order
  pub taps : List TapRow
  -- and of its archived corrections
  pub fixes : List FixRow

-- they are stored as the tuple of them
abbrev pub archived_code : Coded ArchivedParts
archived_code =
    code_by (List Posting × (List TapRow × List FixRow)) (coded× (coded_list posting.the_row.coded) (coded× (coded_list tap_row.the_row.coded) (coded_list fix_row.the_row.coded)))
    (λ a. (a.postings, (a.taps, a.fixes))) (λ p. record { postings = p.0; taps = p.1.0; fixes = p.1.1 }) (λ _. refl)

-- the lists that an account's are
abbrev pub parts : Archived → ArchivedParts
parts archived = record { postings = archived.posted; taps = archived.taps.items; fixes = archived.fixes.items }

-- accounts by their numbers
abbrev pub AccountsParts : Type 0
AccountsParts = FinMap nat_cmp ArchivedParts

-- the code that a model of this type needs
abbrev pub accounts_code : Coded AccountsParts
accounts_code = finite.code coded_ℕ archived_code

-- the accounts of entries
unfoldable pub accounts_of : List (ℕ × Archived) → AccountsParts
accounts_of entries = finite.from_entries (map (λ e. (e.0, parts e.1)) entries)
