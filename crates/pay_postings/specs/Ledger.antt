-- The ledger: all postings, and the archive of what they were priced by.
use Rattle.std.specs.Prelude.{List, Result, Ok}
use Rattle.pay_rules.specs.declared.tap.Tap.{Tap}
use Rattle.pay_rules.specs.declared.fix.Fix.{Fix}
use Rattle.pay_rules.specs.declared.posting.Posting.{Posting}
use Rattle.pay_rules.specs.QuoteParts.{QuoteParts}
use Rattle.pay_rules.specs.SetsParts.{SetsParts}
use Rattle.pay_rules.specs.declared.post_fault.PostFault.{PostFault}
use Rattle.pay_postings.specs.Faults.{◌>>=◌}
use Rattle.pay_postings.specs.Postings.{post_each}
use Rattle.pay_postings.specs.Archive.{archived_sets}

pub record LedgerParts : Type 0 where
  -- all postings, in order
  pub postings : List Posting
  -- the archived taps of all accounts, in order of their archiving
  pub taps : List Tap
  -- and the archived corrections
  pub fixes : List Fix

-- quotes posted one after another, and then the sets archived: the posting of each quote, and the ledger then
abbrev pub posted : LedgerParts → List QuoteParts → List SetsParts → Result (List Posting × LedgerParts) PostFault
posted ledger quotes sets = do
  given ← post_each ledger.postings quotes
  archive ← archived_sets (ledger.taps, ledger.fixes) sets
  Ok (given.0, record { postings = given.1; taps = archive.0; fixes = archive.1 })
