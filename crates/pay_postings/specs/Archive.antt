-- The archive of all accounts' accepted taps and corrections.
use Rattle.std.specs.Prelude.{◌==◌, ◌&&◌, Bool, if◌then◌else◌, List, [], ◌∷◌, ◌++◌, find, Option, Some, None, Result, Ok, Err}
use Rattle.pay_rules.specs.declared.tap.Tap.{Tap}
use Rattle.pay_rules.specs.Taps.{same_tap}
use Rattle.pay_rules.specs.declared.fix.Fix.{Fix}
use Rattle.pay_rules.specs.Fixes.{same_fix}
use Rattle.pay_rules.specs.SetsParts.{SetsParts}
use Rattle.pay_rules.specs.declared.post_fault.PostFault.{PostFault}
use Rattle.pay_rules.specs.declared.post_fault.PostFault.TheVariants.{ArchiveConflict}
use Rattle.pay_postings.specs.Faults.{◌>>=◌}

-- whether two taps have one number of one account
abbrev pub is_numbered_as : Tap → Tap → Bool
is_numbered_as tap other = other.account == tap.account && other.reader == tap.reader && other.seq == tap.seq

-- whether two corrections have
abbrev pub is_fix_numbered_as : Fix → Fix → Bool
is_fix_numbered_as fix other = other.account == fix.account && other.staff == fix.staff && other.seq == fix.seq

-- what stands at a number stays where it has the same content, and other content is refused; what is new stands at the end
abbrev pub archived_beside : {X : Type 0} → (X → X → Bool) → List X → X → Option X → Result (List X) PostFault
archived_beside same list x None = Ok (list ++ x ∷ [])
archived_beside same list x (Some there) = if same there x then Ok list else Err ArchiveConflict

-- an archive of taps with one more
abbrev pub archived_tap : List Tap → Tap → Result (List Tap) PostFault
archived_tap list tap = archived_beside same_tap list tap (find (is_numbered_as tap) list)

-- an archive of corrections with one more
abbrev pub archived_fix : List Fix → Fix → Result (List Fix) PostFault
archived_fix list fix = archived_beside same_fix list fix (find (is_fix_numbered_as fix) list)

-- an archive with some more, one after another
abbrev pub archived_each : {X : Type 0} → (List X → X → Result (List X) PostFault) → List X → List X → Result (List X) PostFault
archived_each with_one list [] = Ok list
archived_each with_one list (x ∷ more) = do
  now ← with_one list x
  archived_each with_one now more

-- an archive with all that an account has accepted: its taps, then its corrections
abbrev pub archived_set : List Tap × List Fix → SetsParts → Result (List Tap × List Fix) PostFault
archived_set archive set = do
  taps ← archived_each archived_tap archive.0 set.taps
  fixes ← archived_each archived_fix archive.1 set.fixes
  Ok (taps, fixes)

-- and with all that several accounts have, one after another
abbrev pub archived_sets : List Tap × List Fix → List SetsParts → Result (List Tap × List Fix) PostFault
archived_sets archive [] = Ok archive
archived_sets archive (set ∷ sets) = do
  now ← archived_set archive set
  archived_sets now sets
