-- The last posting, as it is noted beside a journal.
use Rattle.std.specs.Prelude.{◌≡◌, ◌⊎◌, ℕ, ℤ, pos, Bool, List, ◌++◌, Option, Some, None, codes, decimal, false, refl}
use Rattle.std.specs.Fmt.{digits, signed_decimal}
use Rattle.pay_ledger.specs.declared.last.LastPosting.{LastPosting}
use Rattle.pay_jobs.specs.declared.fault.Fault.{Fault}
use Rattle.pay_jobs.specs.declared.fault.Fault.TheVariants.{File}
use Rattle.pay_jobs.specs.declared.fault.FileFault.TheVariants.{LacksPosting}
use Rattle.pay_jobs.specs.Faults.{IsWantOfLedger, IsWantOfMemory}

-- the number of a posting, if it is known, at the end of its line
abbrev pub number_text : Option ℤ → List ℕ
number_text None = codes "\n"
number_text (Some id) = codes " " ++ (signed_decimal id ++ codes "\n")

-- the account, the week, the day through which it is, the version, and the number
abbrev pub posting_text : LastPosting → List ℕ
posting_text p = decimal p.account ++ (codes " " ++ (decimal p.week ++ (codes " " ++ (decimal p.through ++ (codes " " ++ (decimal p.version ++ number_text p.id))))))

-- why a ledger is not taken beside a posting that is noted: it has no such posting, or it was not read
abbrev pub IsLacking : LastPosting → Fault → Bool → Type 0
IsLacking noted fault has = (IsWantOfLedger fault ⊎ IsWantOfMemory fault) ⊎ ((fault ≡ File (LacksPosting noted.account noted.week noted.through)) × (has ≡ false))

-- ---- worked rows: account 7 was posted through Sunday of a week, for three taps, as number 41

one_line : posting_text (record { account = 7; week = 19_730; through = 19_736; version = 3; id = Some (pos 41) }) ≡ codes "7 19730 19736 3 41\n"
unfolding digits
one_line = refl

-- an earlier version did not note the number
without_number : posting_text (record { account = 7; week = 19_730; through = 19_736; version = 3; id = None }) ≡ codes "7 19730 19736 3\n"
unfolding digits
without_number = refl
