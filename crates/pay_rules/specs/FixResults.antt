-- What a correction gives an account: the prices or a refusal, and what it has accepted then.
use Rattle.std.specs.Prelude.{◌≡◌, ℕ, Bool, true, false, if◌then◌else◌, Option, Some, None, Result, Ok, Err, IsOk}
use Rattle.pay_tables.specs.Words.{FareEditions}
use Rattle.pay_rules.specs.declared.fix.Fix.{Fix}
use Rattle.pay_rules.specs.declared.fix.What.{What}
use Rattle.pay_rules.specs.declared.addition.Addition.{Addition}
use Rattle.pay_rules.specs.declared.addition.Addition.TheVariants.{Added, Repeat}
use Rattle.pay_rules.specs.declared.addition.AdditionFault.{AdditionFault}
use Rattle.pay_rules.specs.Fixes.{judged}
use Rattle.pay_rules.specs.NamedDay.{day_named}
use Rattle.pay_rules.specs.declared.priced.Priced.{Priced}
use Rattle.pay_rules.specs.declared.fares.FixFault.{FixFault}
use Rattle.pay_rules.specs.declared.fares.FixFault.TheVariants.{UnknownPlace, Memory}
use Rattle.pay_rules.specs.Accepted.{Accepted, with_fix}
use Rattle.pay_rules.specs.TapPlaces.{is_known_fix}
use Rattle.pay_rules.specs.Prices.{prices}
use Rattle.pay_rules.specs.Faults.{fix_fault}

-- the prices of a day, and where none is named no day and no prices
abbrev pub prices_on : FareEditions → Accepted → Bool → Option ℕ → Priced
prices_on editions accepted again (Some day) = prices editions accepted again day
prices_on editions accepted again None = record { again = again; day = 0; day_price = 0; week_price = 0 }

-- the prices of the day that a correction names, by what is accepted
abbrev pub prices_named : FareEditions → Accepted → Bool → What → Priced
prices_named editions accepted again what = prices_on editions accepted again (day_named accepted.taps accepted.fixes what)

-- with a further correction all is priced by it, and with a repeat as things are
abbrev pub fix_added : FareEditions → Accepted → Fix → Result Addition AdditionFault → Result Priced FixFault
fix_added editions accepted fix (Ok Added) = Ok (prices_named editions (with_fix accepted fix) false fix.what)
fix_added editions accepted fix (Ok Repeat) = Ok (prices_named editions accepted true fix.what)
fix_added editions accepted fix (Err fault) = Err (fix_fault fault)

-- the result of a correction where memory suffices: the place of a Fill is looked up first, then the number and the count of corrections
abbrev pub fix_result : FareEditions → Accepted → Fix → Result Priced FixFault
fix_result editions accepted fix = if is_known_fix editions fix.what then fix_added editions accepted fix (judged accepted.fixes fix) else Err UnknownPlace

-- a result is that one, or want of memory where that one is no refusal
abbrev pub IsFixResult : Result Priced FixFault → FareEditions → Accepted → Fix → Type 0
IsFixResult (Err Memory) editions accepted fix = IsOk (fix_result editions accepted fix)
IsFixResult result editions accepted fix = result ≡ fix_result editions accepted fix

-- what is accepted after a result: the correction too, unless it was refused or a repeat
abbrev pub after_fix : Result Priced FixFault → Accepted → Fix → Accepted
after_fix (Ok priced) accepted fix = if priced.again then accepted else with_fix accepted fix
after_fix (Err fault) accepted fix = accepted
