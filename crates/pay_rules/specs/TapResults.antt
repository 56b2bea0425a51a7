-- What a tap gives an account: the prices or a refusal, and what it has accepted then.
use Rattle.std.specs.Prelude.{◌≡◌, true, false, if◌then◌else◌, Result, Ok, Err, IsOk}
use Rattle.pay_tables.specs.Words.{FareEditions}
use Rattle.pay_rules.specs.declared.tap.Tap.{Tap}
use Rattle.pay_rules.specs.declared.addition.Addition.{Addition}
use Rattle.pay_rules.specs.declared.addition.Addition.TheVariants.{Added, Repeat}
use Rattle.pay_rules.specs.declared.addition.AdditionFault.{AdditionFault}
use Rattle.pay_rules.specs.Taps.{judged}
use Rattle.pay_rules.specs.declared.priced.Priced.{Priced}
use Rattle.pay_rules.specs.declared.fares.TapFault.{TapFault}
use Rattle.pay_rules.specs.declared.fares.TapFault.TheVariants.{UnknownPlace, Memory}
use Rattle.pay_rules.specs.Accepted.{Accepted, with_tap}
use Rattle.pay_rules.specs.TapPlaces.{is_known}
use Rattle.pay_rules.specs.Prices.{prices}
use Rattle.pay_rules.specs.Faults.{tap_fault}

-- a further tap is priced among the others, and a repeat as things are
abbrev pub tap_added : FareEditions → Accepted → Tap → Result Addition AdditionFault → Result Priced TapFault
tap_added editions accepted tap (Ok Added) = Ok (prices editions (with_tap accepted tap) false tap.stamp.day)
tap_added editions accepted tap (Ok Repeat) = Ok (prices editions accepted true tap.stamp.day)
tap_added editions accepted tap (Err fault) = Err (tap_fault fault)

-- the result of a tap where memory suffices: its place is looked up first, then its number and the count of taps
abbrev pub tap_result : FareEditions → Accepted → Tap → Result Priced TapFault
tap_result editions accepted tap = if is_known editions tap.place tap.kind then tap_added editions accepted tap (judged accepted.taps tap) else Err UnknownPlace

-- a result is that one, or want of memory where that one is no refusal
abbrev pub IsTapResult : Result Priced TapFault → FareEditions → Accepted → Tap → Type 0
IsTapResult (Err Memory) editions accepted tap = IsOk (tap_result editions accepted tap)
IsTapResult result editions accepted tap = result ≡ tap_result editions accepted tap

-- what is accepted after a result: the tap too, unless it was refused or a repeat
abbrev pub after_tap : Result Priced TapFault → Accepted → Tap → Accepted
after_tap (Ok priced) accepted tap = if priced.again then accepted else with_tap accepted tap
after_tap (Err fault) accepted tap = accepted
