-- What the machine keeps after a command: of each account what it has accepted.
use Rattle.std.specs.Prelude.{ℕ, Bool, false, not, Result, Ok, Err, if◌then◌else◌}
use Rattle.std.specs.FinMap as map
use Rattle.pay_rules.specs.declared.tap.Tap.{Tap}
use Rattle.pay_rules.specs.declared.fix.Fix.{Fix}
use Rattle.pay_rules.specs.Accepted.{Accepted}
use Rattle.pay_rules.specs.State.{State, accepted_of}
use Rattle.pay_rules.specs.TapResults.{after_tap}
use Rattle.pay_rules.specs.FixResults.{after_fix}
use Rattle.pay_rules.specs.declared.priced.Priced.{Priced}
use Rattle.pay_rules.specs.declared.fares.TapFault.{TapFault}
use Rattle.pay_rules.specs.declared.fares.FixFault.{FixFault}

-- whether something was accepted that was not there before
abbrev pub is_new : {E : Type 0} → Result Priced E → Bool
is_new (Ok priced) = not priced.again
is_new (Err fault) = false

-- the accounts with what one of them has accepted now, if that is something new
abbrev pub kept : Bool → State → ℕ → Accepted → State
kept new state account accepted = if new then map.insert state account accepted else state

-- the accounts after the result of a tap: an accepted tap is kept, a repeat and a refusal change nothing
abbrev pub after_tap_of : Result Priced TapFault → State → Tap → State
after_tap_of result state tap = kept (is_new result) state tap.account (after_tap result (accepted_of state tap.account) tap)

-- and after the result of a correction
abbrev pub after_fix_of : Result Priced FixFault → State → Fix → State
after_fix_of result state fix = kept (is_new result) state fix.account (after_fix result (accepted_of state fix.account) fix)
