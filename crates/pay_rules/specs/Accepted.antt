-- What an account has accepted.
use Rattle.std.specs.Prelude.{ℕ, ◌+◌, List, refl}
use Rattle.std.specs.FinMap as map
use Rattle.std.specs.Coded.{Coded, code_by, coded×, coded_ℕ}
use Rattle.pay_rules.specs.contracts.tap.Tap as tap
use Rattle.pay_rules.specs.declared.tap.Tap.{Tap}
use Rattle.pay_rules.specs.declared.tap.Touch.{Touch}
use Rattle.pay_rules.specs.Taps.{Taps, number as tap_number}
use Rattle.pay_rules.specs.contracts.fix.Fix as fix
use Rattle.pay_rules.specs.declared.fix.Fix.{Fix}
use Rattle.pay_rules.specs.Fixes.{Fixes, number as fix_number}
use Rattle.pay_rules.specs.Effective.{effective}

-- its accepted taps and its accepted corrections by their numbers, and nothing else
pub record Accepted : Type 0 where
  pub taps : Taps
  pub fixes : Fixes

-- they are stored as the pair of the two
abbrev pub accepted_code : Coded Accepted
accepted_code =
    code_by (Taps × Fixes) (coded× (map.code (coded× coded_ℕ coded_ℕ) tap.the_row.coded) (map.code (coded× coded_ℕ coded_ℕ) fix.the_row.coded)) (λ a. (a.taps, a.fixes)) (λ p. record { taps = p.0; fixes = p.1 }) (λ _. refl)

-- nothing was accepted yet
abbrev pub nothing : Accepted
nothing = record { taps = map.empty; fixes = map.empty }

abbrev pub with_tap : Accepted → Tap → Accepted
with_tap accepted tap = record { taps = map.insert accepted.taps (tap_number tap) tap; fixes = accepted.fixes }

abbrev pub with_fix : Accepted → Fix → Accepted
with_fix accepted fix = record { taps = accepted.taps; fixes = map.insert accepted.fixes (fix_number fix) fix }

-- the effective taps in order
abbrev pub touches : Accepted → List Touch
touches accepted = effective accepted.taps accepted.fixes

-- how many taps and corrections there are
abbrev pub version : Accepted → ℕ
version accepted = map.len accepted.taps + map.len accepted.fixes
