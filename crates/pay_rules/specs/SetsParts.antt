-- All that an account has accepted, as lists.
use Rattle.std.specs.Prelude.{◌≡◌, ℕ, List, refl}
use Rattle.std.specs.Coded.{Coded, code_by, coded×, coded_ℕ, coded_list}
use Rattle.std.specs.FinMap.{values}
use Rattle.std.specs.List.{AllByRecursion}
use Rattle.pay_rules.specs.Numbers.{ByNumber, IsNumbered}
use Rattle.pay_rules.specs.contracts.tap.Tap as tap
use Rattle.pay_rules.specs.declared.limits.TheConstants.{MOST_TAPS, MOST_FIXES}
use Rattle.pay_rules.specs.declared.tap.Tap.{Tap}
use Rattle.pay_rules.specs.Taps.{number as tap_number}
use Rattle.pay_rules.specs.contracts.fix.Fix as fix
use Rattle.pay_rules.specs.declared.fix.Fix.{Fix}
use Rattle.pay_rules.specs.Fixes.{number as fix_number}
use Rattle.pay_rules.specs.Accepted.{Accepted}

pub record SetsParts : Type 0 where
  -- whose they are
  pub account : ℕ
  -- its accepted taps in ascending order of their numbers
  pub taps : List Tap
  -- and its accepted corrections
  pub fixes : List Fix

-- they are stored as the tuple of them
abbrev pub sets_code : Coded SetsParts
sets_code =
    code_by (ℕ × (List Tap × List Fix)) (coded× coded_ℕ (coded× (coded_list tap.the_row.coded) (coded_list fix.the_row.coded)))
    (λ s. (s.account, (s.taps, s.fixes))) (λ p. record { account = p.0; taps = p.1.0; fixes = p.1.1 }) (λ _. refl)

-- a list is all of a set: each at a number of its own, in ascending order of these
pub record AreNumbered {X : Type 0} (number : X → ℕ × ℕ) (most : ℕ) (list : List X) : Type 0 where
  pub set : ByNumber X
  pub numbered : IsNumbered number most set
  pub all : values set ≡ list

-- each tap is of the account
abbrev pub AreTapsOf : ℕ → List Tap → Type 0
AreTapsOf account = AllByRecursion (λ (t : Tap). t.account ≡ account)

-- and each correction
abbrev pub AreFixesOf : ℕ → List Fix → Type 0
AreFixesOf account = AllByRecursion (λ (f : Fix). f.account ≡ account)

-- all that was accepted is of the account
pub record AreOwn (account : ℕ) (accepted : Accepted) : Type 0 where
  pub own_taps : AreTapsOf account (values accepted.taps)
  pub own_fixes : AreFixesOf account (values accepted.fixes)

-- all are of the account, each number stands once, and in ascending order
pub record AreSets (s : SetsParts) : Type 0 where
  pub own_taps : AreTapsOf s.account s.taps
  pub own_fixes : AreFixesOf s.account s.fixes
  pub numbered_taps : AreNumbered tap_number MOST_TAPS s.taps
  pub numbered_fixes : AreNumbered fix_number MOST_FIXES s.fixes

-- all that an account has accepted
abbrev pub sets : ℕ → Accepted → SetsParts
sets account accepted = record { account = account; taps = values accepted.taps; fixes = values accepted.fixes }
