-- Taps and corrections as they come to an account, one after another.
use Rattle.std.specs.Prelude.{◌≡◌, List, [], ◌∷◌, Ok, ⊤}
use Rattle.pay_tables.specs.Words.{FareEditions}
use Rattle.pay_rules.specs.declared.tap.Tap.{Tap}
use Rattle.pay_rules.specs.declared.fix.Fix.{Fix}
use Rattle.pay_rules.specs.declared.priced.Priced.{Priced}
use Rattle.pay_rules.specs.Accepted.{Accepted}
use Rattle.pay_rules.specs.TapResults.{tap_result, after_tap}
use Rattle.pay_rules.specs.FixResults.{fix_result, after_fix}

-- a tap or a correction
pub data Change : Type 0 where
  Tapped : Tap → Change
  Fixed : Fix → Change

-- what is accepted after it
abbrev pub after : FareEditions → Accepted → Change → Accepted
after editions accepted (Tapped tap) = after_tap (tap_result editions accepted tap) accepted tap
after editions accepted (Fixed fix) = after_fix (fix_result editions accepted fix) accepted fix

-- whether it is not refused
abbrev pub IsAccepted : FareEditions → Accepted → Change → Type 0
IsAccepted editions accepted (Tapped tap) = (priced : Priced) × (tap_result editions accepted tap ≡ Ok priced)
IsAccepted editions accepted (Fixed fix) = (priced : Priced) × (fix_result editions accepted fix ≡ Ok priced)

-- what is accepted after all of them, one after another
abbrev pub after_all : FareEditions → Accepted → List Change → Accepted
after_all editions accepted [] = accepted
after_all editions accepted (change ∷ later) = after_all editions (after editions accepted change) later

-- none of them is refused when its turn comes
abbrev pub AreAccepted : FareEditions → Accepted → List Change → Type 0
AreAccepted editions accepted [] = ⊤
AreAccepted editions accepted (change ∷ later) = IsAccepted editions accepted change × AreAccepted editions (after editions accepted change) later
