-- A tap that still waits for its partner.
use Rattle.std.proofs.Common.{List, ◌∷◌, Option, Some, None}
use Rattle.pay_rules.specs.declared.tap.Touch.{Touch}

-- the taps from one on, after the tap before it where that still waits
abbrev pub with_waiting : Option Touch → List Touch → List Touch
with_waiting None taps = taps
with_waiting (Some waiting) taps = waiting ∷ taps
