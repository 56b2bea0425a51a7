-- The service day that a correction names.
use Rattle.std.specs.Prelude.{ℕ, Option, Some, None, option_map}
use Rattle.std.specs.FinMap.{get}
use Rattle.pay_rules.specs.declared.tap.Tap.{Tap}
use Rattle.pay_rules.specs.Taps.{Taps}
use Rattle.pay_rules.specs.declared.fix.Fix.{Fix}
use Rattle.pay_rules.specs.declared.fix.What.{What}
use Rattle.pay_rules.specs.declared.fix.What.TheVariants.{Void, Fill, Credit, Drop}
use Rattle.pay_rules.specs.Fixes.{Fixes}

-- of a Void the day of the tap that it names, where that is accepted; of a Fill that of its own tap; of a Credit its own; of a Drop none
abbrev pub own_day : Taps → What → Option ℕ
own_day taps (Void reader seq) = option_map (λ (tap : Tap). tap.stamp.day) (get taps (reader, seq))
own_day taps (Fill stamp place kind) = Some stamp.day
own_day taps (Credit credit) = Some credit.day
own_day taps (Drop staff seq) = None

abbrev pub day_of_found : Taps → Option Fix → Option ℕ
day_of_found taps None = None
day_of_found taps (Some fix) = own_day taps fix.what

-- and a Drop names the day that the correction names which it withdraws, where that is accepted and no Drop
abbrev pub day_named : Taps → Fixes → What → Option ℕ
day_named taps fixes (Drop staff seq) = day_of_found taps (get fixes (staff, seq))
day_named taps fixes what = own_day taps what
