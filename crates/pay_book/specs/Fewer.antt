-- The taps without one that enters or leaves, and with it.
use Rattle.std.specs.Prelude.{ℕ, Bool, if◌then◌else◌, List}
use Rattle.std.specs.List.{remove}
use Rattle.pay_rules.specs.declared.tap.Touch.{Touch}
use Rattle.pay_rules.specs.Order.{put_in}

-- the taps without the one that is there at a place, or without one that is not among them
abbrev pub fewer_of : Bool → ℕ → List Touch → List Touch
fewer_of is_there place taps = if is_there then remove taps place else taps

-- the taps with one that is there, or with one put in that is not
abbrev pub more_of : Bool → Touch → List Touch → List Touch
more_of is_there touch taps = if is_there then taps else put_in touch taps
