use Rattle.std.proofs.Common.{◌≡◌, ◌++◌, drop}
use Rattle.std.specs.String.{string_bytes}
use Rattle.std.specs.List.{flat_map}
use Rattle.pay_page.specs.Marks.{bar}
use Rattle.pay_page.proofs.marks.push_bars.Given as goal

abbrev pub invariant-loop-leg : goal.invariant-loop-leg
invariant-loop-leg l =
    string_bytes l.text ++ flat_map (bar l.day l.fare) (drop l.leg-index l.legs) ≡ string_bytes l.fn.text ++ flat_map (bar l.day l.fare) l.legs
