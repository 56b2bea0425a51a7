use Rattle.std.proofs.Common.{◌≡◌, ◌++◌, map}
use Rattle.std.specs.List.{flat_map, range_with_len}
use Rattle.std.specs.String.{string_bytes}
use Rattle.pay_page.specs.Picture.{hour_mark}
use Rattle.pay_page.proofs.picture.push_hours.Given as goal

abbrev pub invariant-loop-hours : goal.invariant-loop-hours
invariant-loop-hours l = string_bytes l.text ≡ string_bytes l.fn.text ++ flat_map hour_mark (map (λ hours. hours) (range_with_len 0 l.hours))
