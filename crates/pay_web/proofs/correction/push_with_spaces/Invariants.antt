use Rattle.std.proofs.Common.{◌≡◌, ◌++◌, map, take}
use Rattle.pay_web.specs.Corrections.{space_for_plus}
use Rattle.pay_web.proofs.correction.push_with_spaces.Given as goal

abbrev pub invariant-loop-byte : goal.invariant-loop-byte
invariant-loop-byte l = l.line.items ≡ l.fn.line.items ++ map space_for_plus (take l.byte-index l.text)
