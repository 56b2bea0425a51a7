use Rattle.std.proofs.Common.{◌≡◌, ◌++◌, take}
use Rattle.std.specs.List.{flat_map}
use Rattle.pay_peers.specs.Refused.{escaped}
use Rattle.pay_peers.proofs.refused.push_line.Given as goal

-- the bytes so far are added
abbrev pub invariant-loop-byte : goal.invariant-loop-byte
invariant-loop-byte l = l.kept.items ≡ l.initial.kept.items ++ flat_map escaped (take l.byte-index l.line)
