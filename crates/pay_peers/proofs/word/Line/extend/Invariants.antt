use Rattle.std.proofs.Common.{◌≡◌, ◌++◌, take}
use Rattle.pay_peers.proofs.word.Line.extend.Given as goal

-- what is kept of the line with the bytes so far
abbrev pub invariant-loop-byte : goal.invariant-loop-byte
invariant-loop-byte l = l.self ≡ take 129 (l.initial.self ++ take l.byte-index l.byte-items)
