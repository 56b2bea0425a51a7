use Rattle.std.proofs.Common.{◌≡◌, ◌+◌, ◌++◌, take, drop}
use Rattle.pay_book.specs.Boardings.{marks_of}
use Rattle.pay_book.proofs.boardings.mark.Given as goal

abbrev pub invariant-loop-index : goal.invariant-loop-index
invariant-loop-index l = l.pays ≡ take l.place l.fn.pays ++ marks_of (take l.index l.boardings) ++ drop (l.place + l.index) l.fn.pays
