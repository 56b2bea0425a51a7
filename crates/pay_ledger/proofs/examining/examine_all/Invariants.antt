use Rattle.std.proofs.Common.{◌≡◌, ℤ, List, ◌++◌}
use Rattle.std.specs.Slice.Iter.{chunks_rest, chunks_size}
use Rattle.sqlite.specs.Held.{state}
use Rattle.pay_ledger.specs.Steps.{HasGoneOn}
use Rattle.pay_ledger.proofs.Passed.{HavePassed}
use Rattle.pay_ledger.proofs.examining.examine_all.Given as goal

abbrev pub invariant-loop-some : goal.invariant-loop-some
invariant-loop-some g l =
    (goal.iterator-loop-some g).can_next l.some-iterator
    × (goal.iterator-loop-some g).is_finite l.some-iterator
    × (chunks_size l.some-iterator ≡ 32)
    × HasGoneOn g.S.Store l.fn.tx.conn l.tx.conn
    × (done : List ℤ) × (done ++ chunks_rest l.some-iterator ≡ l.fn.numbers) × HavePassed (g.E.Examiner.Passes l.fn.examiner) (state g.S.Store l.fn.tx.conn.now) (state g.S.Store l.tx.conn.now) done
