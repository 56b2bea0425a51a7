use Rattle.std.proofs.Common.{◌++◌, IsTrue, take}
use Rattle.sqlite.specs.Held.{state}
use Rattle.sqlite.specs.State.{HasCleanDisk}
use Rattle.pay_ledger.specs.Steps.{HasGoneOn, Grows}
use Rattle.pay_ledger.proofs.write.write_taps.Given as goal

abbrev pub invariant-loop-tap : goal.invariant-loop-tap
invariant-loop-tap g l =
    HasGoneOn g.S.Store l.fn.tx.conn l.tx.conn
    × (HasCleanDisk (state g.S.Store l.tx.conn.now) → IsTrue (state g.S.Store l.fn.tx.conn.now).in_transaction
    → Grows (state g.S.Store l.fn.tx.conn.now) (state g.S.Store l.tx.conn.now) (λ ledger. record ledger { taps = ledger.taps ++ take l.tap-index l.taps }))
