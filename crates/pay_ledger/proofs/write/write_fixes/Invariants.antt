use Rattle.std.proofs.Common.{◌++◌, IsTrue, take}
use Rattle.sqlite.specs.Held.{state}
use Rattle.sqlite.specs.State.{HasCleanDisk}
use Rattle.pay_ledger.specs.Steps.{HasGoneOn, Grows}
use Rattle.pay_ledger.proofs.write.write_fixes.Given as goal

abbrev pub invariant-loop-fix : goal.invariant-loop-fix
invariant-loop-fix g l =
    HasGoneOn g.S.Store l.fn.tx.conn l.tx.conn
    × (HasCleanDisk (state g.S.Store l.tx.conn.now) → IsTrue (state g.S.Store l.fn.tx.conn.now).in_transaction
    → Grows (state g.S.Store l.fn.tx.conn.now) (state g.S.Store l.tx.conn.now) (λ ledger. record ledger { fixes = ledger.fixes ++ take l.fix-index l.fixes }))
