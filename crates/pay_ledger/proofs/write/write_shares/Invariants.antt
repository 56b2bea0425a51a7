use Rattle.std.proofs.Common.{◌++◌, take}
use Rattle.sqlite.specs.Held.{state}
use Rattle.sqlite.specs.State.{HasCleanDisk}
use Rattle.pay_ledger.specs.Steps.{HasGoneOn, RowsGrow}
use Rattle.pay_ledger.proofs.write.write_shares.Given as goal

abbrev pub invariant-loop-share : goal.invariant-loop-share
invariant-loop-share g l =
    HasGoneOn g.S.Store l.fn.tx.conn l.tx.conn
    × (HasCleanDisk (state g.S.Store l.tx.conn.now) → RowsGrow (state g.S.Store l.fn.tx.conn.now) (state g.S.Store l.tx.conn.now) (λ rows. record rows { shares = rows.shares ++ take l.share-index l.shares }))
