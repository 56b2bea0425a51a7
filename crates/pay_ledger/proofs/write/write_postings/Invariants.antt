use Rattle.std.proofs.Common.{◌++◌, IsTrue, take}
use Rattle.sqlite.specs.Held.{state}
use Rattle.sqlite.specs.State.{HasCleanDisk}
use Rattle.pay_ledger.specs.Steps.{HasGoneOn, Grows}
use Rattle.pay_ledger.proofs.write.write_postings.Given as goal

abbrev pub invariant-loop-posting : goal.invariant-loop-posting
invariant-loop-posting g l =
    HasGoneOn g.S.Store l.fn.tx.conn l.tx.conn
    × (HasCleanDisk (state g.S.Store l.tx.conn.now) → IsTrue (state g.S.Store l.fn.tx.conn.now).in_transaction
    → Grows (state g.S.Store l.fn.tx.conn.now) (state g.S.Store l.tx.conn.now) (λ ledger. record ledger { postings = ledger.postings ++ take l.posting-index l.postings }))
