use Rattle.std.proofs.Common.{take}
use Rattle.std.specs.List.{AllByRecursion}
use Rattle.sqlite.specs.Held.{state}
use Rattle.pay_rules.specs.QuoteParts.{QuoteParts}
use Rattle.pay_postings.specs.Words.{IsThere}
use Rattle.pay_ledger.specs.Steps.{HasGoneOn, ReadsInto}
use Rattle.pay_ledger.proofs.read.read_quoted.Given as goal

abbrev pub invariant-loop-quote : goal.invariant-loop-quote
invariant-loop-quote g l =
    HasGoneOn g.S.Store l.fn.tx.conn l.tx.conn
    × ReadsInto (state g.S.Store l.fn.tx.conn.now) (state g.S.Store l.tx.conn.now) l.fn.accounts l.accounts
    × AllByRecursion (λ (x : QuoteParts). IsThere l.accounts x.account) (take l.quote-index l.quotes)
