-- What a ledger's database is to the machine.
use Rattle.std.specs.Prelude.{◌≡◌, Option, None, IsTrue, IsSomeAnd, ⊤}
use Rattle.sqlite.specs.Held.{Held, state}
use Rattle.sqlite.specs.State.{State}
use Rattle.sqlite.specs.Store.{Ghosts}
use Rattle.pay_postings.specs.Words.{LedgerParts}
use Rattle.pay_ledger.specs.Words.{IsLedger}

-- The machine has a ledger, and if the connection is open, its database is that. Of a database whose connection is shut nothing is said.
abbrev pub HasLedger : State → Option LedgerParts → Type 0
HasLedger s ledger = IsSomeAnd ledger (λ its. IsTrue s.is_open → IsLedger s.now its)

-- the same of what a connection holds
abbrev pub has_ledger_in : {S : Type 0} → Ghosts S → Held S → Option LedgerParts → Type 0
has_ledger_in store ledger = HasLedger (state store ledger)

-- where there is no database, the machine has no ledger
abbrev pub has_none : ⊤ → Option LedgerParts → Type 0
has_none _ ledger = ledger ≡ None
