-- What `Ledger::open` makes of a database, in one word, and why it makes nothing.
use Rattle.std.specs.Prelude.{◌≡◌}
use Rattle.sqlite.specs.Store.{Ghosts}
use Rattle.sqlite.specs.Held.{Held, state}
use Rattle.sqlite.specs.State.{HasCleanDisk, Survives}
use Rattle.pay_records.specs.Words.{IsFree}
use Rattle.pay_ledger.specs.declared.fault.OpenFault.{OpenFault}
use Rattle.pay_ledger.specs.declared.fault.OpenFault.TheVariants.{Store}
use Rattle.pay_ledger.specs.Words.{IsWhy, IsOpened, BlankJustGrows, MayLeaveOpened, IsOnDisk}

module _ {S : Type 0} (store : Ghosts S) (was : Held S) where
  -- a ledger; while it is made, a crash leaves what was there or all of it
  pub record IsMadeOf (ledger : Held S) : Type 0 where
    pub opened : HasCleanDisk (state store ledger) → IsOpened (state store was) (state store ledger)
    pub grows : HasCleanDisk (state store ledger) → BlankJustGrows (state store was).now (state store ledger).now
    pub lasts : HasCleanDisk (state store ledger) → IsOnDisk (state store ledger)
    pub survives : Survives (state store was) (state store ledger) (MayLeaveOpened (state store was))

  -- no ledger, by what the database is; it stays as it was
  pub record IsNoneOf (fault : OpenFault) : Type 0 where
    pub left : Held S
    pub why : HasCleanDisk (state store left) → IsWhy fault (state store was).now
    pub blank : HasCleanDisk (state store left) → IsFree (state store was).now → fault ≡ Store
    pub survives : Survives (state store was) (state store left) (MayLeaveOpened (state store was))
