-- The refusals of a ledger, by number and name.
use Rattle.std.specs.Prelude.{ℕ, Bool, true, false, List, codes}
use Rattle.pay_rules.specs.declared.post_fault.PostFault.TheVariants.{BadArchive, Memory}
use Rattle.pay_records.specs.declared.fault.ReadFault.{ReadFault}
use Rattle.pay_records.specs.declared.fault.ReadFault.TheVariants as read
use Rattle.pay_ledger.specs.declared.fault.OpenFault.{OpenFault}
use Rattle.pay_ledger.specs.declared.fault.OpenFault.TheVariants as opened
use Rattle.pay_ledger.specs.declared.fault.LedgerFault.{LedgerFault}
use Rattle.pay_ledger.specs.declared.fault.LedgerFault.TheVariants.{Store, Refused}

abbrev pub open_fault_number : OpenFault → ℕ
open_fault_number opened.NotALedger = 40
open_fault_number opened.Version = 41
open_fault_number opened.Store = 43
open_fault_number opened.Memory = 90

abbrev pub open_fault_name : OpenFault → List ℕ
open_fault_name opened.NotALedger = codes "NotALedger"
open_fault_name opened.Version = codes "Version"
open_fault_name opened.Store = codes "Store"
open_fault_name opened.Memory = codes "Memory"

abbrev pub wants_memory : LedgerFault
wants_memory = Refused Memory

-- a refusal that a database gives, whatever was posted
abbrev pub is_of_store : LedgerFault → Bool
is_of_store Store = true
is_of_store (Refused Memory) = true
is_of_store (Refused _) = false

abbrev pub open_fault_of_read : ReadFault → OpenFault
open_fault_of_read read.BadArchive = opened.NotALedger
open_fault_of_read read.Store = opened.Store
open_fault_of_read read.Memory = opened.Memory

abbrev pub ledger_fault_of_read : ReadFault → LedgerFault
ledger_fault_of_read read.BadArchive = Refused BadArchive
ledger_fault_of_read read.Store = Store
ledger_fault_of_read read.Memory = Refused Memory
