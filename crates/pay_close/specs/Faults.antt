-- Why a day is not closed, as a session's line says it.
use Rattle.std.specs.Prelude.{◌≡◌, ℕ, Bool, true, false, Option, Some, None, refl}
use Rattle.pay_rules.specs.declared.post_fault.PostFault.{PostFault}
use Rattle.pay_rules.specs.declared.post_fault.PostFault.TheVariants as post
use Rattle.pay_ledger.specs.declared.fault.LedgerFault.{LedgerFault}
use Rattle.pay_ledger.specs.declared.fault.LedgerFault.TheVariants as ledger
use Rattle.pay_ledger.specs.Words.{wants_memory}
use Rattle.pay_shard.specs.declared.desk.DeskFault.TheVariants as desk
use Rattle.pay_wire.specs.declared.refusal.Refusal.{Refusal}
use Rattle.pay_wire.specs.declared.refusal.Refusal.TheVariants as refusal
use Rattle.pay_close.specs.declared.fault.NotClosed.{NotClosed}
use Rattle.pay_close.specs.declared.fault.NotClosed.TheVariants.{Desk, Ledger}

-- the memory for what is gathered was refused
abbrev pub no_memory : NotClosed
no_memory = Ledger wants_memory

-- an account of which a later day of the week was posted, and that day
abbrev pub posted_later : NotClosed → Option (ℕ × ℕ)
posted_later (Ledger (ledger.Refused (post.StaleQuote account version through))) = Some (account, through)
posted_later _ = None

-- ---- as a session's line says it

abbrev pub refusal_of_posting : PostFault → Refusal
refusal_of_posting post.BadArchive = refusal.BadArchive
refusal_of_posting (post.StaleQuote account version through) = refusal.StaleQuote
refusal_of_posting post.QuoteDiffers = refusal.QuoteDiffers
refusal_of_posting post.ArchiveConflict = refusal.ArchiveConflict
refusal_of_posting post.Memory = refusal.Memory

abbrev pub refusal_of_ledger : LedgerFault → Refusal
refusal_of_ledger ledger.Store = refusal.Store
refusal_of_ledger (ledger.Refused why) = refusal_of_posting why

abbrev pub refusal_of_close : NotClosed → Refusal
refusal_of_close (Desk fault) = refusal.DeskFault
refusal_of_close (Ledger fault) = refusal_of_ledger fault

-- what does not come of the quotes and the ledger: a fault of the desk or of the store, want of memory, or a day that is not over
abbrev pub is_outside : Refusal → Bool
is_outside refusal.DeskFault = true
is_outside refusal.Store = true
is_outside refusal.Memory = true
is_outside refusal.NotOver = true
is_outside _ = false

-- the same of why a day is not closed
abbrev pub is_from_outside : NotClosed → Bool
is_from_outside fault = is_outside (refusal_of_close fault)

-- ---- worked rows

late_desk : refusal_of_close (Desk desk.Late) ≡ refusal.DeskFault
late_desk = refl

failed_store : refusal_of_close (Ledger ledger.Store) ≡ refusal.Store
failed_store = refl

refused_memory : refusal_of_close no_memory ≡ refusal.Memory
refused_memory = refl

stale_quote : refusal_of_close (Ledger (ledger.Refused (post.StaleQuote 7 3 19_733))) ≡ refusal.StaleQuote
stale_quote = refl

not_outside : is_outside refusal.StaleQuote ≡ false
not_outside = refl
