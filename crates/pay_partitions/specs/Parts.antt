-- The part that is of some accounts: of postings, of what a close gets, of a ledger, and of a machine with what it replies.
use Rattle.std.specs.Prelude.{◌≡◌, ℕ, ◌==◌, Bool, List, [], ◌∷◌, filter, option_map, pos, refl}
use Rattle.std.specs.FinMap.{retain_keys}
use Rattle.std.specs.List.{AllByRecursion}
use Rattle.pay_rules.specs.QuoteParts.{QuoteParts}
use Rattle.pay_rules.specs.declared.posting.Posting.{Posting}
use Rattle.pay_rules.specs.SetsParts.{SetsParts}
use Rattle.pay_rules.specs.State.{State}
use Rattle.pay_rules.specs.declared.tap.Tap.{Tap}
use Rattle.pay_rules.specs.declared.fix.Fix.{Fix}
use Rattle.pay_postings.specs.Words.{LedgerParts}
use Rattle.pay_shard.specs.Words.{BatchParts}
use Rattle.pay_wire.specs.declared.refusal.Refusal.{Refusal}
use Rattle.pay_wire.specs.declared.reply.SpelledReply.{SpelledReply}
use Rattle.pay_wire.specs.declared.reply.SpelledReply.TheVariants as replies
use Rattle.pay_run.specs.Words.{Machine}

-- ---- postings and ledgers

-- the postings of some accounts, in order, and the quotes of these
abbrev pub postings_in : (ℕ → Bool) → List Posting → List Posting
postings_in own = filter (λ p. own p.quote.account)

abbrev pub quotes_in : (ℕ → Bool) → List QuoteParts → List QuoteParts
quotes_in own = filter (λ q. own q.account)

-- the taps and the corrections of some accounts, in order, and the sets of these
abbrev pub taps_in : (ℕ → Bool) → List Tap → List Tap
taps_in own = filter (λ t. own t.account)

abbrev pub fixes_in : (ℕ → Bool) → List Fix → List Fix
fixes_in own = filter (λ f. own f.account)

abbrev pub sets_in : (ℕ → Bool) → List SetsParts → List SetsParts
sets_in own = filter (λ s. own s.account)

-- what an account has accepted is its own
pub record IsOfAccount (s : SetsParts) : Type 0 where
  pub taps : AllByRecursion (λ t. t.account ≡ s.account) s.taps
  pub fixes : AllByRecursion (λ f. f.account ≡ s.account) s.fixes

-- the part of a ledger that is of some accounts
abbrev pub ledger_in : (ℕ → Bool) → LedgerParts → LedgerParts
ledger_in own ledger = record { postings = postings_in own ledger.postings; taps = taps_in own ledger.taps; fixes = fixes_in own ledger.fixes }

-- ---- closes and machines

-- of the quotes and the sets that a close gets, those of some accounts
abbrev pub batch_in : (ℕ → Bool) → BatchParts → BatchParts
batch_in own batch = record { quotes = quotes_in own batch.quotes; sets = sets_in own batch.sets }

-- what some accounts have accepted
abbrev pub accounts_in : (ℕ → Bool) → State → State
accounts_in own accounts = retain_keys accounts own

-- the machine of some accounts: the same zone and fares, what these have accepted, and their part of the ledger
abbrev pub machine_in : (ℕ → Bool) → Machine → Machine
machine_in own m = record { zone = m.zone; editions = m.editions; accounts = accounts_in own m.accounts; ledger = option_map (ledger_in own) m.ledger }

-- the reply to a close with the postings of some accounts alone; any other reply is as it is
abbrev pub reply_in : (ℕ → Bool) → SpelledReply → SpelledReply
reply_in own (replies.Closed closed) = replies.Closed (record { day = closed.day; postings = postings_in own closed.postings })
reply_in own reply = reply

-- ---- worked rows

posting_of : ℕ → Posting
posting_of account = record { quote = record { account = account; week = 19_730; through = 19_733; version = 1; due = 0; edition = 4; shares = [] }; amount = pos 0; share_amounts = [] }

-- of a close that posted for the accounts 1, 2 and 3, the part of account 2; a refusal is alike for any
part_of_2 : reply_in (λ account. account == 2) (replies.Closed (record { day = 19_733; postings = posting_of 1 ∷ posting_of 2 ∷ posting_of 3 ∷ [] })) ≡ replies.Closed (record { day = 19_733; postings = posting_of 2 ∷ [] })
unfolding posting_of
part_of_2 = refl

refused_alike : (own : ℕ → Bool) (why : Refusal) → reply_in own (replies.No why) ≡ replies.No why
refused_alike own why = refl
