-- Worked rows: an account is charged for a lone tap, and given back what its late exit makes cheaper.
use Rattle.std.specs.Prelude.{◌≡◌, ℕ, ℤ, pos, negsuc, [], ◌∷◌, replicate, Ok, Err, refl}
use Rattle.pay_rules.specs.declared.tap.Kind.TheVariants.{Bus}
use Rattle.pay_rules.specs.declared.tap.Tap.{Tap}
use Rattle.pay_rules.specs.declared.posting.Posting.{Posting}
use Rattle.pay_rules.specs.QuoteParts.{QuoteParts}
use Rattle.pay_rules.specs.declared.post_fault.PostFault.TheVariants.{ArchiveConflict}
use Rattle.pay_postings.specs.Ledger.{LedgerParts, posted}
use Rattle.pay_set_rows.specs.SetRows.{tap_row}
use Rattle.pay_postings.specs.Batches.{archived_of, with_batch}

-- a quote of an account by the edition from day 4 on, of which all falls to operator 1
quoted : ℕ → ℕ → ℕ → QuoteParts
quoted account version due = record { account = account; week = 19_730; through = 19_730; version = version; due = due; edition = 4; shares = due ∷ replicate 15 0 }

to_operator_1 : QuoteParts → ℤ → Posting
to_operator_1 quote amount = record { quote = quote; amount = amount; share_amounts = amount ∷ replicate 15 (pos 0) }

charge : ℕ → Posting
charge account = to_operator_1 (quoted account 1 860) (pos 860)

refund : Posting
refund = to_operator_1 (quoted 7 2 340) (negsuc 519)

tap_at : ℕ → ℕ → ℕ → Tap
tap_at account seq place = record { account = account; reader = 1; seq = seq; place = place; kind = Bus; stamp = record { utc = 1_704_697_200; day = 19_730; second = 25_200 } }

-- accounts 8 and 7 were charged, and have a tap each
before : LedgerParts
before = record { postings = charge 8 ∷ charge 7 ∷ []; taps = tap_at 8 1 50 ∷ tap_at 7 1 50 ∷ []; fixes = [] }

what_7_has : archived_of 7 before ≡ record { postings = charge 7 ∷ []; taps = tap_row (tap_at 7 1 50) ∷ []; fixes = [] }
unfolding before charge to_operator_1 quoted tap_at
what_7_has = refl

-- a quote that was posted is answered by its posting, and only the refund and the later tap are written
one_refund : posted before (quoted 7 1 860 ∷ quoted 7 2 340 ∷ []) (record { account = 7; taps = tap_at 7 1 50 ∷ tap_at 7 2 51 ∷ []; fixes = [] } ∷ [])
    ≡ Ok (charge 7 ∷ refund ∷ [], with_batch before (record { given = charge 7 ∷ refund ∷ []; postings = refund ∷ []; taps = tap_at 7 2 51 ∷ []; fixes = [] }))
unfolding before charge refund to_operator_1 quoted tap_at
one_refund = refl

-- a second set of the account sees what the first has added
second_set : posted before [] (record { account = 7; taps = tap_at 7 2 51 ∷ []; fixes = [] } ∷ record { account = 7; taps = tap_at 7 2 52 ∷ []; fixes = [] } ∷ []) ≡ Err ArchiveConflict
unfolding before charge to_operator_1 quoted tap_at
second_set = refl
