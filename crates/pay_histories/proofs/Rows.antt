-- Worked rows: closes of small books, which refusals say that a close comes too late, and what is restored.
use Rattle.std.proofs.Common.{◌≡◌, ℕ, true, cond, ◌&&◌, List, [], ◌∷◌, filter, Some, Ok, refl, sym, ap, ◌∙◌, arith}
use Rattle.std.specs.Cmp.{nat_cmp_total}
use Rattle.std.specs.FinMap.{empty, entries, insert, put, entries-insert, len-empty, len-entries}
use Rattle.std.specs.Ordering.{nat_cmp}
use Rattle.pay_tables.specs.Words.{FareEditions}
use Rattle.pay_rules.specs.declared.tap.Kind.TheVariants.{Bus}
use Rattle.pay_rules.specs.declared.tap.Tap.{Tap}
use Rattle.pay_rules.specs.Accepted.{Accepted}
use Rattle.pay_rules.specs.Quotes.{quote}
use Rattle.pay_rules.specs.SetsParts.{sets}
use Rattle.pay_postings.specs.Agreement.{AgreesWith}
use Rattle.pay_postings.specs.Ledger.{posted}
use Rattle.pay_postings.specs.Paid.{ArePaid}
use Rattle.pay_rules.specs.declared.post_fault.PostFault.TheVariants.{StaleQuote}
use Rattle.pay_shard.specs.BatchParts.{batch_of}
use Rattle.pay_shard.specs.Selection.{is_of, is_quoted}
use Rattle.pay_shard.specs.declared.asked.Asked.TheVariants as asked
use Rattle.pay_close.specs.Close.{new_books, batch_of_all, close, IsLate}
use Rattle.pay_histories.specs.From.{IsOfOwn}
use Rattle.pay_histories.specs.Restores.{IsCommand, AreRestoredFrom}
use Rattle.pay_histories.proofs.Closing.{nothing_there}
use Rattle.pay_histories.proofs.Histories.{always_agree}

abbrev chosen : ℕ → List (ℕ × Accepted) → List (ℕ × Accepted)
chosen day es = filter (λ (e : ℕ × Accepted). is_of 0 1 e.0 && is_quoted day (sets e.0 e.1)) es

no_entries : entries (empty {X = Accepted} {R = nat_cmp}) ≡ []
no_entries = nothing_there (entries empty) (sym (len-entries empty) ∙ len-empty nat_cmp Accepted)

-- where no account has accepted anything, any day is closed without a posting
first_close : (editions : FareEditions) (day : ℕ) → close editions new_books day ≡ Ok ([], new_books.ledger)
first_close editions day = ap (λ (es : List (ℕ × Accepted)). posted new_books.ledger (batch_of editions day (chosen day es)).quotes (batch_of editions day (chosen day es)).sets) no_entries

-- there each account has just its own, and the ledger agrees with it
new_books_agree : (editions : FareEditions) → IsOfOwn new_books.state × AgreesWith editions new_books.state new_books.ledger × ArePaid new_books.ledger.postings
new_books_agree editions = ((always_agree editions []).theirs, record { postings = tt; taps = tt; fixes = tt }, tt)

-- one account with a tap of that week is quoted, and its sets are archived
one_account_quoted : (editions : FareEditions) (accepted : Accepted) (day : ℕ) → is_quoted day (sets 7 accepted) ≡ true
    → batch_of_all editions (insert empty 7 accepted) day ≡ record { quotes = quote editions 7 accepted day ∷ []; sets = sets 7 accepted ∷ [] }
one_account_quoted editions accepted day is =
    ap (λ (es : List (ℕ × Accepted)). batch_of editions day (chosen day es)) (entries-insert nat_cmp_total empty 7 accepted ∙ ap (put nat_cmp 7 accepted) no_entries)
    ∙ ap (λ b. batch_of editions day (cond b ((7, accepted) ∷ []) [])) is

-- Monday 2024-01-08 is closed too late once the Tuesday was, and not because of the Monday after
after_tuesday : IsLate 19_730 (StaleQuote 7 2 19_731)
after_tuesday = (omega arith, refl)

another_week : ¬ IsLate 19_730 (StaleQuote 7 2 19_737)
another_week late = omega (arith, late.1)

-- a tap on a bus, whose numbers are in their ranges
bus_tap : Tap
bus_tap = record { account = 7; reader = 1; seq = 4; place = 50; kind = Bus; stamp = record { utc = 1_704_697_200; day = 19_730; second = 25_200 } }

tap_in_range : IsCommand (asked.Tap bus_tap)
unfolding bus_tap
tap_in_range = (
  (omega arith, omega arith),
  record {
    of_reader = (omega arith, omega arith);
    at_seq = omega arith;
    at_stamp = record { utc = (omega arith, omega arith); day = (omega arith, omega arith); second = omega arith };
    at_place = (omega arith, omega arith);
  },
)

-- accounts count from 1
no_account : ¬ IsCommand (asked.Tap (record bus_tap { account = 0 }))
unfolding bus_tap
no_account is = omega (arith, is.0.0)

-- where nothing was archived, no account is restored
none_restored : (editions : FareEditions) → AreRestoredFrom editions new_books.ledger []
none_restored editions = ap Some no_entries
