-- Worked rows: an account is charged for a lone tap on Monday, and given back what its late exit makes cheaper.
use Rattle.std.specs.Prelude.{◌≡◌, ℕ, ℤ, pos, negsuc, [], ◌∷◌, replicate, Some, Ok, Err, refl}
use Rattle.pay_rules.specs.declared.tap.Kind.TheVariants.{Bus}
use Rattle.pay_rules.specs.declared.tap.Tap.{Tap}
use Rattle.pay_rules.specs.declared.posting.Posting.{Posting}
use Rattle.pay_rules.specs.QuoteParts.{QuoteParts}
use Rattle.pay_rules.specs.declared.post_fault.PostFault.TheVariants.{StaleQuote, QuoteDiffers, ArchiveConflict}
use Rattle.pay_postings.specs.Postings.{net, shares_posted, last_of, post, post_each, last_quote_of}
use Rattle.pay_postings.specs.Archive.{archived_tap, archived_each}

-- a quote of account 7 by an edition, of which all falls to operator 1
abbrev by_edition : ℕ → ℕ → ℕ → ℕ → ℕ → QuoteParts
by_edition edition week through version due = record { account = 7; week = week; through = through; version = version; due = due; edition = edition; shares = due ∷ replicate 15 0 }

-- by that of the file's own keys, which holds from day 4 on
abbrev quoted : ℕ → ℕ → ℕ → ℕ → QuoteParts
quoted = by_edition 4

abbrev to_operator_1 : QuoteParts → ℤ → Posting
to_operator_1 quote amount = record { quote = quote; amount = amount; share_amounts = amount ∷ replicate 15 (pos 0) }

abbrev lone_tap : QuoteParts
lone_tap = quoted 19_730 19_730 1 860

abbrev with_exit : QuoteParts
with_exit = quoted 19_730 19_730 2 340

abbrev charge : Posting
charge = to_operator_1 lone_tap (pos 860)

abbrev refund : Posting
refund = to_operator_1 with_exit (negsuc 519)

first_charge : post [] lone_tap ≡ Ok (charge, charge ∷ [])
first_charge = refl

then_refund : post (charge ∷ []) with_exit ≡ Ok (refund, charge ∷ refund ∷ [])
then_refund = refl

what_is_left : net 7 19_730 (charge ∷ refund ∷ []) ≡ pos 340
what_is_left = refl

shares_left : shares_posted 7 19_730 (charge ∷ refund ∷ []) ≡ pos 340 ∷ replicate 15 (pos 0)
shares_left = refl

the_last : last_of 7 19_730 (charge ∷ refund ∷ []) ≡ Some refund
the_last = refl

-- the same quote again adds nothing, and its posting is given as it was
refund_again : post (charge ∷ refund ∷ []) with_exit ≡ Ok (refund, charge ∷ refund ∷ [])
refund_again = refl

-- an earlier version comes too late
old_version : post (charge ∷ refund ∷ []) lone_tap ≡ Err (StaleQuote 7 2 19_730)
old_version = refl

-- and so does an earlier day
next_day : Posting
next_day = to_operator_1 (quoted 19_730 19_731 2 340) (pos 0)

charge_of_next_day : post (charge ∷ refund ∷ []) (quoted 19_730 19_731 2 340) ≡ Ok (next_day, charge ∷ refund ∷ next_day ∷ [])
unfolding next_day
charge_of_next_day = refl

old_day : post (charge ∷ refund ∷ next_day ∷ []) (quoted 19_730 19_730 3 100) ≡ Err (StaleQuote 7 2 19_731)
unfolding next_day
old_day = refl

-- the same version and day, by which something else would be due
other_due : post (charge ∷ refund ∷ []) (quoted 19_730 19_730 2 341) ≡ Err QuoteDiffers
other_due = refl

-- or the same for another operator
other_operator : post (charge ∷ refund ∷ []) (record { account = 7; week = 19_730; through = 19_730; version = 2; due = 340; edition = 4; shares = 0 ∷ 340 ∷ replicate 14 0 }) ≡ Err QuoteDiffers
other_operator = refl

-- or by another edition
other_edition : post (charge ∷ refund ∷ []) (by_edition 19_731 19_730 19_730 2 340) ≡ Err QuoteDiffers
other_edition = refl

-- what was copied from version 1 of the ledger names no edition
abbrev copied_charge : Posting
copied_charge = to_operator_1 (by_edition 0 19_730 19_730 1 860) (pos 860)

abbrev copied_refund : Posting
copied_refund = to_operator_1 (by_edition 0 19_730 19_730 2 340) (negsuc 519)

-- so it is kept for the same quote, whatever its edition is, and is given as it stands
copied_again : post (copied_charge ∷ copied_refund ∷ []) with_exit ≡ Ok (copied_refund, copied_charge ∷ copied_refund ∷ [])
copied_again = refl

copied_by_another : post (copied_charge ∷ copied_refund ∷ []) (by_edition 19_728 19_730 19_730 2 340) ≡ Ok (copied_refund, copied_charge ∷ copied_refund ∷ [])
copied_by_another = refl

-- but not where something else would be due
copied_other_due : post (copied_charge ∷ copied_refund ∷ []) (quoted 19_730 19_730 2 341) ≡ Err QuoteDiffers
copied_other_due = refl

-- and a new version settles it: with a Credit of 40, this much is given back
after_credit : QuoteParts
after_credit = quoted 19_730 19_730 3 300

credited : post (copied_charge ∷ copied_refund ∷ []) after_credit ≡ Ok (to_operator_1 after_credit (negsuc 39), copied_charge ∷ copied_refund ∷ to_operator_1 after_credit (negsuc 39) ∷ [])
unfolding after_credit
credited = refl

what_is_left_then : net 7 19_730 (copied_charge ∷ copied_refund ∷ to_operator_1 after_credit (negsuc 39) ∷ []) ≡ pos 300
unfolding after_credit
what_is_left_then = refl

-- a posting that is kept stays the last, so the edition of a quote before one does not count
kept_counts : post_each (copied_charge ∷ copied_refund ∷ []) (with_exit ∷ by_edition 19_728 19_730 19_730 2 340 ∷ []) ≡ Ok (copied_refund ∷ copied_refund ∷ [], copied_charge ∷ copied_refund ∷ [])
kept_counts = refl

-- another week has postings of its own
next_week : QuoteParts
next_week = quoted 19_737 19_737 3 175

week_by_itself : post (charge ∷ refund ∷ []) next_week ≡ Ok (to_operator_1 next_week (pos 175), charge ∷ refund ∷ to_operator_1 next_week (pos 175) ∷ [])
unfolding next_week
week_by_itself = refl

-- two quotes of one account and week in one call are taken in their order, and the last of them counts
both : post_each [] (lone_tap ∷ with_exit ∷ []) ≡ Ok (charge ∷ refund ∷ [], charge ∷ refund ∷ [])
both = refl

last_of_both : last_quote_of 7 19_730 (lone_tap ∷ with_exit ∷ []) ≡ Some with_exit
last_of_both = refl

first_refused : post_each (charge ∷ refund ∷ []) (next_week ∷ lone_tap ∷ []) ≡ Err (StaleQuote 7 2 19_730)
unfolding next_week
first_refused = refl

-- ---- the archive

tap_at : ℕ → ℕ → Tap
tap_at account place = record { account = account; reader = 1; seq = 1; place = place; kind = Bus; stamp = record { utc = 1_704_697_200; day = 19_730; second = 25_200 } }

archived : archived_each archived_tap [] (tap_at 7 50 ∷ tap_at 8 50 ∷ []) ≡ Ok (tap_at 7 50 ∷ tap_at 8 50 ∷ [])
unfolding tap_at
archived = refl

archived_again : archived_each archived_tap (tap_at 7 50 ∷ tap_at 8 50 ∷ []) (tap_at 8 50 ∷ tap_at 7 50 ∷ []) ≡ Ok (tap_at 7 50 ∷ tap_at 8 50 ∷ [])
unfolding tap_at
archived_again = refl

other_content : archived_tap (tap_at 7 50 ∷ []) (tap_at 7 51) ≡ Err ArchiveConflict
unfolding tap_at
other_content = refl
