-- What was posted for an account and week, whether it is what is due, and the weeks of an account.
use Rattle.std.specs.Prelude.{◌≡◌, ℕ, ℤ, pos, negsuc, ◌+ℤ◌, ◌&&◌, if◌then◌else◌, List, [], ◌∷◌, ◌++◌, map, take, fold, replicate, Option, Some, None, FitsSigned, refl}
use lib.Pointwise.{pointwise, pointwise_decides}
use Rattle.std.specs.List.{Contains, filter_map}
use Rattle.std.specs.FinMap.{values}
use Rattle.std.specs.Int.{w64}
use Rattle.std.specs.Option.{option_map}
use Rattle.std.specs.Ordering.{int_eq}
use Rattle.std.specs.Cmp.{signed_Decides}
use Rattle.std.proofs.Common.{zero, suc, Bool, true, false, ap, arith}
use Rattle.std.proofs.lemmas.Bool.{and_parts, and_from}
use Rattle.std.proofs.lemmas.Int.{ints}
use Rattle.pay_day.specs.Words.{monday}
use Rattle.pay_tables.specs.Words.{FareEditions}
use Rattle.pay_rules.specs.declared.tap.Kind.TheVariants.{In}
use Rattle.pay_rules.specs.declared.tap.Tap.{Tap}
use Rattle.pay_rules.specs.declared.fix.Fix.{Fix}
use Rattle.pay_rules.specs.declared.fix.What.{What}
use Rattle.pay_rules.specs.declared.fix.What.TheVariants.{Void, Fill, Credit, Drop}
use Rattle.pay_rules.specs.declared.posting.Posting.{Posting}
use Rattle.pay_rules.specs.QuoteParts.{QuoteParts}
use Rattle.pay_rules.specs.Accepted.{Accepted}
use Rattle.pay_rules.specs.Quotes.{quote}
use Rattle.pay_postings.specs.Words.{no_amounts, net, shares_posted, last_of}
use Rattle.pay_audit.specs.declared.settling.PostedSums.{PostedSums}
use Rattle.pay_audit.specs.declared.settling.PostedSoFar.{PostedSoFar}

-- ---- what was posted

-- nothing, for any operator
abbrev pub nothing_posted : PostedSums
nothing_posted = record { net = pos 0; shares = no_amounts }

-- for an account and week: the sum of the amounts, and for each operator that of its share amounts
abbrev pub sums_posted : ℕ → ℕ → List Posting → PostedSums
sums_posted account week postings = record { net = net account week postings; shares = shares_posted account week postings }

-- what was posted for an account and week: the day of the last posting, and the sums of all; nothing where there is none
abbrev pub posted_for : ℕ → ℕ → List Posting → Option PostedSoFar
posted_for account week postings = option_map (λ (last : Posting). record { through = last.quote.through; sums = sums_posted account week postings }) (last_of account week postings)

-- ---- one posting after another

-- the sum of the amounts so far
abbrev pub net_of : Option PostedSoFar → ℤ
net_of None = pos 0
net_of (Some it) = it.sums.net

-- with a further posting: as its shares say what fell to each operator up to it
abbrev pub with_posting : Option PostedSoFar → Posting → Option PostedSoFar
with_posting before posting = Some (record { through = posting.quote.through; sums = record { net = net_of before +ℤ posting.amount; shares = map pos posting.quote.shares } })

-- what postings come to, one after another
abbrev pub so_far : List Posting → Option PostedSoFar
so_far postings = fold with_posting None postings

-- the first of them come to what has no 64 bits
abbrev pub ComeTooFar : List Posting → Type 0
ComeTooFar postings = (n : ℕ) × (FitsSigned w64 (net_of (so_far (take n postings))) → ⊥)

-- ---- what is due

-- whether as much was posted as is due, and for each operator as much as its share
abbrev pub is_as_posted : QuoteParts → PostedSums → Bool
is_as_posted quote posted = int_eq (pos quote.due) posted.net && pointwise int_eq (map pos quote.shares) posted.shares

-- what is due, if it is not what was posted, or falls to other operators
abbrev pub other_due : QuoteParts → PostedSums → Option ℕ
other_due quote posted = if is_as_posted quote posted then None else Some quote.due

-- what is due of an account through a day of a week, if it is not what was posted, or falls to other operators
abbrev pub unsettled : FareEditions → ℕ → Accepted → ℕ → PostedSums → Option ℕ
unsettled editions account accepted through posted = other_due (quote editions account accepted through) posted

-- ---- the weeks of an account

-- the service day of which a correction is: that of the tap that a Fill adds, and that of a Credit
abbrev pub day_of : What → Option ℕ
day_of (Fill stamp place kind) = Some stamp.day
day_of (Credit credit) = Some credit.day
day_of (Void reader seq) = None
day_of (Drop staff seq) = None

-- the Mondays of the weeks of taps, and of corrections that have a day
abbrev pub weeks : List Tap → List Fix → List ℕ
weeks taps fixes = map (λ (tap : Tap). monday tap.stamp.day) taps ++ map monday (filter_map (λ (fix : Fix). day_of fix.what) fixes)

-- a week, told by its Monday, is that of an accepted tap, voided or not, or of an accepted Fill or Credit, dropped or not
abbrev pub IsWeekOf : Accepted → ℕ → Type 0
IsWeekOf accepted week = Contains (weeks (values accepted.taps) (values accepted.fixes)) week

-- ---- worked rows

-- of account 7's week from 2024-01-08 on 860 were charged through Monday, and 520 given back through Sunday
quoted : ℕ → ℕ → ℕ → QuoteParts
quoted account through due = record { account = account; week = monday through; through = through; version = 2; due = due; edition = 4; shares = due ∷ replicate 15 0 }

charged : Posting
charged = record { quote = quoted 7 19_730 860; amount = pos 860; share_amounts = pos 860 ∷ replicate 15 (pos 0) }

given_back : Posting
given_back = record { quote = quoted 7 19_736 340; amount = negsuc 519; share_amounts = negsuc 519 ∷ replicate 15 (pos 0) }

-- and 300 of account 8, and of account 7's next week
of_another : Posting
of_another = record { quote = quoted 8 19_730 300; amount = pos 300; share_amounts = pos 300 ∷ replicate 15 (pos 0) }

of_next_week : Posting
of_next_week = record { quote = quoted 7 19_737 300; amount = pos 300; share_amounts = pos 300 ∷ replicate 15 (pos 0) }

the_sums_through_sunday : posted_for 7 19_730 (charged ∷ of_another ∷ given_back ∷ of_next_week ∷ []) ≡ Some (record { through = 19_736; sums = record { net = pos 340; shares = pos 340 ∷ replicate 15 (pos 0) } })
unfolding quoted charged given_back of_another of_next_week
the_sums_through_sunday = refl

one_after_another : so_far (charged ∷ given_back ∷ []) ≡ Some (record { through = 19_736; sums = record { net = pos 340; shares = pos 340 ∷ replicate 15 (pos 0) } })
unfolding quoted charged given_back
one_after_another = refl

none_posted : posted_for 8 19_737 (charged ∷ of_another ∷ of_next_week ∷ []) ≡ None
unfolding quoted charged of_another of_next_week
none_posted = refl

-- two of 5,000,000,000,000,000,000 pence come to too much, and one does not
large : Posting
large = record { quote = quoted 7 19_730 860; amount = pos 5_000_000_000_000_000_000; share_amounts = replicate 16 (pos 0) }

too_far : ComeTooFar (large ∷ large ∷ [])
unfolding quoted large
too_far = (2, λ fits. omega (arith, ints, fits))

not_too_far : ComeTooFar (large ∷ []) → ⊥
unfolding quoted large
not_too_far far = one far.0 far.1
  where
    one : (n : ℕ) → (FitsSigned w64 (net_of (so_far (take n (large ∷ [])))) → ⊥) → ⊥
    one zero beyond = beyond (omega (arith, ints))
    one (suc zero) beyond = beyond (omega (arith, ints))
    one (suc (suc n)) beyond = beyond (omega (arith, ints))

-- 860 that were charged for operator 1 fall to operator 2: `PAY 7 19730 19730 3 860 0 1=-860 2=860`
to_another : QuoteParts
to_another = record { account = 7; week = 19_730; through = 19_730; version = 3; due = 860; edition = 4; shares = 0 ∷ 860 ∷ replicate 14 0 }

moved : Posting
moved = record { quote = to_another; amount = pos 0; share_amounts = negsuc 859 ∷ pos 860 ∷ replicate 14 (pos 0) }

-- before it that is not settled, as 860 are due and 860 were posted; after it that is, and what was due before is not
not_moved_yet : other_due to_another (sums_posted 7 19_730 (charged ∷ [])) ≡ Some 860
unfolding quoted charged to_another
not_moved_yet = refl

moved_then : other_due to_another (sums_posted 7 19_730 (charged ∷ moved ∷ [])) ≡ None
unfolding quoted charged to_another moved
moved_then = refl

moved_wrongly : other_due (quoted 7 19_730 860) (sums_posted 7 19_730 (charged ∷ moved ∷ [])) ≡ Some 860
unfolding quoted charged to_another moved
moved_wrongly = refl

the_sums_then : posted_for 7 19_730 (charged ∷ moved ∷ []) ≡ Some (record { through = 19_730; sums = record { net = pos 860; shares = pos 0 ∷ pos 860 ∷ replicate 14 (pos 0) } })
unfolding quoted charged to_another moved
the_sums_then = refl

-- 340 are due: as much was posted, or less, or more was given back than charged
of_operator_1 : ℤ → PostedSums
of_operator_1 amount = record { net = amount; shares = amount ∷ replicate 15 (pos 0) }

settled : other_due (quoted 7 19_736 340) (of_operator_1 (pos 340)) ≡ None
unfolding quoted of_operator_1
settled = refl

late_tap : other_due (quoted 7 19_736 340) (of_operator_1 (pos 170)) ≡ Some 340
unfolding quoted of_operator_1
late_tap = refl

below_nothing : other_due (quoted 7 19_736 340) (of_operator_1 (negsuc 339)) ≡ Some 340
unfolding quoted of_operator_1
below_nothing = refl

-- where nothing was posted, nothing is due: and 340 are not nothing
of_nothing : other_due (quoted 7 19_736 0) nothing_posted ≡ None
unfolding quoted
of_nothing = refl

never_posted : other_due (quoted 7 19_736 340) nothing_posted ≡ Some 340
unfolding quoted
never_posted = refl

-- what was posted as it is due is settled, whatever it is
as_due : (quote : QuoteParts) → other_due quote (record { net = pos quote.due; shares = map pos quote.shares }) ≡ None
as_due quote =
    ap (λ (b : Bool). if b then None else Some quote.due)
    (and_from _ _ ((signed_Decides (pos quote.due) (pos quote.due)).1 refl) ((pointwise_decides signed_Decides (map pos quote.shares) (map pos quote.shares)).1 refl))

-- and nothing else is
just_as_due : (quote : QuoteParts) (posted : PostedSums) → other_due quote posted ≡ None → (pos quote.due ≡ posted.net) × (map pos quote.shares ≡ posted.shares)
just_as_due quote posted none = by (is_as_posted quote posted) none refl
  where
    by : (b : Bool) → ◌≡◌ {A = Option ℕ} (if b then None else Some quote.due) None → is_as_posted quote posted ≡ b → (pos quote.due ≡ posted.net) × (map pos quote.shares ≡ posted.shares)
    by true e is =
        let parts = and_parts _ _ is in
        ((signed_Decides (pos quote.due) posted.net).0 parts.0, (pointwise_decides signed_Decides (map pos quote.shares) posted.shares).0 parts.1)
    by false e is = absurd (cc)

-- a tap on Sunday, 2024-01-14, a Fill on the Monday after it, a Credit for that Wednesday, and a Void
on_sunday : Tap
on_sunday = record { account = 7; reader = 12; seq = 4; place = 31; kind = In; stamp = record { utc = 1_705_219_200; day = 19_736; second = 28_800 } }

of_staff : ℕ → What → Fix
of_staff seq what = record { account = 7; staff = 9; seq = seq; what = what }

their_weeks : weeks (on_sunday ∷ []) (of_staff 1 (Fill (record { utc = 1_705_305_600; day = 19_737; second = 28_800 }) 31 In) ∷ of_staff 2 (Credit (record { day = 19_739; pence = 120 })) ∷ of_staff 3 (Void 12 4) ∷ of_staff 4 (Drop 9 2) ∷ []) ≡ 19_730 ∷ 19_737 ∷ 19_737 ∷ []
unfolding on_sunday of_staff
their_weeks = refl
