-- Worked rows: small lists of corrections, which of them stand, what they do to taps, what they give back, and the day that one names.
use Rattle.std.specs.Prelude.{◌≡◌, ℕ, ◌+◌, true, false, List, [], ◌∷◌, Some, None, Ok, Err, sum_by, refl}
use Rattle.std.specs.FinMap.{get}
use Rattle.pay_day.specs.Words.{Stamp}
use Rattle.pay_rules.specs.declared.tap.Kind.{Kind}
use Rattle.pay_rules.specs.declared.tap.Kind.TheVariants.{In, Out, Bus}
use Rattle.pay_rules.specs.declared.tap.Tap.{Tap}
use Rattle.pay_rules.specs.declared.tap.Touch.{Touch}
use Rattle.pay_rules.specs.Taps.{Taps}
use Rattle.pay_rules.specs.Order.{touch_of}
use Rattle.pay_rules.specs.Numbers.{judgement}
use Rattle.pay_rules.specs.declared.addition.Addition.TheVariants.{Added, Repeat}
use Rattle.pay_rules.specs.declared.addition.AdditionFault.TheVariants.{Conflict, Full}
use Rattle.pay_rules.specs.declared.limits.TheConstants.{MOST_FIXES}
use Rattle.pay_rules.specs.declared.fix.Fix.{Fix}
use Rattle.pay_rules.specs.declared.fix.What.{What}
use Rattle.pay_rules.specs.declared.fix.What.TheVariants.{Void, Fill, Credit, Drop}
use Rattle.pay_rules.specs.Fixes.{Fixes, same_what, same_fix, stands}
use Rattle.pay_rules.specs.Effective.{is_voided, not_voided, filled, effective_of}
use Rattle.pay_rules.specs.StandingCredits.{given_by}
use Rattle.pay_rules.specs.NamedDay.{day_of_found, day_named}

-- a correction of account 7, and one by staff 3
abbrev pub by : ℕ → ℕ → What → Fix
by staff seq what = record { account = 7; staff = staff; seq = seq; what = what }

abbrev pub fix : ℕ → What → Fix
fix seq what = by 3 seq what

-- so many seconds after 07:00 on Monday 2024-01-08
abbrev pub after_seven : ℕ → Stamp
after_seven seconds = record { utc = 1_704_697_200 + seconds; day = 19_730; second = 25_200 + seconds }

abbrev pub tap : ℕ → ℕ → ℕ → ℕ → Kind → Tap
tap reader seq seconds place kind = record { account = 7; reader = reader; seq = seq; stamp = after_seven seconds; place = place; kind = kind }

abbrev pub fills : ℕ → ℕ → Kind → What
fills seconds place kind = Fill (after_seven seconds) place kind

-- the tap of a Fill, under the number of its correction
abbrev pub filled_at : ℕ → ℕ → ℕ → ℕ → Kind → Touch
filled_at staff seq seconds place kind = record { filled = true; first = staff; second = seq; stamp = after_seven seconds; place = place; kind = kind }

abbrev pub gives : ℕ → ℕ → What
gives day pence = Credit (record { day = day; pence = pence })

-- ---- content, and the judgement of one more

a_void_is_no_drop : same_what (Void 5 6) (Drop 5 6) ≡ false
a_void_is_no_drop = refl

other_form : judgement same_fix MOST_FIXES (fix 1 (Drop 5 6)) (Some (fix 1 (Void 5 6))) 1 ≡ Err Conflict
other_form = refl

another_sum : judgement same_fix MOST_FIXES (fix 2 (gives 19_730 200)) (Some (fix 2 (gives 19_730 100))) 6 ≡ Err Conflict
another_sum = refl

the_1_024th : judgement same_fix MOST_FIXES (fix 1_024 (gives 19_730 1)) None 1_023 ≡ Ok Added
the_1_024th = refl

one_more : judgement same_fix MOST_FIXES (fix 1_025 (gives 19_730 1)) None 1_024 ≡ Err Full
one_more = refl

again_at_full : judgement same_fix MOST_FIXES (fix 1 (gives 19_730 1)) (Some (fix 1 (gives 19_730 1))) 1_024 ≡ Ok Repeat
again_at_full = refl

-- ---- which corrections stand

void_alone : stands (fix 1 (Void 1 1) ∷ []) (fix 1 (Void 1 1)) ≡ true
void_alone = refl

void_dropped : stands (fix 1 (Void 1 1) ∷ fix 2 (Drop 3 1) ∷ []) (fix 1 (Void 1 1)) ≡ false
void_dropped = refl

-- the same seq of another staff, and the number of the voided tap, are other names
other_staff_dropped : stands (fix 1 (Void 1 1) ∷ fix 2 (Drop 4 1) ∷ fix 3 (Drop 1 1) ∷ []) (fix 1 (Void 1 1)) ≡ true
other_staff_dropped = refl

-- a Drop of the Drop brings nothing back
drop_of_a_drop : stands (fix 1 (Void 1 1) ∷ fix 2 (Drop 3 1) ∷ fix 3 (Drop 3 2) ∷ []) (fix 1 (Void 1 1)) ≡ false
drop_of_a_drop = refl

-- and a Drop stands, though it is named, by itself too
dropped_drop : stands (fix 2 (Drop 3 1) ∷ fix 3 (Drop 3 2) ∷ []) (fix 2 (Drop 3 1)) ≡ true
dropped_drop = refl

drop_of_itself : stands (fix 8 (Drop 3 8) ∷ []) (fix 8 (Drop 3 8)) ≡ true
drop_of_itself = refl

-- a Drop whose number is lower than that which it names
credit_dropped_before : stands (by 2 9 (Drop 3 8) ∷ fix 8 (gives 19_730 100) ∷ []) (fix 8 (gives 19_730 100)) ≡ false
credit_dropped_before = refl

-- ---- which taps are voided

voided : is_voided (fix 1 (Void 1 1) ∷ []) (1, 1) ≡ true
voided = refl

other_seq : is_voided (fix 1 (Void 1 1) ∷ []) (1, 2) ≡ false
other_seq = refl

other_reader : is_voided (fix 1 (Void 1 1) ∷ []) (2, 1) ≡ false
other_reader = refl

-- a Drop of the same pair is no Void
no_void : is_voided (fix 1 (Drop 1 1) ∷ []) (1, 1) ≡ false
no_void = refl

restored : is_voided (fix 1 (Void 1 1) ∷ fix 2 (Drop 3 1) ∷ []) (1, 1) ≡ false
restored = refl

-- two Voids of one tap: one of them dropped, and both
one_of_two_dropped : is_voided (fix 1 (Void 1 1) ∷ fix 2 (Void 1 1) ∷ fix 3 (Drop 3 1) ∷ []) (1, 1) ≡ true
one_of_two_dropped = refl

both_dropped : is_voided (fix 1 (Void 1 1) ∷ fix 2 (Void 1 1) ∷ fix 3 (Drop 3 1) ∷ fix 4 (Drop 3 2) ∷ []) (1, 1) ≡ false
both_dropped = refl

left_of_two_taps : not_voided (fix 1 (Void 1 1) ∷ []) (tap 1 1 0 10 In ∷ tap 1 2 1_800 12 Out ∷ []) ≡ tap 1 2 1_800 12 Out ∷ []
left_of_two_taps = refl

-- ---- the taps of Fills

one_fill : filled (fix 1 (fills 1_800 12 Out) ∷ []) ≡ filled_at 3 1 1_800 12 Out ∷ []
one_fill = refl

fill_dropped : filled (fix 1 (fills 1_800 12 Out) ∷ fix 2 (Drop 3 1) ∷ []) ≡ []
fill_dropped = refl

-- a Void of the Fill's number takes out no Fill
fill_and_void : filled (fix 1 (fills 1_800 12 Out) ∷ fix 2 (Void 3 1) ∷ []) ≡ filled_at 3 1 1_800 12 Out ∷ []
fill_and_void = refl

one_of_two_fills : filled (fix 1 (fills 1_800 12 Out) ∷ fix 2 (fills 3_600 50 Bus) ∷ fix 3 (Drop 3 1) ∷ []) ≡ filled_at 3 2 3_600 50 Bus ∷ []
one_of_two_fills = refl

no_fill : filled (fix 1 (Void 1 1) ∷ fix 2 (gives 19_730 100) ∷ fix 3 (Drop 3 9) ∷ []) ≡ []
no_fill = refl

-- ---- effective taps: in one second the accepted one comes first, whatever the numbers are

in_one_second : effective_of (tap 65_535 9 0 10 In ∷ []) (by 1 1 (fills 0 12 Out) ∷ [])
    ≡ touch_of (tap 65_535 9 0 10 In) ∷ filled_at 1 1 0 12 Out ∷ []
in_one_second = refl

-- ---- what is given back

on_the_day : given_by (fix 1 (gives 19_730 100) ∷ []) 19_730 19_730 (fix 1 (gives 19_730 100)) ≡ 100
on_the_day = refl

before_the_days : given_by (fix 1 (gives 19_729 100) ∷ []) 19_730 19_736 (fix 1 (gives 19_729 100)) ≡ 0
before_the_days = refl

after_the_days : given_by (fix 1 (gives 19_737 100) ∷ []) 19_730 19_736 (fix 1 (gives 19_737 100)) ≡ 0
after_the_days = refl

credit_dropped : given_by (fix 1 (gives 19_730 100) ∷ fix 2 (Drop 3 1) ∷ []) 19_730 19_736 (fix 1 (gives 19_730 100)) ≡ 0
credit_dropped = refl

no_credit : given_by (fix 1 (fills 0 50 Bus) ∷ []) 19_730 19_736 (fix 1 (fills 0 50 Bus)) ≡ 0
no_credit = refl

-- on Monday, on Sunday, on the Monday after, and on Monday and withdrawn
abbrev five : List Fix
five = fix 1 (gives 19_730 100) ∷ fix 2 (gives 19_736 40) ∷ fix 3 (gives 19_737 7) ∷ fix 4 (gives 19_730 1_000) ∷ fix 5 (Drop 3 4) ∷ []

through_sunday : sum_by (given_by five 19_730 19_736) five ≡ 140
through_sunday = refl

through_saturday : sum_by (given_by five 19_730 19_735) five ≡ 100
through_saturday = refl

-- ---- the day that is named

of_a_fill : (taps : Taps) (fixes : Fixes) → day_named taps fixes (fills 1_800 12 Out) ≡ Some 19_730
of_a_fill taps fixes = refl

of_a_credit : (taps : Taps) (fixes : Fixes) → day_named taps fixes (gives 19_731 100) ≡ Some 19_731
of_a_credit taps fixes = refl

of_a_void : (taps : Taps) (fixes : Fixes) → get taps (1, 1) ≡ Some (tap 1 1 0 10 In) → day_named taps fixes (Void 1 1) ≡ Some 19_730
of_a_void taps fixes there = simp there

of_an_early_void : (taps : Taps) (fixes : Fixes) → get taps (1, 1) ≡ None → day_named taps fixes (Void 1 1) ≡ None
of_an_early_void taps fixes missing = simp missing

-- a Drop: of a Void of a tap that is there and of one that is not, of a Credit, of a Drop, of nothing
of_a_dropped_void : (taps : Taps) (fixes : Fixes) → get fixes (3, 1) ≡ Some (fix 1 (Void 1 1)) → get taps (1, 1) ≡ Some (tap 1 1 0 10 In) → day_named taps fixes (Drop 3 1) ≡ Some 19_730
of_a_dropped_void taps fixes void there = simp (void, there)

of_a_dropped_early_void : (taps : Taps) (fixes : Fixes) → get fixes (3, 1) ≡ Some (fix 1 (Void 1 1)) → get taps (1, 1) ≡ None → day_named taps fixes (Drop 3 1) ≡ None
of_a_dropped_early_void taps fixes void missing = simp (void, missing)

of_a_dropped_credit : (taps : Taps) → day_of_found taps (Some (fix 2 (gives 19_731 100))) ≡ Some 19_731
of_a_dropped_credit taps = refl

of_a_dropped_drop : (taps : Taps) → day_of_found taps (Some (fix 3 (Drop 3 2))) ≡ None
of_a_dropped_drop taps = refl

of_a_drop_of_nothing : (taps : Taps) → day_of_found taps None ≡ None
of_a_drop_of_nothing taps = refl
