-- Which weeks of an account have something that no close has reached.
use Rattle.std.specs.Prelude.{◌≡◌, ℕ, ◌==◌, ◌&&◌, ◌||◌, not, nat_le, Bool, true, false, [], ◌∷◌, Option, Some, None, refl}
use Rattle.std.specs.List.{list_any}
use Rattle.pay_day.specs.Words.{monday}
use Rattle.pay_rules.specs.declared.tap.Kind.TheVariants.{In}
use Rattle.pay_rules.specs.declared.tap.Tap.{Tap}
use Rattle.pay_rules.specs.declared.fix.Fix.{Fix}
use Rattle.pay_rules.specs.declared.fix.What.{What}
use Rattle.pay_rules.specs.declared.fix.What.TheVariants.{Void, Fill, Credit}
use Rattle.pay_rules.specs.SetsParts.{SetsParts}
use Rattle.pay_audit.specs.declared.unclosed.WeekClosed.{WeekClosed}

-- a week that was closed through a day, if it was, has this day behind it
abbrev pub is_reached : Option ℕ → ℕ → Bool
is_reached None day = false
is_reached (Some through) day = nat_le day through

-- a day is of the week, and not after the last day that was closed of any week, and no close has reached it
abbrev pub is_left : WeekClosed → ℕ → Bool
is_left closed day = monday day == closed.week && nat_le day closed.last && not (is_reached closed.through day)

abbrev pub is_tap_left : WeekClosed → Tap → Bool
is_tap_left closed tap = is_left closed tap.stamp.day

abbrev pub is_what_left : WeekClosed → What → Bool
is_what_left closed (Fill stamp place kind) = is_left closed stamp.day
is_what_left closed _ = false

-- whether a correction is a Fill that adds a tap on such a day
abbrev pub is_fill_left : WeekClosed → Fix → Bool
is_fill_left closed fix = is_what_left closed fix.what

-- an accepted tap or an accepted Fill on such a day: voided, dropped or not
abbrev pub is_unclosed : WeekClosed → SetsParts → Bool
is_unclosed closed s = list_any (is_tap_left closed) s.taps || list_any (is_fill_left closed) s.fixes

-- ---- worked rows: a tap on Friday, 2024-01-12, and a Fill on that Saturday

on_friday : Tap
on_friday = record { account = 7; reader = 12; seq = 4; place = 31; kind = In; stamp = record { utc = 1_705_046_400; day = 19_734; second = 28_800 } }

of_staff : ℕ → What → Fix
of_staff seq what = record { account = 7; staff = 9; seq = seq; what = what }

friday_alone : SetsParts
friday_alone = record { account = 7; taps = on_friday ∷ []; fixes = of_staff 2 (Credit (record { day = 19_735; pence = 120 })) ∷ of_staff 3 (Void 12 4) ∷ [] }

saturday_filled : SetsParts
saturday_filled = record { account = 7; taps = []; fixes = of_staff 1 (Fill (record { utc = 1_705_132_800; day = 19_735; second = 28_800 }) 31 In) ∷ [] }

closed_of : Option ℕ → ℕ → WeekClosed
closed_of through last = record { week = 19_730; through = through; last = last }

-- the Tuesday of the next week was closed: the week was not, or through its Thursday
never_closed : is_unclosed (closed_of None 19_738) friday_alone ≡ true
unfolding closed_of friday_alone on_friday of_staff
never_closed = refl

through_thursday : is_unclosed (closed_of (Some 19_733) 19_738) friday_alone ≡ true
unfolding closed_of friday_alone on_friday of_staff
through_thursday = refl

-- through its Friday nothing is left, but of the Fill
through_friday : is_unclosed (closed_of (Some 19_734) 19_738) friday_alone ≡ false
unfolding closed_of friday_alone on_friday of_staff
through_friday = refl

a_fill_later : is_unclosed (closed_of (Some 19_734) 19_738) saturday_filled ≡ true
unfolding closed_of saturday_filled of_staff
a_fill_later = refl

-- Thursday was the last day that was closed of any week, or none was: it is not known that Friday is over
last_of_all : is_unclosed (closed_of (Some 19_733) 19_733) friday_alone ≡ false
unfolding closed_of friday_alone on_friday of_staff
last_of_all = refl

nothing_closed : is_unclosed (closed_of None 0) friday_alone ≡ false
unfolding closed_of friday_alone on_friday of_staff
nothing_closed = refl

-- nor is it of the next week
of_the_next_week : is_unclosed (record { week = 19_737; through = None; last = 19_738 }) friday_alone ≡ false
unfolding friday_alone on_friday of_staff
of_the_next_week = refl
