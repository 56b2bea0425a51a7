-- The Hopper rule, one boarding after the other: only the last one that paid has to be remembered.
use Rattle.std.specs.Prelude.{◌≡◌, ℕ, ◌+◌, Bool, true, false, List, [], ◌∷◌, Option, Some, None, map, nat_lt, if◌then◌else◌, refl}
use Rattle.std.specs.List.{fold, zip}
use Rattle.pay_day.specs.Words.{Stamp}
use Rattle.pay_rules.specs.declared.tap.Kind.TheVariants.{Bus}
use Rattle.pay_rules.specs.declared.tap.Touch.{Touch}

-- whether a boarding at an instant pays: none before it paid, or the last that did is more than `hopper` seconds before it
abbrev pub pays_by_last : ℕ → Option Stamp → ℕ → Bool
pays_by_last hopper None utc = true
pays_by_last hopper (Some paid) utc = nat_lt (paid.utc + hopper) utc

-- the moment of the last boarding that paid, after one more at `stamp`
abbrev pub last_paid_after : ℕ → Option Stamp → Stamp → Option Stamp
last_paid_after hopper last stamp = if pays_by_last hopper last stamp.utc then Some stamp else last

-- which boardings pay, where `last` is the moment of the last one before them that paid
abbrev pub marks_by_last : ℕ → Option Stamp → List Touch → List Bool
marks_by_last hopper last [] = []
marks_by_last hopper last (tap ∷ later) =
    pays_by_last hopper last tap.stamp.utc ∷ marks_by_last hopper (last_paid_after hopper last tap.stamp) later

-- the moment of the last boarding that paid, after some more, where `last` is that of the last one before them that paid
abbrev pub last_paid_over : ℕ → Option Stamp → List Touch → Option Stamp
last_paid_over hopper last taps = fold (λ before tap. last_paid_after hopper before tap.stamp) last taps

-- the moment of the last of some boardings that is marked, by a mark for each
abbrev pub last_marked : List Bool → List Touch → Option Stamp
last_marked marks taps = fold (λ (before : Option Stamp) (one : Bool × Touch). if one.0 then Some one.1.stamp else before) None (zip marks taps)

-- the morning of Monday 2024-01-08, from 07:00
morning : ℕ → Stamp
morning seconds = record { utc = 1_704_697_200 + seconds; day = 19_730; second = 25_200 + seconds }

boarding : ℕ → Touch
boarding seconds = record { filled = false; first = 1; second = seconds; stamp = morning seconds; place = 50; kind = Bus }

-- the first boarding pays
first_pays : pays_by_last 3600 None 1_704_697_200 ≡ true
first_pays = refl

-- an hour after the last that paid is within Hopper, and a second later is not
at_the_hour : pays_by_last 3600 (Some (morning 0)) 1_704_700_800 ≡ false
unfolding morning
at_the_hour = refl

after_the_hour : pays_by_last 3600 (Some (morning 0)) 1_704_700_801 ≡ true
unfolding morning
after_the_hour = refl

-- one that rides free is not the last that paid
free_one_passed_over : last_paid_after 3600 (Some (morning 0)) (morning 3000) ≡ Some (morning 0)
unfolding morning
free_one_passed_over = refl

-- so 5,000 seconds after 07:00 is measured from 07:00, and not from the boarding at 07:50
from_the_last_paying : marks_by_last 3600 None (map boarding (0 ∷ 3000 ∷ 5000 ∷ [])) ≡ true ∷ false ∷ true ∷ []
unfolding boarding morning
from_the_last_paying = refl

-- and 6,601 seconds after 07:00 from the boarding at 5,000, which paid
from_the_next_paying : marks_by_last 3600 None (map boarding (0 ∷ 5000 ∷ 6601 ∷ 8601 ∷ [])) ≡ true ∷ true ∷ false ∷ true ∷ []
unfolding boarding morning
from_the_next_paying = refl

-- of two at one instant the second does not pay
at_one_instant : marks_by_last 3600 None (map boarding (0 ∷ 0 ∷ [])) ≡ true ∷ false ∷ []
unfolding boarding morning
at_one_instant = refl

-- after the boardings at 0, 3,000, 5,000 and 6,601 seconds, that at 5,000 is the last that paid
over_four : last_paid_over 3600 None (map boarding (0 ∷ 3000 ∷ 5000 ∷ 6601 ∷ [])) ≡ Some (morning 5000)
unfolding boarding morning
over_four = refl

-- after one at 07:00, those within the hour change nothing
over_free_ones : last_paid_over 3600 (Some (morning 0)) (map boarding (3000 ∷ 3600 ∷ [])) ≡ Some (morning 0)
unfolding boarding morning
over_free_ones = refl

over_none : last_paid_over 3600 None [] ≡ None
over_none = refl

-- the last one that is marked stands after all others that are
last_of_marked : last_marked (true ∷ false ∷ true ∷ false ∷ []) (map boarding (0 ∷ 3000 ∷ 5000 ∷ 6601 ∷ [])) ≡ Some (morning 5000)
unfolding boarding morning
last_of_marked = refl

none_marked : last_marked (false ∷ false ∷ []) (map boarding (0 ∷ 3000 ∷ [])) ≡ None
unfolding boarding morning
none_marked = refl
