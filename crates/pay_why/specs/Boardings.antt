-- Why a boarding costs what it costs.
use Rattle.std.specs.Prelude.{◌≡◌, ℕ, ◌+◌, ◌<◌, nat_lt, Bool, true, false, if◌then◌else◌, List, [], ◌∷◌, map, take, slice_get, option_map, Option, Some, None, refl}
use Rattle.pay_day.specs.Words.{Stamp}
use Rattle.pay_tables.specs.Words.{FareTables}
use Rattle.pay_rules.specs.declared.tap.Kind.TheVariants.{Bus}
use Rattle.pay_rules.specs.declared.tap.Touch.{Touch}
use Rattle.pay_rules.specs.Hopper.{Pays, instants_of, paying_marks}
use Rattle.pay_hopper.specs.Words.{last_marked}
use Rattle.pay_why.specs.declared.boarding.BoardingReason.{BoardingReason}
use Rattle.pay_why.specs.declared.boarding.BoardingReason.TheVariants.{First, PaysAfter, FreeAfter}

-- the instant of the last of the boardings before a place that pays
abbrev pub last_paid_before : ℕ → List Touch → ℕ → Option Stamp
last_paid_before hopper boardings place = last_marked (take place (paying_marks hopper (instants_of boardings))) (take place boardings)

-- why a boarding pays or not, by the last one before it that paid
abbrev pub reason_after : ℕ → Option Stamp → Touch → BoardingReason
reason_after hopper None tap = First
reason_after hopper (Some paid) tap = if nat_lt (paid.utc + hopper) tap.stamp.utc then PaysAfter paid else FreeAfter paid

-- why the boarding at a place of an account's boardings pays or not, if there is one
abbrev pub boarding_reason : ℕ → List Touch → ℕ → Option BoardingReason
boarding_reason hopper boardings place = option_map (reason_after hopper (last_paid_before hopper boardings place)) (slice_get boardings place)

-- whether a boarding pays, by its reason alone
abbrev pub pays_by_reason : BoardingReason → Bool
pays_by_reason First = true
pays_by_reason (PaysAfter paid) = true
pays_by_reason (FreeAfter paid) = false

-- what it costs, by its reason and the tables of its service day
abbrev pub boarding_fare : FareTables → BoardingReason → ℕ
boarding_fare tables reason = if pays_by_reason reason then tables.rules.bus else 0

-- the boarding at a place pays, at this instant, and none pays from it up to another place
pub record IsLastPaying (hopper : ℕ) (boardings : List Touch) (place : ℕ) (paid : Stamp) : Type 0 where
  pub last : ℕ
  pub earlier : last < place
  pub pays : Pays (paying_marks hopper (instants_of boardings)) last
  pub instant : option_map (λ tap. tap.stamp) (slice_get boardings last) ≡ Some paid
  pub none_later : (other : ℕ) → last < other → other < place → Pays (paying_marks hopper (instants_of boardings)) other → ⊥

-- ---- worked rows: boardings so many seconds after 07:00 of Monday 2024-01-08, and the Hopper time of an hour

abbrev morning : ℕ → Stamp
morning seconds = record { utc = 1_704_697_200 + seconds; day = 19_730; second = 25_200 + seconds }

abbrev boarded : ℕ → Touch
boarded seconds = record { filled = false; first = 1; second = seconds; stamp = morning seconds; place = 50; kind = Bus }

-- 07:00:00, 07:50:00 and 08:23:20: the last is measured from the first, since the one between paid nothing
abbrev three : List Touch
three = map boarded (0 ∷ 3_000 ∷ 5_000 ∷ [])

first_of_three : boarding_reason 3_600 three 0 ≡ Some First
first_of_three = refl

second_of_three : boarding_reason 3_600 three 1 ≡ Some (FreeAfter (morning 0))
second_of_three = refl

third_of_three : boarding_reason 3_600 three 2 ≡ Some (PaysAfter (morning 0))
third_of_three = refl

no_fourth : boarding_reason 3_600 three 3 ≡ None
no_fourth = refl

-- an hour after the first a boarding is free, and a second later it pays
at_the_hour : boarding_reason 3_600 (map boarded (0 ∷ 3_600 ∷ [])) 1 ≡ Some (FreeAfter (morning 0))
at_the_hour = refl

after_the_hour : boarding_reason 3_600 (map boarded (0 ∷ 3_601 ∷ [])) 1 ≡ Some (PaysAfter (morning 0))
after_the_hour = refl

-- with a late tap 1,000 seconds before them: 07:00:00 is free by it, 07:50:00 pays, and 08:23:20 is free by that
abbrev four : List Touch
four = record { filled = false; first = 1; second = 9; stamp = record { utc = 1_704_696_200; day = 19_730; second = 24_200 }; place = 50; kind = Bus } ∷ three

second_of_four : boarding_reason 3_600 four 1 ≡ Some (FreeAfter (record { utc = 1_704_696_200; day = 19_730; second = 24_200 }))
second_of_four = refl

third_of_four : boarding_reason 3_600 four 2 ≡ Some (PaysAfter (record { utc = 1_704_696_200; day = 19_730; second = 24_200 }))
third_of_four = refl

last_of_four : boarding_reason 3_600 four 3 ≡ Some (FreeAfter (morning 3_000))
last_of_four = refl
