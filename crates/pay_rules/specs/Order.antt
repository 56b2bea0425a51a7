-- Effective taps, and their order.
use Rattle.std.specs.Prelude.{◌≡◌, ℕ, ◌==◌, ◌&&◌, Bool, true, false, if◌then◌else◌, List, [], ◌∷◌, IsSorted, refl}
use Rattle.std.specs.declared.cmp.Ordering.{Ordering}
use Rattle.std.specs.Ordering.{nat_cmp, bool_cmp, ordering_then, is_lt}
use Rattle.std.specs.Bool.{beq}
use Rattle.std.specs.List.{IsDistinct}
use Rattle.pay_rules.specs.declared.tap.Kind.TheVariants.{Bus}
use Rattle.pay_rules.specs.declared.tap.Tap.{Tap}
use Rattle.pay_rules.specs.declared.tap.Touch.{Touch}

-- an accepted tap is effective under its own number
abbrev pub touch_of : Tap → Touch
touch_of tap = record { filled = false; first = tap.reader; second = tap.seq; stamp = tap.stamp; place = tap.place; kind = tap.kind }

-- by instant, accepted before filled, and then by number
abbrev pub touch_cmp : Touch → Touch → Ordering
touch_cmp a b = ordering_then (ordering_then (ordering_then (nat_cmp a.stamp.utc b.stamp.utc) (bool_cmp a.filled b.filled)) (nat_cmp a.first b.first)) (nat_cmp a.second b.second)

-- whether a comes before b
abbrev pub comes_before : Touch → Touch → Bool
comes_before a b = is_lt (touch_cmp a b)

-- what has a touch is ordered by it
abbrev pub cmp_by : {X : Type 0} → (X → Touch) → X → X → Ordering
cmp_by touch a b = touch_cmp (touch a) (touch b)

-- what has a touch among its like in order: before the first that it does not come after
abbrev pub put_in_by : {X : Type 0} → (X → Touch) → X → List X → List X
put_in_by touch x [] = x ∷ []
put_in_by touch x (other ∷ others) = if comes_before (touch other) (touch x) then other ∷ put_in_by touch x others else x ∷ other ∷ others

-- all that has a touch in order of the touches; what ties stays as it stands
abbrev pub in_order_by : {X : Type 0} → (X → Touch) → List X → List X
in_order_by touch [] = []
in_order_by touch (x ∷ others) = put_in_by touch x (in_order_by touch others)

-- touches in order
abbrev pub put_in : Touch → List Touch → List Touch
put_in = put_in_by (λ touch. touch)

abbrev pub in_order : List Touch → List Touch
in_order = in_order_by (λ touch. touch)

-- no touch comes before the one that stands before it
abbrev pub IsInOrder : List Touch → Type 0
IsInOrder = IsSorted touch_cmp

-- whether two touches have one number
abbrev pub same_number : Touch → Touch → Bool
same_number a b = beq a.filled b.filled && a.first == b.first && a.second == b.second

-- no two touches have one number
abbrev pub HaveOwnNumbers : List Touch → Type 0
HaveOwnNumbers = IsDistinct same_number

-- ---- worked rows: bus taps about 07:00 on 2024-01-08

accepted_at : ℕ → ℕ → ℕ → Touch
accepted_at utc reader seq = record { filled = false; first = reader; second = seq; stamp = record { utc = utc; day = 19730; second = 25_200 }; place = 50; kind = Bus }

filled_at : ℕ → ℕ → ℕ → Touch
filled_at utc staff seq = record { filled = true; first = staff; second = seq; stamp = record { utc = utc; day = 19730; second = 25_200 }; place = 50; kind = Bus }

-- the earlier tap comes first, though its number is higher
late_tap : in_order (accepted_at 1_704_697_200 1 1 ∷ accepted_at 1_704_696_200 1 4 ∷ []) ≡ accepted_at 1_704_696_200 1 4 ∷ accepted_at 1_704_697_200 1 1 ∷ []
unfolding accepted_at
late_tap = refl

-- in one second an accepted tap comes before a filled one, though its number is higher
accepted_first : in_order (filled_at 1_704_697_200 1 1 ∷ accepted_at 1_704_697_200 9 9 ∷ []) ≡ accepted_at 1_704_697_200 9 9 ∷ filled_at 1_704_697_200 1 1 ∷ []
unfolding accepted_at filled_at
accepted_first = refl

-- and the lower reader comes first, though its seq is higher
lower_reader_first : in_order (accepted_at 1_704_697_200 2 1 ∷ accepted_at 1_704_697_200 1 5 ∷ []) ≡ accepted_at 1_704_697_200 1 5 ∷ accepted_at 1_704_697_200 2 1 ∷ []
unfolding accepted_at
lower_reader_first = refl

-- of one reader the lower seq comes first
lower_seq_first : in_order (filled_at 1_704_697_200 3 7 ∷ filled_at 1_704_697_200 3 6 ∷ []) ≡ filled_at 1_704_697_200 3 6 ∷ filled_at 1_704_697_200 3 7 ∷ []
unfolding filled_at
lower_seq_first = refl

-- a later filled tap comes after all of them, and an earlier one before
five_touches : in_order (filled_at 1_704_697_201 1 1 ∷ accepted_at 1_704_697_200 2 1 ∷ filled_at 1_704_697_199 9 9 ∷ accepted_at 1_704_697_200 1 5 ∷ filled_at 1_704_697_200 1 1 ∷ [])
    ≡ filled_at 1_704_697_199 9 9 ∷ accepted_at 1_704_697_200 1 5 ∷ accepted_at 1_704_697_200 2 1 ∷ filled_at 1_704_697_200 1 1 ∷ filled_at 1_704_697_201 1 1 ∷ []
unfolding accepted_at filled_at
five_touches = refl
