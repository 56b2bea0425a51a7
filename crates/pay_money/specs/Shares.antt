-- How money is divided to the penny: into equal parts, and into shares by weights.
use Rattle.std.specs.Prelude.{◌≡◌, ℕ, ◌+◌, ◌-◌, ◌*◌, ◌/◌, List, [], ◌∷◌, length, take, map, replicate, sum, refl}
use Rattle.std.specs.List.{range_with_len}

-- what of a total falls to some of a whole, in proportion, rounded down to a penny; nothing does where the whole is nothing, as what is divided by 0 is 0
abbrev pub proportion : ℕ → ℕ → ℕ → ℕ
proportion total some whole = total * some / whole

-- The part of a total at an index, from 0 on, where it is divided into so many equal parts: after each part the proportion of the total that falls to the
-- parts so far has been given, rounded down, and a part is what this grows by.
abbrev pub part : ℕ → ℕ → ℕ → ℕ
part total count index = proportion total (index + 1) count - proportion total index count

-- all parts, in order
abbrev pub parts : ℕ → ℕ → List ℕ
parts total count = map (part total count) (range_with_len 0 count)

-- The share of a total at an index, where it is divided by weights: after each share the proportion of the total that falls to the weights so far, together,
-- has been given, rounded down, and a share is what this grows by.
abbrev pub share : ℕ → List ℕ → ℕ → ℕ
share total weights index =
    proportion total (sum (take (index + 1) weights)) (sum weights) - proportion total (sum (take index weights)) (sum weights)

-- all shares, in order
abbrev pub shares : ℕ → List ℕ → List ℕ
shares total weights = map (share total weights) (range_with_len 0 (length weights))

-- ---- worked rows: parts

in_two : parts 490 2 ≡ 245 ∷ 245 ∷ []
in_two = refl

-- after the first 2.33 of the 7 pence, after the second 4.67
in_three : parts 7 3 ≡ 2 ∷ 2 ∷ 3 ∷ []
in_three = refl

in_one : parts 370 1 ≡ 370 ∷ []
in_one = refl

nothing_in_two : parts 0 2 ≡ 0 ∷ 0 ∷ []
nothing_in_two = refl

a_penny_in_three : parts 1 3 ≡ 0 ∷ 0 ∷ 1 ∷ []
a_penny_in_three = refl

-- ---- worked rows: shares

-- 890 * 680 / 1020 is 593.3
of_two : shares 890 (680 ∷ 340 ∷ []) ≡ 593 ∷ 297 ∷ []
of_two = refl

-- 1050 * 680 / 1200 is 595, and 1050 * 1020 / 1200 is 892.5
of_three : shares 1050 (680 ∷ 340 ∷ 180 ∷ []) ≡ 595 ∷ 297 ∷ 158 ∷ []
of_three = refl

of_sixteen : shares 1050 (680 ∷ 340 ∷ 180 ∷ replicate 13 0) ≡ 595 ∷ 297 ∷ 158 ∷ replicate 13 0
of_sixteen = refl

-- a weight of 0 in between, or before the others, has no share
of_none_between : shares 890 (0 ∷ 680 ∷ 0 ∷ 340 ∷ []) ≡ 0 ∷ 593 ∷ 0 ∷ 297 ∷ []
of_none_between = refl

all_that_there_is : shares 1020 (680 ∷ 340 ∷ []) ≡ 680 ∷ 340 ∷ []
all_that_there_is = refl

of_nothing : shares 0 (680 ∷ 340 ∷ []) ≡ 0 ∷ 0 ∷ []
of_nothing = refl

by_no_weight : shares 0 (0 ∷ 0 ∷ []) ≡ 0 ∷ 0 ∷ []
by_no_weight = refl
