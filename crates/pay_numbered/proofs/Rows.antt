-- Worked rows: a few things with numbers, as a list that is kept.
use Rattle.std.proofs.Common.{◌≡◌, ℕ, [], ◌∷◌, Ok, Err, refl, arith}
use Rattle.pay_numbered.specs.Sound.{numbered, IsRising, IsSought}

-- a thing that has a number, and beside it only a weight
record Thing : Type 0 where
  pub number : ℕ × ℕ
  pub weight : ℕ

abbrev thing : ℕ → ℕ → ℕ → Thing
thing first second weight = record { number = (first, second); weight = weight }

abbrev number : Thing → ℕ × ℕ
number x = x.number

at_their_numbers : numbered number (thing 1 4 20 ∷ thing 2 0 30 ∷ []) ≡ ((1, 4), thing 1 4 20) ∷ ((2, 0), thing 2 0 30) ∷ []
at_their_numbers = refl

rising : IsRising number (thing 1 4 20 ∷ thing 2 0 30 ∷ [])
rising = tt

-- ---- what a search finds

second_sought : IsSought number (2, 0) (thing 1 4 20 ∷ thing 2 0 30 ∷ []) (Ok (1, thing 2 0 30))
second_sought = ((λ d. refl), omega arith, refl)

-- it would stand after what there is
none_sought : IsSought number (1, 5) (thing 1 4 20 ∷ []) (Err 1)
none_sought = ((λ rises. ((λ k d low lt. let first : k ≡ 0 = omega arith in rw first refl), (λ k d low lt. absurd (omega arith)))), omega arith)
