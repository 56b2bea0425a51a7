-- The fares of a day's journeys in sums.
use Rattle.std.specs.Prelude.{ℕ, List, refl}
use Rattle.std.specs.Coded.{Coded, code_by, coded×, coded_ℕ, coded_list}

pub record CellSums : Type 0 where
  -- the journeys by rail, by their spans
  pub spans : List ℕ
  -- the boardings of buses and trams
  pub buses : ℕ
  -- the maximum fares
  pub maximum : ℕ

-- sums are stored as the tuple of their parts
abbrev pub sums_code : Coded CellSums
sums_code =
    code_by (List ℕ × (ℕ × ℕ)) (coded× (coded_list coded_ℕ) (coded× coded_ℕ coded_ℕ)) (λ s. (s.spans, (s.buses, s.maximum)))
    (λ p. record { spans = p.0; buses = p.1.0; maximum = p.1.1 })
    (λ _. refl)
