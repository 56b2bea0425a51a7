-- What a book is in a contract.
use Rattle.std.specs.Prelude.{ℕ, Bool, List, refl}
use Rattle.std.specs.Coded.{Coded, code_by, coded×, coded_ℕ, coded_bool, coded_list}
use Rattle.pay_rules.specs.contracts.tap.Touch as touch
use Rattle.pay_rules.specs.declared.tap.Touch.{Touch}
use Rattle.pay_caps.specs.CellSums.{CellSums, sums_code}
use Rattle.pay_rules.specs.Accepted.{Accepted, accepted_code}

pub record BookParts : Type 0 where
  -- whose it is
  pub account : ℕ
  -- its accepted taps and corrections
  pub accepted : Accepted
  -- its effective taps by rail in order, and beside each whether a journey starts there
  pub rail : List Touch
  pub starts : List Bool
  -- its effective taps on buses in order, and beside each whether it pays
  pub buses : List Touch
  pub pays : List Bool
  -- the sums of fares of the days that are kept
  pub days : List (ℕ × CellSums)
  -- how many taps the last tap or correction read
  pub steps : ℕ

-- what is kept beside number and accepted sets, as the tuple of its parts
abbrev Rest : Type 0
Rest = List Touch × (List Bool × (List Touch × (List Bool × (List (ℕ × CellSums) × ℕ))))

abbrev rest_code : Coded Rest
rest_code =
    coded× (coded_list touch.the_row.coded) (coded× (coded_list coded_bool) (coded× (coded_list touch.the_row.coded) (coded× (coded_list coded_bool) (coded× (coded_list (coded× coded_ℕ sums_code)) coded_ℕ))))

-- books are stored as the tuple of their parts
abbrev pub book_code : Coded BookParts
book_code =
    code_by (ℕ × (Accepted × Rest)) (coded× coded_ℕ (coded× accepted_code rest_code))
    (λ b. (b.account, (b.accepted, (b.rail, (b.starts, (b.buses, (b.pays, (b.days, b.steps))))))))
    (λ p. record {
      account = p.0;
      accepted = p.1.0;
      rail = p.1.1.0;
      starts = p.1.1.1.0;
      buses = p.1.1.1.1.0;
      pays = p.1.1.1.1.1.0;
      days = p.1.1.1.1.1.1.0;
      steps = p.1.1.1.1.1.1.1;
    })
    (λ _. refl)
