-- What is so of each text that names a day.
use Rattle.std.specs.Prelude.{◌≡◌, ◌≢◌, ℕ, List, Some, slice_index}
use Rattle.pay_day.specs.Words.{IsDay}
use Rattle.pay_dates.specs.Reading.{day_of_text}

-- the day is a service day
abbrev pub AreServiceDays : Type 0
AreServiceDays = (text : List ℕ) (day : ℕ) → day_of_text text ≡ Some day → IsDay day

-- the text does not begin with a hyphen, byte 45
abbrev pub BeginWithNoHyphen : Type 0
BeginWithNoHyphen = (text : List ℕ) (day : ℕ) → day_of_text text ≡ Some day → slice_index text 0 ≢ 45
