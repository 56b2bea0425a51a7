-- What is printed of a day and of a place.
use Rattle.std.specs.Prelude.{ℕ, ◌||◌, nat_lt, if◌then◌else◌, List, ◌++◌, codes}
use Rattle.std.specs.Fmt.{decimal}
use Rattle.pay_dates.specs.Dates.{dated_text}
use Rattle.pay_day.specs.declared.limits.TheConstants.{FIRST_DAY, LAST_DAY}
use Rattle.pay_fare_file.specs.declared.spot.Spot.{Spot}
use Rattle.pay_fare_file.specs.declared.spot.Spot.TheVariants.{AtKey, InRules, AtItem, InItem}
use Rattle.pay_fare_file.specs.declared.spot.FaultPlace.{FaultPlace}
use Rattle.pay_fare_file.specs.declared.spot.FaultPlace.TheVariants.{Line, Own, OfEdition}
use Rattle.pay_fare_file.specs.Spots.{key_name}

-- how a service day is called: by its number, and by its date if it has one
unfoldable pub named_day : ℕ → List ℕ
named_day day = if nat_lt day FIRST_DAY || nat_lt LAST_DAY day then codes "day " ++ decimal day else dated_text day

abbrev pub spot_text : Spot → List ℕ
spot_text (AtKey key) = codes "key " ++ key_name key
spot_text (InRules key) = codes "key rules." ++ key_name key
spot_text (AtItem array number) = key_name array ++ codes " " ++ decimal number
spot_text (InItem array number key) = key_name array ++ codes " " ++ decimal number ++ codes ", key " ++ key_name key

-- what follows a fault
abbrev pub place_text : FaultPlace → List ℕ
place_text (Line line) = codes "at line " ++ decimal line
place_text (Own spot) = codes "at " ++ spot_text spot
place_text (OfEdition day spot) = codes "at the edition of " ++ named_day day ++ codes ", " ++ spot_text spot
