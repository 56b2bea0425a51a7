-- The places of a fare file, and a step of its reading with the place of its fault.
use Rattle.std.specs.Prelude.{◌≡◌, ◌≢◌, ℕ, List, Result, Ok, Err, MatchResult, codes}
use Rattle.toml.specs.Data.{Items, Members}
use Rattle.pay_fare_file.specs.declared.fault.FareFileFault.{FareFileFault}
use Rattle.pay_fare_file.specs.declared.fault.FareFileFault.TheVariants as fault
use Rattle.pay_fare_file.specs.declared.key.Key.{Key}
use Rattle.pay_fare_file.specs.declared.key.Key.TheVariants as key
use Rattle.pay_fare_file.specs.declared.misread.Misread.{Misread}
use Rattle.pay_fare_file.specs.declared.misread.Misread.TheVariants.{Memory, At}
use Rattle.pay_fare_file.specs.declared.spot.Spot.{Spot}
use Rattle.pay_fare_file.specs.declared.spot.Spot.TheVariants.{AtKey, InRules, AtItem, InItem}
use Rattle.pay_fare_file.specs.Keys.{integer_at, table_at, array_at, items_at}

-- a key as it stands in a file
abbrev pub key_name : Key → List ℕ
key_name key.Zones = codes "zones"
key_name key.Minutes = codes "minutes"
key_name key.Rules = codes "rules"
key_name key.Bus = codes "bus"
key_name key.Maximum = codes "maximum"
key_name key.Hopper = codes "hopper"
key_name key.SameFree = codes "same_free"
key_name key.SameLimit = codes "same_limit"
key_name key.Single = codes "single"
key_name key.From = codes "from"
key_name key.To = codes "to"
key_name key.Peak = codes "peak"
key_name key.Off = codes "off"
key_name key.Band = codes "band"
key_name key.Day = codes "day"
key_name key.Week = codes "week"
key_name key.Holidays = codes "holidays"
key_name key.Station = codes "station"
key_name key.Place = codes "place"
key_name key.Low = codes "low"
key_name key.High = codes "high"
key_name key.Operator = codes "operator"
key_name key.Route = codes "route"
key_name key.Interchange = codes "interchange"
key_name key.A = codes "a"
key_name key.B = codes "b"
key_name key.Seconds = codes "seconds"
key_name key.Edition = codes "edition"

-- the key that is read at a place
abbrev pub spot_key : Spot → Key
spot_key (AtKey k) = k
spot_key (InRules k) = k
spot_key (AtItem array number) = array
spot_key (InItem array number k) = k

-- what a step found, its fault with its place
abbrev pub told : {X P : Type 0} → P → Result X FareFileFault → Result X (Misread P)
told place (Ok x) = Ok x
told place (Err fault) = Err (At place fault)

-- the fault without its place, and what was found without the places of faults
abbrev pub fault_of : {P : Type 0} → Misread P → FareFileFault
fault_of Memory = fault.Memory
fault_of (At place fault) = fault

abbrev pub untold : {X P : Type 0} → Result X (Misread P) → Result X FareFileFault
untold (Ok x) = Ok x
untold (Err misread) = Err (fault_of misread)

-- a fault with its place as seen from without
abbrev pub put : {P Q : Type 0} → (P → Q) → Misread P → Misread Q
put where_to Memory = Memory
put where_to (At place fault) = At (where_to place) fault

abbrev pub put_in : {X P Q : Type 0} → (P → Q) → Result X (Misread P) → Result X (Misread Q)
put_in where_to (Ok x) = Ok x
put_in where_to (Err misread) = Err (put where_to misread)

-- what stands at the key of a place
abbrev pub integer_told : Spot → ℕ → ℕ → Members → Result ℕ (Misread Spot)
integer_told spot least most ms = told spot (integer_at (key_name (spot_key spot)) least most ms)

abbrev pub table_told : Spot → Members → Result Members (Misread Spot)
table_told spot ms = told spot (table_at (key_name (spot_key spot)) ms)

abbrev pub array_told : Spot → Members → Result Items (Misread Spot)
array_told spot ms = told spot (array_at (key_name (spot_key spot)) ms)

abbrev pub items_told : Spot → ℕ → Members → Result Items (Misread Spot)
items_told spot most ms = told spot (items_at (key_name (spot_key spot)) most ms)

-- the answer, as view sees it, is what the definition gives with its places, or memory ran out
abbrev pub TellsUnlessMemory : {X Y P : Type 0} → (X → Y) → Result X (Misread P) → Result Y (Misread P) → Type 0
TellsUnlessMemory view answer given = MatchResult answer (λ x. given ≡ Ok (view x)) (λ misread. misread ≢ Memory → given ≡ Err misread)
