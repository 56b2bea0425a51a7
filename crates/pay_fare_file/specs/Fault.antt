-- The refusals of a fare file, and what it is to answer by a definition.
use Rattle.std.specs.Prelude.{◌≡◌, ◌≢◌, ℕ, List, codes, Result, Ok, Err, MatchResult}
use Rattle.pay_fare_file.specs.declared.fault.FareFileFault.{FareFileFault}
use Rattle.pay_fare_file.specs.declared.fault.FareFileFault.TheVariants.{NotToml, MissingKey, WrongType, OutOfRange, Duplicate, UnknownPlace, TooMany, HopperDiffers, Memory}

-- the number that is printed for a refusal
abbrev pub fault_number : FareFileFault → ℕ
fault_number NotToml = 10
fault_number MissingKey = 11
fault_number WrongType = 12
fault_number OutOfRange = 13
fault_number Duplicate = 14
fault_number UnknownPlace = 15
fault_number TooMany = 16
fault_number HopperDiffers = 17
fault_number Memory = 90

-- the name that is printed for a refusal
abbrev pub fault_name : FareFileFault → List ℕ
fault_name NotToml = codes "NotToml"
fault_name MissingKey = codes "MissingKey"
fault_name WrongType = codes "WrongType"
fault_name OutOfRange = codes "OutOfRange"
fault_name Duplicate = codes "Duplicate"
fault_name UnknownPlace = codes "UnknownPlace"
fault_name TooMany = codes "TooMany"
fault_name HopperDiffers = codes "HopperDiffers"
fault_name Memory = codes "Memory"

infixl 10 ◌>>=◌
-- what follows a step, unless that step found a fault
abbrev pub ◌>>=◌ : {A B E : Type 0} → Result A E → (A → Result B E) → Result B E
(Ok x) >>= f = f x
(Err e) >>= f = Err e

-- the answer, as view sees it, is what the definition gives
abbrev pub Gives : {X Y E : Type 0} → (X → Y) → Result X E → Result Y E → Type 0
Gives view answer given = MatchResult answer (λ x. given ≡ Ok (view x)) (λ fault. given ≡ Err fault)

-- the same, or memory ran out
abbrev pub GivesUnlessMemory : {X Y : Type 0} → (X → Y) → Result X FareFileFault → Result Y FareFileFault → Type 0
GivesUnlessMemory view answer given = MatchResult answer (λ x. given ≡ Ok (view x)) (λ fault. fault ≢ Memory → given ≡ Err fault)
