-- How a check of one fare file ends, by its text.
use Rattle.std.specs.Prelude.{◌≡◌, ◌≢◌, ℕ, List, [], ◌∷◌, ◌++◌, ◌==◌, if◌then◌else◌, length, Ok, Err, Option, codes, decimal, refl}
use Rattle.std.specs.Fmt.{digits}
use Rattle.std.specs.List.{join_with_byte}
use Rattle.std.specs.Io.KnownBytes.{Appends}
use Rattle.pay_tables.specs.Words.{FareEditions, counts}
use Rattle.pay_fare_file.specs.Words.{fare_text}
use Rattle.pay_tables.specs.declared.counts.Counts.{Counts}
use Rattle.pay_wire.specs.Words.{AppendsFront}
use Rattle.pay_fare_file.specs.declared.fault.FareFileFault.{FareFileFault}
use Rattle.pay_fare_file.specs.declared.fault.FareFileFault.TheVariants.{Memory}
use Rattle.pay_check.specs.declared.fault.CheckFault.{CheckFault}
use Rattle.pay_check.specs.declared.fault.CheckFault.TheVariants.{Output, Refused}

-- how many of each thing a fare file has
abbrev pub counts_words : Counts → List (List ℕ)
counts_words c = codes "OK" ∷ codes "places" ∷ decimal c.places ∷ codes "bands" ∷ decimal c.bands
    ∷ codes "interchanges" ∷ decimal c.interchanges ∷ codes "holidays" ∷ decimal c.holidays ∷ []

-- and how many editions, where it has any
abbrev pub editions_words : ℕ → List ℕ
editions_words editions = if editions == 0 then [] else codes " editions" ++ 32 ∷ decimal editions

-- the same as a line: a space between each two words, and the newline at the end
abbrev pub counts_line : Counts → ℕ → List ℕ
counts_line c editions = join_with_byte 32 (counts_words c) ++ editions_words editions ++ codes "\n"

-- the line of the fare file that a text says
abbrev pub IsCounted : List ℕ → List ℕ → Type 0
IsCounted fares line = (editions : FareEditions) × (fare_text fares ≡ Ok editions) × (line ≡ counts_line (counts editions.own) (length editions.items))

-- The job ended by itself: the line was written, and nothing else.
abbrev pub CheckEnds : List ℕ → Option (List ℕ) → Option (List ℕ) → Type 0
CheckEnds fares held written = (line : List ℕ) × IsCounted fares line × Appends held written line

-- The writer failed: of the line no more than a front was written.
abbrev pub StopsCounting : List ℕ → Option (List ℕ) → Option (List ℕ) → Type 0
StopsCounting fares held written = (line : List ℕ) × IsCounted fares line × AppendsFront held written line

-- a fare file is refused so, or memory ran out
abbrev pub IsRefusedBy : FareFileFault → List ℕ → Type 0
IsRefusedBy why fares = why ≢ Memory → fare_text fares ≡ Err why

-- a fault that is such a refusal
abbrev pub IsRefused : CheckFault → List ℕ → Type 0
IsRefused (Refused why) fares = IsRefusedBy why fares
IsRefused _ fares = ⊥

-- how the job failed, by its fault; a refused fare file writes nothing
abbrev pub CheckFails : CheckFault → List ℕ → Option (List ℕ) → Option (List ℕ) → Type 0
CheckFails (Refused why) fares held written = IsRefusedBy why fares × (written ≡ held)
CheckFails Output fares held written = StopsCounting fares held written
CheckFails _ fares held written = ⊥

-- the sample's six places, three bands, one interchange and one holiday
sample_row : counts_line (record { places = 6; bands = 3; interchanges = 1; holidays = 1 }) 0
    ≡ codes "OK places 6 bands 3 interchanges 1 holidays 1\n"
unfolding digits
sample_row = refl

-- and with one edition
row_of_two : counts_line (record { places = 6; bands = 3; interchanges = 1; holidays = 1 }) 1
    ≡ codes "OK places 6 bands 3 interchanges 1 holidays 1 editions 1\n"
unfolding digits
row_of_two = refl
