-- What a keeper holds of what its writer has, and how that may have failed.
use Rattle.std.specs.Prelude.{◌≡◌, ◌⊎◌, ℕ, List, [], ◌∷◌, take, Option, Some, None, ⊤, refl}
use Rattle.std.specs.Option.{option_map}
use Rattle.std.specs.declared.io.ErrorKind.{ErrorKind}
use Rattle.pay_wire.specs.Words.{WriterCall, HasFault}

-- known bytes were cut to so many
abbrev pub IsCutTo : ℕ → Option (List ℕ) → Option (List ℕ) → Type 0
IsCutTo len None new = ⊤
IsCutTo len (Some xs) None = ⊥
IsCutTo len (Some xs) (Some ys) = ys ≡ take len xs

-- of what a file has, all; or as much as it is to be cut to
abbrev pub held : Option ℕ → Option (List ℕ) → Option (List ℕ)
held None known = known
held (Some whole) known = option_map (take whole) known

-- with what a writer may answer to calls of one kind: such a call failed last
abbrev pub HasFailedBy : {W : Type 0} → (W → Option ErrorKind → W → Type 0) → W → Type 0
HasFailedBy {W = W} Answers now = (before : W) × (kind : ErrorKind) × Answers before (Some kind) now

-- With what a writer may answer to a write or a flush, where it is settled, and where it is cut: a call of one of these kinds failed last.
abbrev pub HasFailed : {W : Type 0} → (W → WriterCall → W → Type 0) → (W → Option ErrorKind → W → Type 0) → (W → Option ErrorKind → W → Type 0) → W → Type 0
HasFailed MayAnswer Settles Cuts now = HasFault MayAnswer now ⊎ (HasFailedBy Settles now ⊎ HasFailedBy Cuts now)

-- it was settled last
abbrev pub IsSettled : {W : Type 0} → (W → Option ErrorKind → W → Type 0) → W → Type 0
IsSettled {W = W} Settles now = (before : W) × Settles before None now

-- ---- worked rows

-- two bytes of three
two_of_three : IsCutTo 2 (Some (5 ∷ 6 ∷ 7 ∷ [])) (Some (5 ∷ 6 ∷ []))
two_of_three = refl

-- so many as there are, or more, change nothing
all_of_two : IsCutTo 9 (Some (5 ∷ 6 ∷ [])) (Some (5 ∷ 6 ∷ []))
all_of_two = refl

-- of three bytes two count
two_count : held (Some 2) (Some (5 ∷ 6 ∷ 7 ∷ [])) ≡ Some (5 ∷ 6 ∷ [])
two_count = refl

-- all of what was cut counts
all_count : held None (Some (5 ∷ 6 ∷ [])) ≡ Some (5 ∷ 6 ∷ [])
all_count = refl
