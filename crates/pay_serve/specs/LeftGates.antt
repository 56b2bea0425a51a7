-- What gates a service leaves.
use Rattle.std.specs.Prelude.{◌≡◌, ◌⊎◌, ℕ, Bool, List, [], All, map, Option, Result, Ok, Err, ⊤}
use Rattle.pay_serve.specs.KeepingGates.{GateParts}
use Rattle.pay_serve.specs.Kept.{HasKeptNone}
use Rattle.pay_serve.specs.declared.fault.ServeFault.{ServeFault}
use Rattle.pay_serve.specs.declared.fault.ServeFault.TheVariants.{CannotListen, Count, NoThread, Memory, Journal, JournalLine, Output}

-- these are the gates of all keepers, by what each keeper held first
abbrev pub AreAllGates : List (Option (List ℕ)) → List GateParts → Type 0
AreAllGates held gates = map (λ (g : GateParts). g.held_first) gates ≡ held

-- No lane was served: no office began, and no gate is left, or all gates are. None of them has kept a line.
abbrev pub AreUnserved : List (Option (List ℕ)) → List GateParts → Type 0
AreUnserved held gates = ((gates ≡ []) ⊎ AreAllGates held gates) × All HasKeptNone gates

-- What gates a service leaves, by what it comes to. A fault of a line of a journal, or of the start, comes before any lane is served.
abbrev pub IsLeftIn : List (Option (List ℕ)) → List GateParts → Result Bool ServeFault → Type 0
IsLeftIn held gates (Ok closed) = AreAllGates held gates
IsLeftIn held gates (Err CannotListen) = ⊤
IsLeftIn held gates (Err Count) = AreUnserved held gates
IsLeftIn held gates (Err NoThread) = AreUnserved held gates
IsLeftIn held gates (Err Memory) = AreUnserved held gates
IsLeftIn held gates (Err (JournalLine journal line why)) = AreAllGates held gates × All HasKeptNone gates
IsLeftIn held gates (Err Journal) = AreAllGates held gates
IsLeftIn held gates (Err Output) = AreAllGates held gates
