-- What is so of every text of metrics.
use Rattle.std.specs.Prelude.{◌≡◌, ℕ, List, [], ◌∷◌, ◌++◌, Some}
use Rattle.pay_metrics.specs.Metrics.{metrics_text}

-- its last line ends with a newline, 10
abbrev pub EndsItsLine : List ℕ → Type 0
EndsItsLine text = (front : List ℕ) × (text ≡ front ++ 10 ∷ [])

-- so does each text's, as the format has it
abbrev pub LinesAreWhole : Type 0
LinesAreWhole = (line text : List ℕ) → metrics_text line ≡ Some text → EndsItsLine text
