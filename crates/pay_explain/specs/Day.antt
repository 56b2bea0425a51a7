-- Why a day was charged, as a text.
use Rattle.std.specs.Prelude.{ℕ, List, [], ◌++◌, Option, Some, None, codes}
use Rattle.std.specs.List.{flat_map}
use Rattle.pay_names.specs.Words.{Named}
use Rattle.pay_tables.specs.Words.{FareEditions}
use Rattle.pay_rules.specs.declared.tap.Touch.{Touch}
use Rattle.pay_rules.specs.declared.journey.Journey.{Journey}
use Rattle.pay_why.specs.declared.cap.CapReason.{CapReason}
use Rattle.pay_why.specs.declared.listed.ListedJourney.{ListedJourney}
use Rattle.pay_why.specs.Words.{listed_journeys}
use Rattle.pay_explain.specs.declared.lines.Line.{Line}
use Rattle.pay_explain.specs.Lines.{line_text, line_of}
use Rattle.pay_explain.specs.Sums.{day_sums_text}

-- a line, with its newline
abbrev pub line_bytes : Named → Option Line → List ℕ
line_bytes names None = []
line_bytes names (Some line) = line_text names line ++ codes "\n"

-- the lines of journeys
abbrev pub lines_text : Named → FareEditions → List Journey → List Touch → List ListedJourney → List ℕ
lines_text names editions journeys taps list = flat_map (λ one. line_bytes names (line_of editions journeys taps one)) list

-- the lines of a day's journeys in the order of their first taps, and then those of its sums
abbrev pub day_text : Named → FareEditions → List Journey → List Touch → ℕ → CapReason → List ℕ
day_text names editions journeys taps day reason = lines_text names editions journeys taps (listed_journeys editions journeys taps day) ++ day_sums_text reason
