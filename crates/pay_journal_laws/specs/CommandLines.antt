-- Commands as lines of a text, and what is read of it, whole or cut.
use Rattle.std.specs.Prelude.{◌≡◌, ℕ, ◌≤◌, ◌<◌, List, [], ◌∷◌, ◌++◌, map, length, take, codes, refl}
use Rattle.std.specs.List.{AllByRecursion, flat_map}
use Rattle.pay_rules.specs.declared.tap.Kind.TheVariants.{Bus}
use Rattle.pay_wire.specs.declared.command.SpelledCommand.{SpelledCommand}
use Rattle.pay_wire.specs.declared.command.SpelledCommand.TheVariants.{Tap, Quit}
use Rattle.pay_wire.specs.Spellings.{IsSpelled, spelling_of_command}
use Rattle.pay_wire.specs.Commands.{tap_of}
use Rattle.pay_session.specs.Requests.{line_requests, request_of, rest_of}
use Rattle.pay_session.specs.declared.request.Request.TheVariants as requests

-- commands, each as its line, which a newline ends
abbrev pub lines_of : List SpelledCommand → List ℕ
lines_of = flat_map (λ (c : SpelledCommand). spelling_of_command c ++ codes "\n")

-- The text of some commands, of which so many bytes are left, has so many whole lines: just their commands are read, and after
-- them stands a rest.
pub record HasWholeLines (commands : List SpelledCommand) (bytes whole : ℕ) : Type 0 where
  pub read : line_requests (take bytes (lines_of commands)) ≡ map requests.Command (take whole commands)
  pub parts : take bytes (lines_of commands) ≡ lines_of (take whole commands) ++ rest_of (take bytes (lines_of commands))
  pub some : whole ≤ length commands
  pub within : length (lines_of (take whole commands)) ≤ bytes
  pub most : (n : ℕ) → n ≤ length commands → length (lines_of (take n commands)) ≤ bytes → n ≤ whole

-- ---- laws

-- lines that were written are read back, and nothing is left over
abbrev pub LinesAreReadBack : Type 0
LinesAreReadBack = (commands : List SpelledCommand) → AllByRecursion IsSpelled commands
    → (line_requests (lines_of commands) ≡ map requests.Command commands) × (rest_of (lines_of commands) ≡ [])

-- wherever the text is cut, the lines before the cut are read, and nothing else
abbrev pub CutLinesAreRead : Type 0
CutLinesAreRead = (commands : List SpelledCommand) → AllByRecursion IsSpelled commands → (bytes : ℕ) → (whole : ℕ) × HasWholeLines commands bytes whole

-- a text that is cut within its last line loses that line alone
abbrev pub OneLineIsLost : Type 0
OneLineIsLost = (commands : List SpelledCommand) (last : SpelledCommand) → AllByRecursion IsSpelled (commands ++ last ∷ []) → (bytes : ℕ)
    → length (lines_of commands) ≤ bytes → bytes < length (lines_of (commands ++ last ∷ []))
    → line_requests (take bytes (lines_of (commands ++ last ∷ []))) ≡ map requests.Command commands

-- ---- worked rows

-- each command has a line
two_lines : lines_of (Quit ∷ Quit ∷ []) ≡ codes "QUIT\nQUIT\n"
two_lines = refl

-- a line that was cut is none, though what is left of it may spell another command
cut_day : line_requests (codes "QUIT\nDUE 7 1973") ≡ requests.Command Quit ∷ []
unfolding request_of
cut_day = refl

-- nor is one of which the newline alone is missing
tap_read : line_requests (codes "TAP 1 1 7 1704697200 50 BUS\n") ≡ requests.Command (Tap (record { reader = 1; seq = 1; account = 7; utc = 1_704_697_200; place = 50; kind = Bus })) ∷ []
unfolding request_of tap_of
tap_read = refl

newline_missing : line_requests (take 27 (codes "TAP 1 1 7 1704697200 50 BUS\n")) ≡ []
newline_missing = refl
