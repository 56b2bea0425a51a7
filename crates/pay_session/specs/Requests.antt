-- What the input asks for: its lines in order, up to the first QUIT.
use Rattle.std.specs.Prelude.{◌≡◌, ℕ, ◌+◌, Bool, true, false, nat_lt, ◌==◌, List, [], ◌∷◌, ◌++◌, map, length, take, codes, Option, Some, None, if◌then◌else◌, refl}
use Rattle.std.specs.List.{AllByRecursion, flat_map, list_any}
use Rattle.pay_wire.specs.declared.limits.TheConstants.{MOST_LINE_BYTES}
use Rattle.pay_wire.specs.Words.{command_of, IsSpelled, Spells}
use Rattle.pay_wire.specs.declared.command.SpelledCommand.{SpelledCommand}
use Rattle.pay_wire.specs.declared.command.SpelledCommand.TheVariants.{Quit}
use Rattle.pay_session.specs.declared.request.Request.{Request}
use Rattle.pay_session.specs.declared.request.Request.TheVariants as requests

-- a line of the input, without its newline, and the bytes after that newline
pub record InputLine : Type 0 where
  pub text : List ℕ
  pub after : List ℕ

-- the first line with a byte more at its front
abbrev pub onto_first : ℕ → List InputLine → List InputLine
onto_first b [] = []
onto_first b (l ∷ ls) = record { text = b ∷ l.text; after = l.after } ∷ ls

-- the lines of the input, which newlines end
abbrev pub input_lines : List ℕ → List InputLine
input_lines [] = []
input_lines (b ∷ bs) = if b == 10 then record { text = []; after = bs } ∷ input_lines bs else onto_first b (input_lines bs)

-- whether a newline, byte 10, is there
abbrev pub has_newline : List ℕ → Bool
has_newline = list_any (λ b. b == 10)

-- the bytes after the last newline
abbrev pub rest_of : List ℕ → List ℕ
rest_of [] = []
rest_of (b ∷ bs) = if has_newline (b ∷ bs) then rest_of bs else b ∷ bs

-- a line that spells a command asks for it
abbrev pub asked : Option SpelledCommand → Request
asked (Some c) = requests.Command c
asked None = requests.BadLine

-- a line of more bytes than a line may have is too long, whatever it says
unfoldable pub request_of : List ℕ → Request
request_of line = if nat_lt MOST_LINE_BYTES (length line) then requests.LongLine else asked (command_of line)

-- what is kept of a line that is not whole yet: one byte more than a line may have, so that a line which is too long shows
abbrev pub kept_of : List ℕ → List ℕ
kept_of line = take (MOST_LINE_BYTES + 1) line

-- what no newline ends is no command: a number that is cut could be another number
abbrev pub request_of_rest : List ℕ → List Request
request_of_rest [] = []
request_of_rest (b ∷ bs) = (if nat_lt MOST_LINE_BYTES (length (b ∷ bs)) then requests.LongLine else requests.BadLine) ∷ []

-- whether a command ends the session
abbrev pub asks_to_quit : SpelledCommand → Bool
asks_to_quit Quit = true
asks_to_quit _ = false

-- whether a request is that command
abbrev pub is_quit : Request → Bool
is_quit (requests.Command c) = asks_to_quit c
is_quit _ = false

-- nothing after the first QUIT counts
abbrev pub through_quit : List Request → List Request
through_quit [] = []
through_quit (r ∷ rs) = if is_quit r then r ∷ [] else r ∷ through_quit rs

-- the numbers of what is asked are in their ranges
abbrev pub IsAsked : Request → Type 0
IsAsked (requests.Command c) = IsSpelled c
IsAsked _ = Unit {0}

-- what the lines ask for
abbrev pub line_requests : List ℕ → List Request
line_requests input = map (λ (l : InputLine). request_of l.text) (input_lines input)

-- what the input asks for
abbrev pub requests_of : List ℕ → List Request
requests_of input = through_quit (line_requests input ++ request_of_rest (rest_of input))

-- whether a line of the input ends the session
abbrev pub quits : List ℕ → Bool
quits input = list_any is_quit (line_requests input)

-- the bytes after the first line that asks to quit, or none
abbrev pub after_quit : List InputLine → List ℕ
after_quit [] = []
after_quit (l ∷ ls) = if is_quit (request_of l.text) then l.after else after_quit ls

-- what is left unread
abbrev pub unread : List ℕ → List ℕ
unread input = after_quit (input_lines input)

-- ---- what is so of every input

-- no other lines and no other rest than its own make up an input
abbrev pub HasOneCutting : Type 0
HasOneCutting = (input rest : List ℕ) (texts : List (List ℕ)) → AllByRecursion (λ (t : List ℕ). has_newline t ≡ false) texts → has_newline rest ≡ false
    → input ≡ flat_map (λ (t : List ℕ). t ++ codes "\n") texts ++ rest → (map (λ (l : InputLine). l.text) (input_lines input) ≡ texts) × (rest_of input ≡ rest)

-- How each text is read: line by line, up to the rest.
pub record IsReadByLine : Type 0 where
  -- the first line, and then what stands after its newline
  pub line : (text more : List ℕ) → has_newline text ≡ false → line_requests (text ++ 10 ∷ more) ≡ request_of text ∷ line_requests more
  pub rest : (text more : List ℕ) → rest_of (text ++ 10 ∷ more) ≡ rest_of more
  -- a text without a newline has no line, and is all rest
  pub no_line : (text : List ℕ) → has_newline text ≡ false → line_requests text ≡ []
  pub all_rest : (text : List ℕ) → has_newline text ≡ false → rest_of text ≡ text

-- a line that is the spelling of no command
abbrev pub SpellsNothing : List ℕ → Type 0
SpellsNothing line = (command : SpelledCommand) → Spells line command → ⊥

-- ---- worked rows

-- each line stands with what comes after it, and what no newline ends is the rest
two_lines : input_lines (codes "A\nBC\nD") ≡ record { text = codes "A"; after = codes "BC\nD" } ∷ record { text = codes "BC"; after = codes "D" } ∷ []
two_lines = refl

the_rest : rest_of (codes "A\nBC\nD") ≡ codes "D"
the_rest = refl

-- an empty line is a bad line, and no bytes at the end are none
empty_line : requests_of (codes "\n") ≡ requests.BadLine ∷ []
unfolding request_of
empty_line = refl

-- a carriage return is a byte like any other: such a QUIT is a bad line
quit_with_return : requests_of (codes "QUIT\r\n") ≡ requests.BadLine ∷ []
unfolding request_of
quit_with_return = refl

-- nothing counts after the first QUIT, and it stays unread
first_quit : requests_of (codes "A\nQUIT\nQUIT\nA") ≡ requests.BadLine ∷ requests.Command Quit ∷ []
unfolding request_of
first_quit = refl

later_quit : unread (codes "A\nQUIT\nQUIT\nA") ≡ codes "QUIT\nA"
unfolding request_of
later_quit = refl

-- a rest is a bad line whatever it says, and so no QUIT
cut_quit : requests_of (codes "A\nQUIT") ≡ requests.BadLine ∷ requests.BadLine ∷ []
unfolding request_of
cut_quit = refl

cut_quit_goes_on : quits (codes "A\nQUIT") ≡ false
unfolding request_of
cut_quit_goes_on = refl
