-- The lines of one account among those of a journal.
use Rattle.std.specs.Prelude.{◌≡◌, ℕ, ◌+◌, ◌-◌, ◌==◌, Bool, false, if◌then◌else◌, List, [], ◌∷◌, ◌++◌, filter, codes, Option, Some, None, refl}
use Rattle.std.specs.List.{flat_map}
use Rattle.pay_wire.specs.Commands.{tap_of, fix_of, named_of, account_day_of}
use Rattle.pay_wire.specs.declared.command.SpelledCommand.{SpelledCommand}
use Rattle.pay_wire.specs.declared.command.SpelledCommand.TheVariants.{Tap, Fix}
use Rattle.pay_session.specs.Requests.{InputLine, input_lines, line_requests, request_of}
use Rattle.pay_session.specs.declared.request.Request.{Request}
use Rattle.pay_session.specs.declared.request.Request.TheVariants as requests

-- whose tap or correction a command is
abbrev pub account_of_command : SpelledCommand → Option ℕ
account_of_command (Tap line) = Some line.account
account_of_command (Fix line) = Some line.account
account_of_command _ = None

-- and a request: a journal has no others
abbrev pub account_of : Request → Option ℕ
account_of (requests.Command command) = account_of_command command
account_of _ = None

abbrev pub is_same : ℕ → Option ℕ → Bool
is_same account (Some other) = other == account
is_same account None = false

-- whether a request is a tap or a correction of this account
abbrev pub is_own : ℕ → Request → Bool
is_own account request = is_same account (account_of request)

-- a line as it stands in a journal
abbrev pub line_text : InputLine → List ℕ
line_text line = line.text ++ 10 ∷ []

-- the lines of a text that are this account's, in their order
abbrev pub own_lines : ℕ → List ℕ → List ℕ
own_lines account text = flat_map line_text (filter (λ (line : InputLine). is_own account (request_of line.text)) (input_lines text))

-- how many requests there are up to the one that is the account's own of this number, with it: all, where it has fewer
abbrev pub lines_through : ℕ → ℕ → List Request → ℕ
lines_through account own [] = 0
lines_through account own (r ∷ rs) = if own == 0 then 0 else 1 + lines_through account (if is_own account r then own - 1 else own) rs

-- ---- worked rows

-- each of the account's lines, taps and corrections, in their order, and not what no newline ends
lines_of_7 : own_lines 7 (codes "TAP 1 1 7 0 2 IN\nTAP 1 2 8 0 2 IN\nFIX 1 1 7 VOID 1 1\nTAP 1 3 7 0 2 IN") ≡ codes "TAP 1 1 7 0 2 IN\nFIX 1 1 7 VOID 1 1\n"
unfolding request_of tap_of fix_of named_of
lines_of_7 = refl

lines_of_8 : own_lines 8 (codes "TAP 1 1 7 0 2 IN\nTAP 1 2 8 0 2 IN\n") ≡ codes "TAP 1 2 8 0 2 IN\n"
unfolding request_of tap_of
lines_of_8 = refl

-- a question is no account's line
question : own_lines 7 (codes "SHOW 7 19730\nTAP 1 1 7 0 2 IN\n") ≡ codes "TAP 1 1 7 0 2 IN\n"
unfolding request_of tap_of account_day_of
question = refl

-- the second line of 7 is the fourth of all, and a third one is not there
second_of_7 : lines_through 7 2 (line_requests (codes "TAP 1 1 8 0 2 IN\nTAP 1 1 7 0 2 IN\nTAP 1 2 8 0 2 IN\nFIX 1 1 7 VOID 1 1\nTAP 1 3 8 0 2 IN\n")) ≡ 4
unfolding request_of tap_of fix_of named_of
second_of_7 = refl

no_third_of_7 : lines_through 7 3 (line_requests (codes "TAP 1 1 7 0 2 IN\nTAP 1 2 8 0 2 IN\nFIX 1 1 7 VOID 1 1\n")) ≡ 3
unfolding request_of tap_of fix_of named_of
no_third_of_7 = refl
