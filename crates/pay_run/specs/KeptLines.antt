-- The lines of requests, and what a keeper has of those that were newly accepted.
use Rattle.std.specs.Prelude.{◌≡◌, ℕ, Bool, true, false, List, [], ◌∷◌, ◌++◌, codes, Option, refl}
use Rattle.std.specs.Fmt.{digits}
use Rattle.std.specs.List.{flat_map}
use Rattle.std.specs.Io.KnownBytes.{Appends}
use Rattle.pay_journal.specs.Words.{IsRest}
use Rattle.pay_rules.specs.declared.tap.Kind.TheVariants.{Bus}
use Rattle.pay_wire.specs.Words.{spelling_of_command}
use Rattle.pay_wire.specs.declared.command.SpelledCommand.TheVariants as command
use Rattle.pay_session.specs.declared.request.Request.{Request}
use Rattle.pay_session.specs.declared.request.Request.TheVariants as request

-- the line by which a command is asked for, newline included; what is no command has none
abbrev pub line_of_request : Request → List ℕ
line_of_request (request.Command c) = spelling_of_command c ++ codes "\n"
line_of_request _ = []

-- the lines of requests, in order
abbrev pub lines_of_requests : List Request → List ℕ
lines_of_requests = flat_map line_of_request

-- A keeper holds what it held before and the lines of these requests, each once and in order; and if it failed, a front of one line
-- more, which may be all of it.
pub record KeepsNew (held holds : Option (List ℕ)) (failed : Bool) (new : List Request) : Type 0 where
  pub rest : List ℕ
  pub bytes : Appends held holds (lines_of_requests new ++ rest)
  pub is_rest : IsRest failed rest

-- ---- worked rows

-- a tap, and a line that is none
a_line : lines_of_requests (request.Command (command.Tap (record { reader = 1; seq = 2; account = 7; utc = 1_704_697_200; place = 50; kind = Bus })) ∷ request.BadLine ∷ [])
    ≡ codes "TAP 1 2 7 1704697200 50 BUS\n"
unfolding digits
a_line = refl
