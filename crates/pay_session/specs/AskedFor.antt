-- What a desk took is asked for by lines in a zone, or by a close.
use Rattle.std.proofs.Common.{arith}
use Rattle.std.specs.Prelude.{◌≡◌, ℕ, List, [], ◌∷◌, ◌++◌, ⊤, refl}
use Rattle.std.specs.List.{AllByRecursion}
use Rattle.jiff.specs.declared.tz.timezone.TimeZone.{TimeZone}
use Rattle.pay_shard.specs.declared.asked.Asked.{Asked}
use Rattle.pay_shard.specs.declared.asked.Asked.TheVariants as asked
use Rattle.pay_wire.specs.Words.{IsSpelled}
use Rattle.pay_wire.specs.declared.command.SpelledCommand.{SpelledCommand}
use Rattle.pay_wire.specs.declared.command.SpelledCommand.TheVariants as command
use Rattle.pay_session.specs.Asks.{asks_of}
use Rattle.pay_session.specs.declared.asks.Asks.TheVariants as asks
use Rattle.pay_session.specs.declared.request.Request.TheVariants as requests

-- A command of a desk that a line asks for in a zone, one whose numbers are in their ranges. Quotes have no line: a close asks for them.
abbrev pub IsAskedIn : TimeZone → Asked → Type 0
IsAskedIn zone (asked.Quotes day shard of) = ⊤
IsAskedIn zone a = (c : SpelledCommand) × IsSpelled c × (asks_of zone (requests.Command c) ≡ asks.Put a)

-- each of some commands, which stand beside their tickets, is asked for by a line, or by a close
abbrev pub AreAllAskedIn : TimeZone → List (ℕ × Asked) → Type 0
AreAllAskedIn zone = AllByRecursion (λ (t : ℕ × Asked). IsAskedIn zone t.1)

-- what a desk took more, after what it took before, is asked for by lines, or by a close
unfoldable pub AreAskedIn : TimeZone → List (ℕ × Asked) → List (ℕ × Asked) → Type 0
AreAskedIn zone before after = (more : List (ℕ × Asked)) × (after ≡ before ++ more) × AreAllAskedIn zone more

-- ---- worked rows

-- a question about account 7 and 2024-01-08 is asked for by its line, in any zone
due_asked : (zone : TimeZone) → IsAskedIn zone (asked.Due 7 19_730)
unfolding asks_of
due_asked zone = (command.Due 7 19_730, ((omega arith, omega arith), (omega arith, omega arith)), refl)

-- quotes have no line, and are asked for all the same
quotes_asked : (zone : TimeZone) → AreAskedIn zone [] ((0, asked.Quotes 19_730 0 1) ∷ [])
unfolding AreAskedIn
quotes_asked zone = ((0, asked.Quotes 19_730 0 1) ∷ [], refl, (tt, tt))

-- what was taken before stays
one_stays : (zone : TimeZone) (t : ℕ × Asked) → AreAskedIn zone (t ∷ []) [] → ⊥
unfolding AreAskedIn
one_stays zone t are = let none : [] ≡ t ∷ are.0 = are.1 in cc
