use Rattle.std.proofs.Common.{◌≡◌, ◌+◌, drop}
use Rattle.std.specs.String.{string_bytes}
use Rattle.std.specs.List.{enumerate_from}
use Rattle.pay_json.specs.Values.{all_joined}
use Rattle.pay_json.specs.Journeys.{numbered_journey, journeys_joined}
use Rattle.pay_json.proofs.journeys.journeys_joined.Given as goal

abbrev pub invariant-loop-place : goal.invariant-loop-place
invariant-loop-place l =
    all_joined (numbered_journey l.names l.editions l.facts.journeys.items l.facts.boardings.items) (string_bytes l.text) (enumerate_from (l.place + 1) (drop l.place l.facts.list.items))
    ≡ journeys_joined l.names l.editions l.facts.journeys.items l.facts.boardings.items l.facts.list.items
