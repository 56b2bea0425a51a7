use Rattle.std.proofs.Common.{◌≡◌, ◌++◌, ◌+◌, drop}
use Rattle.std.specs.String.{string_bytes}
use Rattle.std.specs.List.{flat_map, enumerate_from}
use Rattle.pay_explain.specs.Lines.{line_of}
use Rattle.pay_page.specs.Journeys.{row_of, journey_rows}
use Rattle.pay_page.proofs.journeys.push_rows.Given as goal

abbrev pub invariant-loop-place : goal.invariant-loop-place
invariant-loop-place l =
    string_bytes l.text ++ flat_map (λ one. row_of l.names one.0 (line_of l.editions l.facts.journeys.items l.facts.boardings.items one.1)) (enumerate_from (l.place + 1) (drop l.place l.facts.list.items))
    ≡ string_bytes l.fn.text ++ journey_rows l.names l.editions l.facts.journeys.items l.facts.boardings.items l.facts.list.items
