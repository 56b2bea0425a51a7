use Rattle.std.proofs.Common.{◌≡◌, ◌++◌, ◌+◌, drop}
use Rattle.std.specs.String.{string_bytes}
use Rattle.std.specs.List.{flat_map, enumerate_from}
use Rattle.pay_page.specs.Marks.{mark_of, marks}
use Rattle.pay_page.proofs.marks.push_marks.Given as goal

abbrev pub invariant-loop-place : goal.invariant-loop-place
invariant-loop-place l =
    string_bytes l.text ++ flat_map (λ one. mark_of l.facts.journeys.items one.0 one.1) (enumerate_from (l.place + 1) (drop l.place l.facts.list.items))
    ≡ string_bytes l.fn.text ++ marks l.facts.journeys.items l.facts.list.items
