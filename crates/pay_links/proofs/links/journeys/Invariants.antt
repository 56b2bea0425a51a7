use Rattle.std.proofs.Common.{◌≡◌, ◌++◌, drop}
use Rattle.pay_rules.specs.RailJourneys.{journeys}
use Rattle.pay_links.specs.OpenRun.{open_before}
use Rattle.pay_links.proofs.links.journeys.Given as goal

abbrev pub invariant-loop-part : goal.invariant-loop-part
invariant-loop-part l =
    l.done.items ++ open_before l.tables l.current (journeys l.tables (drop l.part-index l.parts)) ≡ journeys l.tables l.parts
