use Rattle.std.proofs.Common.{◌≡◌, ◌++◌, drop, map}
use Rattle.std.specs.List.{flat_map}
use Rattle.std.specs.String.{string_bytes}
use Rattle.pay_metrics.specs.Families.{family_of}
use Rattle.pay_metrics.specs.Metrics.{metric_text}
use Rattle.pay_metrics.proofs.metrics.push_metrics.Given as goal

abbrev pub invariant-loop-family : goal.invariant-loop-family
invariant-loop-family l =
    string_bytes l.text ++ flat_map (metric_text l.fields) (map family_of (drop l.family-index l.families)) ≡ string_bytes l.fn.text ++ flat_map (metric_text l.fields) (map family_of l.families)
