use Rattle.std.proofs.Common.{◌≡◌, ◌++◌, length, drop}
use Rattle.std.specs.List.{flat_map}
use Rattle.std.specs.String.{string_bytes}
use Rattle.pay_metrics.specs.Families.{family_of}
use Rattle.pay_metrics.specs.Fields.{fields_in}
use Rattle.pay_metrics.specs.Metrics.{sample}
use Rattle.pay_metrics.proofs.metrics.samples.Given as goal

-- what is said so far, with what the fields that are left say, is all
abbrev pub invariant-loop-field : goal.invariant-loop-field
invariant-loop-field l =
    string_bytes l.text ++ flat_map (sample (family_of l.family)) (drop (length l.yielded) (fields_in l.fields)) ≡ flat_map (sample (family_of l.family)) (fields_in l.fields)
