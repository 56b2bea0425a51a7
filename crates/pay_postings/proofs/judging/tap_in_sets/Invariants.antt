use Rattle.std.proofs.Common.{◌≡◌, drop}
use Rattle.std.specs.Prelude.{find, flat_map}
use Rattle.pay_rules.specs.SetsParts.{SetsParts}
use Rattle.pay_postings.specs.Archive.{is_numbered_as}
use Rattle.pay_postings.proofs.judging.tap_in_sets.Given as goal

-- the first of what is left is the first of all
abbrev pub invariant-loop-set : goal.invariant-loop-set
invariant-loop-set l = find (is_numbered_as l.tap) (flat_map (λ (s : SetsParts). s.taps) (drop l.set-index l.sets)) ≡ find (is_numbered_as l.tap) (flat_map (λ (s : SetsParts). s.taps) l.sets)
