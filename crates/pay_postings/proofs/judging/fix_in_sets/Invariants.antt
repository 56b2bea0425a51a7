use Rattle.std.proofs.Common.{◌≡◌, drop}
use Rattle.std.specs.Prelude.{find, flat_map}
use Rattle.pay_rules.specs.SetsParts.{SetsParts}
use Rattle.pay_postings.specs.Archive.{is_fix_numbered_as}
use Rattle.pay_postings.proofs.judging.fix_in_sets.Given as goal

-- the first of what is left is the first of all
abbrev pub invariant-loop-set : goal.invariant-loop-set
invariant-loop-set l = find (is_fix_numbered_as l.fix) (flat_map (λ (s : SetsParts). s.fixes) (drop l.set-index l.sets)) ≡ find (is_fix_numbered_as l.fix) (flat_map (λ (s : SetsParts). s.fixes) l.sets)
