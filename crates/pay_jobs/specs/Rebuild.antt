-- The lines of what a ledger archives.
use Rattle.std.specs.Prelude.{◌≡◌, ℕ, List, ◌++◌}
use Rattle.std.specs.List.{flat_map}
use Rattle.pay_rules.specs.declared.tap.Tap.{Tap}
use Rattle.pay_rules.specs.declared.fix.Fix.{Fix}
use Rattle.pay_rules.specs.Accepted.{Accepted}
use Rattle.pay_rules.specs.SetsParts.{SetsParts, sets}
use Rattle.pay_shard.specs.declared.asked.Asked.TheVariants as asked
use Rattle.pay_journal.specs.Lines.{line_of}

abbrev pub line_of_tap : Tap → List ℕ
line_of_tap tap = line_of (asked.Tap tap)

abbrev pub line_of_fix : Fix → List ℕ
line_of_fix fix = line_of (asked.Fix fix)

-- its taps, and then its corrections
abbrev pub lines_of_sets : SetsParts → List ℕ
lines_of_sets its = flat_map line_of_tap its.taps ++ flat_map line_of_fix its.fixes

-- of an account, and what it has accepted
abbrev pub lines_of_account : ℕ × Accepted → List ℕ
lines_of_account it = lines_of_sets (sets it.0 it.1)
