use Rattle.std.proofs.Common.{◌≡◌, ◌+◌, length, drop, Ok}
use Rattle.pay_clerks.specs.Files.{clerks_of_text, lines_of, with_lines}
use Rattle.pay_clerks.proofs.clerks.Clerks.read.Given as goal

-- the clerks so far with those of the lines that are left are all
abbrev pub invariant-loop-line : goal.invariant-loop-line
invariant-loop-line l =
    (l.number ≡ length l.yielded) × (with_lines (l.number + 1) (Ok l.clerks) (drop l.number (lines_of l.text)) ≡ clerks_of_text l.text)
