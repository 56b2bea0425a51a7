use Rattle.std.proofs.Common.{drop}
use Rattle.pay_account_lines.proofs.Picked.{IsPicked}
use Rattle.pay_account_lines.proofs.account_lines.AccountLines.of.Given as goal

-- the lines before the next mark are picked
abbrev pub invariant-loop-mark : goal.invariant-loop-mark
invariant-loop-mark l = IsPicked l.account l.self-inside.text.items l.own.items l.start (drop l.mark-index l.self-inside.marks.items)
