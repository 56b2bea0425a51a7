use Rattle.std.proofs.Common.{◌≡◌, ◌++◌, drop}
use Rattle.std.specs.String.{string_bytes}
use Rattle.pay_explain.specs.Day.{lines_text}
use Rattle.pay_explain.proofs.day.push_lines.Given as goal

abbrev pub invariant-loop-listed : goal.invariant-loop-listed
invariant-loop-listed l =
    string_bytes l.text ++ lines_text l.names l.editions l.journeys l.boardings (drop l.listed-index l.list) ≡ string_bytes l.fn.text ++ lines_text l.names l.editions l.journeys l.boardings l.list
