-- How lines are stored, so that a model may hold them.
use Rattle.std.specs.Prelude.{List}
use Rattle.std.specs.Coded.{Coded, coded_list}
use Rattle.pay_rules.specs.declared.shown.Line.{Line}
use Rattle.pay_rules.specs.contracts.shown.Line as line

-- lines are stored as a list
abbrev pub lines_code : Coded (List Line)
lines_code = coded_list line.the_row.coded
