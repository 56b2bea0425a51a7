use Rattle.pay_wire.proofs.LineLengths.{one_command, one_tap, one_fix, one_due, one_show, one_close, one_line}
use Rattle.pay_wire.proofs.laws.one_command.Goals as goal

pub returns : goal.returns
returns c = record { command = one_command; line = one_line; tap = one_tap; fix = one_fix; due = one_due; show = one_show; close = one_close }
