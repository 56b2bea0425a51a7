use Rattle.pay_wire.proofs.LineLengths.{tap_is_line, fix_is_line, due_is_line, show_is_line, close_is_line, quit_is_line}
use Rattle.pay_wire.proofs.laws.each_is_a_line.Goals as goal

pub returns : goal.returns
returns c = record { tap = tap_is_line; fix = fix_is_line; due = due_is_line; show = show_is_line; close = close_is_line; quit = quit_is_line }
