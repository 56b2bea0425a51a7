use Rattle.std.specs.String.{string_bytes}
use Rattle.pay_check.proofs.CountsLine.{five_and_end}
use Rattle.pay_check.proofs.counting.counts_line.Goals as goal

pub returns : goal.returns
returns c = five_and_end (string_bytes c.new-line.result) (string_bytes c.put.new.line) (string_bytes c.put-2.new.line) (string_bytes c.put-3.new.line) (string_bytes c.put-4.new.line)
    (string_bytes c.put_editions.new.line) _ _ _ _ _ _ _ c.new-line.ensures.bytes c.in_ok-put.ensures c.in_ok-put-2.ensures c.in_ok-put-3.ensures c.in_ok-put-4.ensures c.in_ok-put_editions.ensures
    c.in_ok-push_str.ensures.bytes
