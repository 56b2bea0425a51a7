use Rattle.std.proofs.Common.{◌≡◌, ◌+◌, ◌*◌, ◌≤◌, ◌++◌, length, map, take}
use Rattle.pay_wire.specs.Replies.{text_of_fields, words_of_shares}
use Rattle.pay_wire.proofs.reply.put_shares.Given as goal

-- the line has the shares of the first operators
abbrev pub invariant-loop-i : goal.invariant-loop-i
invariant-loop-i g l = record {
  items : l.line.items ≡ l.fn.line.items ++ text_of_fields (words_of_shares 1 (map g.I.Integer.text (take l.i l.shares)));
  len : length l.line.items ≤ length l.fn.line.items + l.i * 24;
}
