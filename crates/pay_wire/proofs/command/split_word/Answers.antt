use Rattle.pay_wire.proofs.Spaces.{space_within, split_at_end}
use Rattle.pay_wire.proofs.command.split_word.Goals as goal

pub split_at-requires : goal.split_at-requires
split_at-requires c = rw c.word_end.ensures (space_within c.args.line.now)

pub returns : goal.returns
returns c = rw (c.split_at.ensures.front, c.split_at.ensures.back, c.word_end.ensures) (split_at_end c.args.line.now)
