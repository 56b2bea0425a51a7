use Rattle.std.proofs.Common.{arith, ◌≡◌, ◌∙◌, length}
use Rattle.pay_wire.proofs.Spaces.{first_space}
use Rattle.pay_wire.proofs.command.word_end.Goals as goal

pub returns-then-byte-eq32 : goal.returns-then-byte-eq32
returns-then-byte-eq32 c = first_space c.args.line.now c.loop-i.i (omega arith) c.loop-i.invariant (λ lt. c.if-byte-eq32.true)

pub returns : goal.returns
returns c =
    let e : length c.args.line.now ≡ c.loop-i.i = omega arith in
    e ∙ first_space c.args.line.now c.loop-i.i (omega arith) c.loop-i.invariant (λ lt. absurd (omega arith))
