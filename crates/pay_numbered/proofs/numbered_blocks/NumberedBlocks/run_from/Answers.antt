use Rattle.std.proofs.Common.{◌≡◌, subst, length, take, drop, arith}
use Rattle.pay_numbered.proofs.KeptList.{count_of, listed}
use Rattle.pay_numbered.proofs.numbered_blocks.NumberedBlocks.run_from.Goals as goal

pub from-requires : goal.from-requires
from-requires g c = omega (arith, c.requires, count_of g.T.Numbered.number g.row.MOST _ c.args.self.now c.self.invariant c.self.view_is)

pub returns-clause-items : goal.returns-clause-items
returns-clause-items g c =
    subst (λ all. c.from.result.now ≡ take (length c.from.result.now) (drop c.args.place all)) (listed g.T.Numbered.number g.row.MOST _ c.args.self.now c.self.invariant c.self.view_is) c.from.ensures.items

pub returns-clause-some : goal.returns-clause-some
returns-clause-some g c lt = c.from.ensures.some (omega (arith, lt, count_of g.T.Numbered.number g.row.MOST _ c.args.self.now c.self.invariant c.self.view_is))
