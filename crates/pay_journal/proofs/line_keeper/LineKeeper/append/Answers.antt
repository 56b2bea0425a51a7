use Rattle.std.proofs.Common.{◌∙◌}
use Rattle.pay_journal.proofs.Bytes.{front_if_failed}
use Rattle.pay_journal.proofs.line_keeper.LineKeeper.append.Goals as goal

pub returns-in-Ok-clause-front : goal.returns-in-Ok-clause-front
returns-in-Ok-clause-front g c =
    front_if_failed c.settle_line.result (g.W.Write.contents c.args.self.now.writer) (g.W.Write.contents c.send_line.new.writer) (g.W.Write.contents c.settle_line.new.self.writer)
    _ _ (c.as_slice.ensures.value ∙ c.line_of.ensures) c.in-Ok.ensures.ok c.settle_line.ensures.same
