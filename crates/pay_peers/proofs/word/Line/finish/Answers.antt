use Rattle.std.proofs.Common.{◌++◌, ap, ◌∙◌}
use Rattle.pay_peers.specs.Lines.{word_at}
use Rattle.pay_peers.proofs.FirstWords.{word_kept}
use Rattle.pay_peers.proofs.word.Line.finish.Goals as goal

pub returns-clause-word : goal.returns-clause-word
returns-clause-word c = c.word_at.ensures.word ∙ ap (word_at c.args.role) (c.text.ensures ∙ c.extend.ensures) ∙ word_kept c.args.role (c.args.self.now ++ c.args.text.now)
