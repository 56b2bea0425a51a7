use Rattle.std.proofs.Common.{rules, ap, ◌∙◌}
use Rattle.pay_wire.specs.Words.{command_of}
use Rattle.pay_peers.specs.Lines.{opens}
use Rattle.pay_peers.proofs.Opened.{close_kept}
use Rattle.pay_peers.proofs.word.open_of.Goals as goal

pub returns : goal.returns
returns c =
    c.opens.ensures
    ∙ ap opens
    (c.read_command.ensures.value ∙ ap command_of (c.text.ensures ∙ c.extend-2.ensures ∙ close_kept c.args.day.now _ c.requires (search rules)))
