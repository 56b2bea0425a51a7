use Rattle.std.proofs.Common.{◌∙◌, sym}
use Rattle.pay_wire.proofs.Spaces.{is_last}
use Rattle.pay_wire.proofs.command.is_end.Goals as goal

pub returns : goal.returns
returns c = c.is_empty.ensures ∙ sym (is_last c.args.fields.now)
