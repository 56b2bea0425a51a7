use Rattle.pay_account_lines.proofs.PickedLines.{none_counted}
use Rattle.pay_account_lines.proofs.picking.lines_through.Goals as goal

pub loop-line-init : goal.loop-line-init
loop-line-init c = none_counted c.args.account c.args.own c.args.text.now
