use Rattle.std.proofs.Common.{sym, ◌∙◌}
use Rattle.pay_account_lines.proofs.AddedLines.{marked_after}
use Rattle.pay_account_lines.proofs.account_lines.AccountLines.add.Goals as goal

pub invariant_of-self-else-is_err : goal.invariant_of-self-else-is_err
invariant_of-self-else-is_err c =
    marked_after c.add_lines-added.result _ _ _ _ c.args.text.now (sym c.is_err.ensures.value ∙ c.if-is_err.false) c.add_lines-added.ensures.added c.add_lines-added.ensures.bytes c.self.invariant
