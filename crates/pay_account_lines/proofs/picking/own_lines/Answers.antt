use Rattle.std.proofs.Common.{true, false, sym, ap, ◌∙◌, append-nil}
use Rattle.std.proofs.lemmas.Bool.{eq-eqb, ne_eqb}
use Rattle.pay_account_lines.proofs.Marked.{marked_so}
use Rattle.pay_account_lines.proofs.PickedLines.{one_picked, all_picked}
use Rattle.pay_account_lines.proofs.picking.own_lines.Goals as goal
use Rattle.pay_account_lines.proofs.picking.own_lines.Goals.{then-mark-account+in_ok-add_line, else-mark-account}

pub loop-line-preserved : goal.loop-line-preserved
loop-line-preserved c =
    let its = (marked_so c.in-Some.line.now c.in-Some-mark_of.mark (sym c.mark_of.ensures ∙ c.in-Some-mark_of.is)).0 in
    let with = one_picked c.line_by_line.ensures c.args.account c.args.text.now c.loop-line.left.now c.loop-line.own.items c.if-mark-account.own.items c.in-Some.line.now c.in-Some.rest.now c.loop-line.number
    c.in-Some-mark_of.mark.account in
    elim c.if-mark-account.branch [
      | then-mark-account+in_ok-add_line w ↦
          with true c.loop-line.invariant c.in-Some.ensures.parts c.in-Some.ensures.line its (eq-eqb _ _ w.if-mark-account.true) (ap (λ own. own.items) w.own-is ∙ w.in_ok-add_line.ensures)
      | else-mark-account w ↦
          with false c.loop-line.invariant c.in-Some.ensures.parts c.in-Some.ensures.line its (ne_eqb _ _ w.if-mark-account.false) (ap (λ own. own.items) w.own-is ∙ sym (append-nil _))
    ]

pub returns-clause-own : goal.returns-clause-own
returns-clause-own c = all_picked c.line_by_line.ensures c.args.account c.args.text.now c.loop-line.left.now c.loop-line.own.items c.loop-line.number c.loop-line.invariant c.in_default.ensures.none
