use Rattle.std.proofs.Common.{◌+◌, sym, ◌∙◌, subst}
use Rattle.pay_account_lines.proofs.AddedLines.{IsUnderway, none_yet, one_more}
use Rattle.pay_account_lines.proofs.account_lines.mark_lines.Goals as goal

pub loop-line-init : goal.loop-line-init
loop-line-init c = none_yet c.args.marks.now.items c.args.text.now

pub loop-line-preserved : goal.loop-line-preserved
loop-line-preserved c =
    let so = one_more c.line_by_line.ensures c.args.marks.now.items c.loop-line.marks.items c.args.text.now c.loop-line.left.now c.in-Some.line.now c.in-Some.rest.now c.loop-line.number c.in-Some-mark_of.mark c.loop-line.invariant
    c.in-Some.ensures.parts c.in-Some.ensures.line (sym c.mark_of.ensures ∙ c.in-Some-mark_of.is) in
    subst (λ marks. IsUnderway c.args.marks.now.items marks c.args.text.now c.in-Some.rest.now (c.loop-line.number + 1)) (sym c.in_ok-add_mark.ensures.added) so
