use Rattle.std.proofs.Common.{length, ap, sym, ◌∙◌, arith}
use Rattle.pay_session.specs.Requests.{rest_of}
use Rattle.pay_account_lines.proofs.Marked.{no_rest}
use Rattle.pay_account_lines.proofs.Picked.{at_mark, next_line, own_next, other_next}
use Rattle.pay_account_lines.proofs.account_lines.AccountLines.of.Goals as goal
use Rattle.pay_account_lines.proofs.account_lines.AccountLines.of.Goals.{then-mark-account+in_ok-extend_from_slice, else-mark-account}

pub slice_bounds-extend_from_slice-end : goal.slice_bounds-extend_from_slice-end
slice_bounds-extend_from_slice-end c =
    let so = at_mark c.args.account c.self.inside.text.items c.loop-mark.own.items c.loop-mark.start c.self.inside.marks.items c.deref-mark-items.result.now c.loop-mark.mark-index c.deref-mark-items.ensures.value c.loop-mark-test.true c.loop-mark.invariant in
    let next = next_line _ _ _ _ _ _ so in
    omega (arith, next.fits, c.from.ensures, ap length c.deref.ensures.value)

pub loop-mark-preserved : goal.loop-mark-preserved
loop-mark-preserved c =
    let so = at_mark c.args.account c.self.inside.text.items c.loop-mark.own.items c.loop-mark.start c.self.inside.marks.items c.deref-mark-items.result.now c.loop-mark.mark-index c.deref-mark-items.ensures.value c.loop-mark-test.true c.loop-mark.invariant in
    elim c.if-mark-account.branch [
      | then-mark-account+in_ok-extend_from_slice w ↦
          own_next _ _ _ _ _ _ so w.if-mark-account.true w.deref.result.now c.if-mark-account.own.items c.from.result c.if-mark-account.start w.deref.ensures.value c.from.ensures w.start-is
          (ap (λ own. own.items) w.own-is ∙ w.in_ok-extend_from_slice.ensures.items)
      | else-mark-account w ↦ other_next _ _ _ _ _ _ so w.if-mark-account.false c.if-mark-account.own.items c.from.result c.if-mark-account.start c.from.ensures w.start-is (ap (λ own. own.items) w.own-is)
    ]

pub returns-in_err-extend_from_slice-clause-whole : goal.returns-in_err-extend_from_slice-clause-whole
returns-in_err-extend_from_slice-clause-whole c = ap rest_of (sym c.self.view_is) ∙ no_rest c.line_by_line.ensures _ _ c.self.invariant

pub returns-clause-whole : goal.returns-clause-whole
returns-clause-whole c = ap rest_of (sym c.self.view_is) ∙ no_rest c.line_by_line.ensures _ _ c.self.invariant
