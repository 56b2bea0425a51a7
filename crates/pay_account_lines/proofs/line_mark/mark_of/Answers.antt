use Rattle.std.proofs.Common.{◌≡◌, Some, sym, ap, ◌∙◌, arith}
use Rattle.pay_session.specs.Requests.{request_of}
use Rattle.pay_account_lines.specs.OwnLines.{account_of}
use Rattle.pay_account_lines.proofs.Marked.{fits}
use Rattle.pay_account_lines.proofs.line_mark.mark_of.Goals as goal

pub overflow_cast-result : goal.overflow_cast-result
overflow_cast-result c =
    let own : account_of (request_of c.args.line.now) ≡ Some c.in_ok-account.account = ap account_of (sym c.request_of.ensures.value) ∙ sym c.account_of.ensures ∙ c.in_ok-account.was in
    omega (arith, fits c.args.line.now c.in_ok-account.account own)

pub overflow_add-result : goal.overflow_add-result
overflow_add-result c =
    let own : account_of (request_of c.args.line.now) ≡ Some c.in_ok-account.account = ap account_of (sym c.request_of.ensures.value) ∙ sym c.account_of.ensures ∙ c.in_ok-account.was in
    omega (arith, fits c.args.line.now c.in_ok-account.account own)
