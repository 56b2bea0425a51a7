use Rattle.std.proofs.Common.{length, ap, ◌∙◌, sym, take_all, arith}
use Rattle.pay_session.specs.Requests.{has_newline}
use Rattle.pay_session.proofs.Newlines.{no_newline_before}
use Rattle.pay_session.proofs.cutting.cut.Goals as goal

pub returns-clause-line : goal.returns-clause-line
returns-clause-line c =
    let first = c.in_ok-end.ensures.0 in
    no_newline_before c.args.bytes.now c.in_ok-end.end (omega (arith, first.high)) (λ k lt. first.before k (omega arith) lt)

pub returns-in_err-end-clause-none : goal.returns-in_err-end-clause-none
returns-in_err-end-clause-none c =
    let bytes = c.args.bytes.now in
    let whole = ap has_newline (sym (take_all (length bytes) bytes (omega arith))) ∙ no_newline_before bytes (length bytes) (omega arith) (λ k lt. c.in_err-end.ensures k (omega arith) lt) in
    rw c.from_residual.ensures whole
