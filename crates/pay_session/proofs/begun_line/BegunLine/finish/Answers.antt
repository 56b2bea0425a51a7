use Rattle.std.proofs.Common.{◌++◌, length, ap, sym, ◌∙◌, eqb-true}
use Rattle.std.proofs.lemmas.List.{nil_from_length}
use Rattle.pay_session.specs.Requests.{request_of}
use Rattle.pay_session.proofs.InputPieces.{request_kept}
use Rattle.pay_session.proofs.begun_line.BegunLine.finish.Goals as goal

pub returns-then-is_empty-clause-line : goal.returns-then-is_empty-clause-line
returns-then-is_empty-clause-line c = sym c.as_slice.ensures.value ∙ nil_from_length _ (eqb-true (length c.as_slice.result.now) 0 (sym c.is_empty.ensures ∙ c.if-is_empty.true))

pub returns-then-is_empty-clause-asked : goal.returns-then-is_empty-clause-asked
returns-then-is_empty-clause-asked c = c.request_of.ensures.value ∙ ap (λ line. request_of (line ++ c.args.text.now)) (sym (returns-then-is_empty-clause-line c))

pub returns-clause-asked : goal.returns-clause-asked
returns-clause-asked c = c.request_of-request.ensures.value ∙ ap request_of (c.as_slice-2.ensures.value ∙ c.extend.ensures) ∙ request_kept (c.args.self.now ++ c.args.text.now)
