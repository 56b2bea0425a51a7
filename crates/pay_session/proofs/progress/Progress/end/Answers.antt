use Rattle.std.proofs.Common.{ap, sym, ◌∙◌, eqb-true, length, refl}
use Rattle.std.proofs.lemmas.List.{nil_from_length}
use Rattle.pay_session.specs.Requests.{request_of_rest}
use Rattle.pay_session.proofs.UnendedLine.{EndsRest_none, EndsRest_answered, FaltersAtRest_failed}
use Rattle.pay_session.proofs.SessionSteps.{Ran_none}
use Rattle.pay_session.proofs.progress.Progress.end.Goals as goal

pub returns-then-is_empty-clause-ends : goal.returns-then-is_empty-clause-ends
returns-then-is_empty-clause-ends g c = EndsRest_none _ _ (sym c.as_slice-rest.ensures.value ∙ nil_from_length _ (eqb-true (length c.as_slice-rest.result.now) 0 (sym c.is_empty.ensures ∙ c.if-is_empty.true)))

pub returns-clause-ends : goal.returns-clause-ends
returns-clause-ends g c = EndsRest_answered _ _ _ _ c.request_of_rest-request.result (ap request_of_rest (sym c.as_slice-rest.ensures.value) ∙ c.request_of_rest-request.ensures.value) c.answer.ensures.replies

pub returns-clause-falters : goal.returns-clause-falters
returns-clause-falters g c = FaltersAtRest_failed _ _ _ _ c.request_of_rest-request.result (ap request_of_rest (sym c.as_slice-rest.ensures.value) ∙ c.request_of_rest-request.ensures.value) c.answer.ensures.falters

pub returns-then-is_empty-clause-ran : goal.returns-then-is_empty-clause-ran
returns-then-is_empty-clause-ran g c = Ran_none _ _ _ refl
