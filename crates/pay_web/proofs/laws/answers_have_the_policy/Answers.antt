use Rattle.std.proofs.Common.{false}
use Rattle.http.specs.Request.{head_of}
use Rattle.pay_web.specs.Questions.{question_of}
use Rattle.pay_web.proofs.Policies.{answer}
use Rattle.pay_web.proofs.laws.answers_have_the_policy.Goals as goal

pub returns : goal.returns
returns g c before request response after is = answer g.P.Pages false response before.pages (question_of before.hosts (head_of request)) is.answer
