use Rattle.http.specs.Request.{head_of}
use Rattle.pay_web.specs.Posted.{posted_form}
use Rattle.pay_web.proofs.Policies.{answered}
use Rattle.pay_web.proofs.laws.staff_answers_have_the_policy.Goals as goal

pub returns : goal.returns
returns g c before request response after is = answered g.P.Pages g.P.Corrects response (posted_form before.hosts (head_of request)) before after request is.answered
