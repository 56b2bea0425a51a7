use Rattle.std.proofs.Common.{refl}
use Rattle.http.specs.Request.{head_of}
use Rattle.pay_web.specs.Posted.{posted_form}
use Rattle.pay_web.proofs.Rights.{answered}
use Rattle.pay_web.proofs.laws.only_clerks_put.Goals as goal

pub returns : goal.returns
returns g c before request response after is = answered g.P.Pages g.P.Corrects before after request response (posted_form before.hosts (head_of request)) refl is.answered
