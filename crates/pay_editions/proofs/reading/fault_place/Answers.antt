use Rattle.std.proofs.lemmas.Result.{IfOk-weaker}
use Rattle.toml.specs.Parse.{parse_document}
use Rattle.pay_editions.proofs.Forgetting.{none_where_read}
use Rattle.pay_editions.proofs.reading.fault_place.Goals as goal

pub returns-clause-none : goal.returns-clause-none
returns-clause-none c = IfOk-weaker c.find_place.result _ _ (λ place h. none_where_read c.args.text.now (parse_document c.args.text.now) place h) c.find_place.ensures
