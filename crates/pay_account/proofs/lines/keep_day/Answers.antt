use Rattle.std.proofs.Common.{rules}
use Rattle.std.proofs.lemmas.Fn.{filter_same}
use Rattle.pay_rules.specs.Journeys.{is_on}
use Rattle.pay_account.proofs.lines.keep_day.Goals as goal

pub returns : goal.returns
returns c = filter_same _ (is_on c.args.day) _ (λ x b f' h. search rules) _ _ c.retain.ensures.filtered
