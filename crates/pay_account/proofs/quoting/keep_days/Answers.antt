use Rattle.std.proofs.Common.{rules}
use Rattle.std.proofs.lemmas.Fn.{filter_same}
use Rattle.pay_rules.specs.Prices.{is_within}
use Rattle.pay_account.proofs.quoting.keep_days.Goals as goal

pub returns : goal.returns
returns c = filter_same _ (is_within c.args.from c.args.through) _ (λ x b f' h. search rules) _ _ c.retain.ensures.filtered
