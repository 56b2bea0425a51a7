use Rattle.std.proofs.Common.{subst}
use Rattle.std.specs.Str.Pattern.{LacksTextAt}
use Rattle.pay_kept.proofs.Texts.{not_kept}
use Rattle.pay_kept.proofs.text.parts_kept.Goals as goal

pub returns-in-None-strip_prefix-clause-other : goal.returns-in-None-strip_prefix-clause-other
returns-in-None-strip_prefix-clause-other c =
    not_kept c.args.kept.now c.in_ok-kept.kept.now c.in_ok-kept-2.kept.now c.args.zone.now c.in_ok-kept.ensures.cases c.in_ok-kept-2.ensures.cases
    (subst (λ n. LacksTextAt n c.in_ok-kept-2.kept.now 0) c.ledger_line.ensures c.in-None.ensures.cases) (subst (λ n. LacksTextAt n c.in_ok-kept-2.kept.now 0) c.ledger_line-in-None.ensures c.in-None-strip_prefix.ensures.cases)
