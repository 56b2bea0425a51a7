use Rattle.pay_rules.specs.declared.limits.TheConstants.{MOST_FIXES}
use Rattle.pay_book.proofs.Accepting.{fix_is_change}
use Rattle.pay_book.proofs.laws.fix_is_change.Goals as goal

pub returns : goal.returns
returns c =
    let touches = c.own_numbers.ensures in
    fix_is_change touches.own_numbers touches.in_order touches.few c.fix_changes.ensures
    (λ set fix is. ((c.judgements.ensures.added MOST_FIXES set fix).0 is).0) (λ set fix are is. c.one_more.ensures.numbered MOST_FIXES set fix are is)
