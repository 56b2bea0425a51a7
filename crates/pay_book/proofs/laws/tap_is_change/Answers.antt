use Rattle.pay_rules.specs.declared.limits.TheConstants.{MOST_TAPS}
use Rattle.pay_book.proofs.Accepting.{tap_is_change}
use Rattle.pay_book.proofs.laws.tap_is_change.Goals as goal

pub returns : goal.returns
returns c =
    let touches = c.own_numbers.ensures in
    tap_is_change touches.own_numbers touches.in_order touches.few c.tap_changes.ensures
    (λ set tap is. ((c.judgements.ensures.added MOST_TAPS set tap).0 is).0) (λ set tap are is. c.one_more.ensures.numbered MOST_TAPS set tap are is)
