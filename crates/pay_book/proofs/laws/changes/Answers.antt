use Rattle.pay_book.proofs.Accepting.{can_be, made}
use Rattle.pay_book.proofs.Changing.{each_kind, possible}
use Rattle.pay_book.proofs.DisturbedBy.{as_by_command}
use Rattle.pay_book.proofs.laws.changes.Goals as goal

pub returns : goal.returns
returns c =
    let places = c.places.ensures in
    let own = c.timed.ensures.own_number in
    let each = each_kind places.stands places.taken_out places.some own in
    let can = possible places.stands places.taken_out places.some own in
    record { each_kind = each; possible = can; can_be = can_be each can; made = made each; disturbs = as_by_command places.stands places.some own }
