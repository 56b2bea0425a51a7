use Rattle.std.proofs.Common.{refl}
use Rattle.std.proofs.lemmas.Option.{slice_get_read}
use Rattle.pay_why.proofs.Fronts.{reason_found}
use Rattle.pay_why.proofs.boardings.boarding_reason.Goals as goal

pub returns : goal.returns
returns c =
    let there = slice_get_read c.args.boardings.now _ c.args.place c.in_ok-tap.tap.now refl c.in_ok-tap.ensures.lookup.3.0 c.in_ok-tap.ensures.lookup.1 in
    reason_found c.by_the_last.ensures c.last_paid_by_marks.ensures.same c.args.tables.now.rules.hopper c.args.boardings.now c.args.place _ _ _ there
    c.last_paid-last.ensures c.reason_after.ensures
