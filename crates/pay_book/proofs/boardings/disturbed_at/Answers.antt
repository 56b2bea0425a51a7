use Rattle.std.proofs.Common.{sym}
use Rattle.pay_book.proofs.Boarded.{boarded_alike, none_boarded}
use Rattle.pay_book.proofs.boardings.disturbed_at.Goals as goal

pub returns-in_err-tap-clause-answer : goal.returns-in_err-tap-clause-answer
returns-in_err-tap-clause-answer c =
    let alike = none_boarded c.args.tables.now.rules.hopper c.args.fewer.now.last_paid c.args.more.now.last_paid c.args.buses.now.touches c.args.place (sym c.in_err-tap.ensures.value) in
    rw c.from_residual.ensures alike

pub returns-then-pays-2-clause-answer : goal.returns-then-pays-2-clause-answer
returns-then-pays-2-clause-answer c =
    boarded_alike c.paying_taps_restart.ensures c.args.tables.now.rules.hopper c.args.fewer.now.last_paid c.args.more.now.last_paid c.args.buses.now.touches c.args.place c.in_ok-tap.tap
    (sym c.in_ok-tap.ensures.value) (sym c.if-pays.ensures) (sym c.if-pays-2.ensures)
