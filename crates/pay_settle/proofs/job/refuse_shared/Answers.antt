use Rattle.std.proofs.Common.{rules, ◌<◌, length, take}
use Rattle.pay_settle.specs.Ledgers.{accounts_in}
use Rattle.pay_settle.proofs.OfLedgers.{next_homes, place_is}
use Rattle.pay_settle.proofs.job.refuse_shared.Goals as goal

pub loop-place-preserved : goal.loop-place-preserved
loop-place-preserved c =
    let ledgers = c.args.ledgers.now in
    let place = c.loop-place.place in
    let ledger = c.index-ledgers-place.result in
    let below : place < length ledgers = search rules in
    let is = c.index-ledgers-place.is in
    next_homes ledgers place ledger below is c.put_ledger.new.homes (c.in_ok-put_ledger.ensures.ok (take place (accounts_in ledgers)) (place_is ledgers place ledger below is) c.loop-place.invariant)
