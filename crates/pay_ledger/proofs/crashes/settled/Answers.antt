use Rattle.sqlite.specs.Held.{state}
use Rattle.pay_ledger.proofs.Lasting.{on_disk, is_outside}
use Rattle.pay_ledger.proofs.crashes.settled.Goals as goal

pub returns : goal.returns
returns g c live =
    let s = state g.S.Store c.args.conn.now in
    on_disk s (c.is_autocommit.ensures.settled (is_outside _ _ c.is_autocommit.ensures.value c.requires) live) (λ trees left. g.met.S.Store.settled c.args.conn.now.store trees live left)
