use Rattle.pay_histories.proofs.Beginning.{RowsTell, late_from, due_from}
use Rattle.pay_histories.proofs.laws.closes_agree_from.Goals as goal

pub returns-clause-late : goal.returns-clause-late
returns-clause-late c books own so events day why refused =
    let tell : RowsTell = record { taps = c.same_row.ensures.taps; fixes = c.same_row.ensures.fixes } in
    late_from tell c.args.editions.now books own so events day why refused

pub returns-clause-net : goal.returns-clause-net
returns-clause-net c books own so paid events day given ledger e account is =
    let tell : RowsTell = record { taps = c.same_row.ensures.taps; fixes = c.same_row.ensures.fixes } in
    (due_from tell c.args.editions.now c.quotes.ensures.operators c.quotes.ensures.together books own so paid events day given ledger e account is).due

pub returns-clause-by_operator : goal.returns-clause-by_operator
returns-clause-by_operator c books own so paid events day given ledger e account is =
    let tell : RowsTell = record { taps = c.same_row.ensures.taps; fixes = c.same_row.ensures.fixes } in
    (due_from tell c.args.editions.now c.quotes.ensures.operators c.quotes.ensures.together books own so paid events day given ledger e account is).shared
