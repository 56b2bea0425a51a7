use Rattle.pay_histories.proofs.Beginning.{RowsTell, late_from_journal}
use Rattle.pay_histories.proofs.laws.closes_agree_from_journal.Goals as goal

pub returns : goal.returns
returns c editions items ledger so events day why refused =
    let tell : RowsTell = record { taps = c.same_row.ensures.taps; fixes = c.same_row.ensures.fixes } in
    late_from_journal tell editions items ledger so events day why refused
