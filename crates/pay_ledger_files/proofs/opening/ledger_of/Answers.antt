use Rattle.pay_ledger_files.proofs.opening.ledger_of.Goals as goal

pub returns-in-Ok-clause-made : goal.returns-in-Ok-clause-made
returns-in-Ok-clause-made g c =
    let e = c.in-Ok.ensures in
    record { opened = e.opened; grows = e.grows; lasts = e.lasts; survives = e.survives }

pub returns-clause-refused : goal.returns-clause-refused
returns-clause-refused g c =
    let e = c.in-Err.ensures in
    record { left = c.in-Err.field-0-1; why = e.refused; blank = e.of_blank; survives = e.survives_err }
