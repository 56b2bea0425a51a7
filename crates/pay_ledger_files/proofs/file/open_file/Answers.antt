use Rattle.sqlite.specs.Files.{over_files}
use Rattle.sqlite.specs.Start.{FindsIn}
use Rattle.sqlite.specs.WalFiles.{image_at}
use Rattle.pay_ledger_files.proofs.Opened.{opened_of, refused_of, new_ledger}
use Rattle.pay_ledger_files.proofs.file.open_file.Goals as goal

pub returns-in-Ok-clause-opened : goal.returns-in-Ok-clause-opened
returns-in-Ok-clause-opened g c =
    opened_of over_files c.in_ok-conn.conn (FindsIn (image_at g.S.Start)) c.in_ok-conn.ensures.opened c.in-Ok.ledger c.in-Ok.ensures.made

pub returns-in-Ok-clause-empty : goal.returns-in-Ok-clause-empty
returns-in-Ok-clause-empty g c =
    new_ledger over_files c.in_ok-conn.conn c.in-Ok.ledger _ c.in_ok-conn.ensures.empty c.in-Ok.ensures.made

pub returns-in-Err-clause-refused : goal.returns-in-Err-clause-refused
returns-in-Err-clause-refused g c =
    refused_of over_files c.in_ok-conn.conn (FindsIn (image_at g.S.Start)) c.in_ok-conn.ensures.opened c.in-Err.fault c.in-Err.ensures.refused
