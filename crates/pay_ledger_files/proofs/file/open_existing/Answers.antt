use Rattle.std.proofs.Common.{inr, rules}
use Rattle.sqlite.specs.Files.{over_files}
use Rattle.sqlite.specs.Start.{FindsIn}
use Rattle.sqlite.specs.WalFiles.{image_at}
use Rattle.pay_ledger_files.proofs.Opened.{existing_of, refused_of, without_meta}
use Rattle.pay_ledger_files.proofs.file.open_existing.Goals as goal

pub returns-then-not-has_meta-clause-refused : goal.returns-then-not-has_meta-clause-refused
returns-then-not-has_meta-clause-refused g c =
    without_meta over_files c.in_ok-conn.conn (FindsIn (image_at g.S.Start)) c.in_ok-conn.ensures.opened c.has_meta.result c.has_meta.ensures (search rules)

pub returns-in-Ok-clause-opened : goal.returns-in-Ok-clause-opened
returns-in-Ok-clause-opened g c =
    existing_of over_files c.in_ok-conn.conn (FindsIn (image_at g.S.Start)) c.in_ok-conn.ensures.opened c.in-Ok.ledger c.has_meta.result c.has_meta.ensures (search rules) c.in-Ok.ensures.made

pub returns-in-Err-clause-refused : goal.returns-in-Err-clause-refused
returns-in-Err-clause-refused g c =
    inr (refused_of over_files c.in_ok-conn.conn (FindsIn (image_at g.S.Start)) c.in_ok-conn.ensures.opened c.in-Err.fault c.in-Err.ensures.refused)
