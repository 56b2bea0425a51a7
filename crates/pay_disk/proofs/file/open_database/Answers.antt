use Rattle.sqlite.specs.Files.{file_state}
use Rattle.pay_disk.proofs.NewFiles.{opened_empty}
use Rattle.pay_disk.proofs.file.open_database.Goals as goal

pub returns-in-Ok-clause-empty : goal.returns-in-Ok-clause-empty
returns-in-Ok-clause-empty g c clean none =
    let opened = c.in-Ok.ensures.opened clean in
    opened_empty _ (file_state c.in-Ok.conn) none opened.0 opened.1 (c.in-Ok.ensures.found clean).reads
