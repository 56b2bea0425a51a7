use Rattle.std.proofs.Common.{refl, rules}
use Rattle.sqlite.specs.Files.{file_state}
use Rattle.pay_disk.proofs.Clean.{always_clean}
use Rattle.pay_disk.proofs.NewFiles.{opened_empty}
use Rattle.pay_disk.proofs.database.new_database.Goals as goal

pub returns-in-Ok-clause-empty : goal.returns-in-Ok-clause-empty
returns-in-Ok-clause-empty c =
    let clean = always_clean (λ _. refl) c.in-Ok.conn in
    let opened = c.in-Ok.ensures.opened clean in
    opened_empty _ (file_state c.in-Ok.conn) (search rules) opened.0 opened.1 (c.in-Ok.ensures.found clean).reads
