-- Databases over files that tell no lie.
use Rattle.sqlite.specs.Files.{file_state}
use Rattle.sqlite.specs.Held.{Held}
use Rattle.sqlite.specs.State.{HasCleanDisk}
use Rattle.sqlite_disk.specs.declared.Disk as disk
use Rattle.sqlite_store.specs.declared.store.FileStore.{FileStore}

-- what is written to such a file is returned, whatever came
abbrev pub ReturnsAll : {D : Type 0} → disk.Ghosts D → Type 0
ReturnsAll {D = D} g = (database : Held (FileStore D g)) → HasCleanDisk (file_state database)
