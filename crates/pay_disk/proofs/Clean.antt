-- A database over files that tell no lie.
use Rattle.std.proofs.Common.{◌≡◌, Bool, true, false, ◌&&◌}
use Rattle.sqlite_trees.proofs.Doubt.{no_doubt}
use Rattle.sqlite_disk.specs.declared.Disk.{Ghosts}
use Rattle.sqlite_pool.specs.Pool.{state as pooled}
use Rattle.sqlite_store.specs.declared.store.FileStore.{FileStore}
use Rattle.sqlite.specs.Held.{Held}
use Rattle.sqlite.specs.State.{HasCleanDisk}
use Rattle.sqlite.specs.Files.{file_state}

both_true : (a b : Bool) → a ≡ true → b ≡ true → (a && b) ≡ true
both_true true b is also = also
both_true false b is also = absurd (cc)

module _ {D : Type 0} {g : Ghosts D} (honest : (file : D) → g.is_clean file ≡ true) where
  -- what it returns is what was written
  pub always_clean : (c : Held (FileStore D g)) → HasCleanDisk (file_state c)
  unfolding pooled
  always_clean c = no_doubt (file_state c).is_clean (both_true _ _ (honest _) (honest _))
