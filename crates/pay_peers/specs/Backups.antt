-- What comes of a backup.
use Rattle.std.specs.Prelude.{◌≡◌, ℕ, List, [], ◌∷◌, ◌++◌, codes, decimal, Option, Some, None, refl}
use Rattle.std.specs.Fmt.{digits}
use Rattle.pay_peers.specs.declared.word.Word.{Word}
use Rattle.pay_peers.specs.declared.word.Word.TheVariants.{Stop, Stats, Backup, Open}

-- the reply to it: how many bytes were copied, or that none were
abbrev pub backup_reply : Option ℕ → List ℕ
backup_reply (Some bytes) = codes "OK " ++ decimal bytes ++ 10 ∷ []
backup_reply None = codes "NO 53 NoBackup\n"

-- What a word asks of what a lane does beside its lines: one backup, to the path of the word; that it says once that the service is to stop;
-- or nothing.
module _ {S : Type 0} (Copies : S → List ℕ → Option ℕ → S → Type 0) (Stops : S → S → Type 0) where
  abbrev pub IsAsked : Word → S → S → Type 0
  IsAsked Stop before after = Stops before after
  IsAsked Stats before after = after ≡ before
  IsAsked (Backup path) before after = (copied : Option ℕ) × Copies before path copied after
  IsAsked (Open day) before after = after ≡ before

-- ---- worked rows

copied : backup_reply (Some 45_056) ≡ codes "OK 45056\n"
unfolding digits
copied = refl
