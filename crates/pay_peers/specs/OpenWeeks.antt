-- What comes of asking how many accounts are open.
use Rattle.std.specs.Prelude.{◌≡◌, ℕ, List, ◌++◌, codes, decimal, Result, Ok, Err, refl}
use Rattle.std.specs.Fmt.{digits}
use Rattle.pay_rules.specs.declared.posting.Posting.{Posting}
use Rattle.pay_shard.specs.Words.{DeskParts}
use Rattle.pay_till.specs.Words.{Taken, IsClosedAt, put_off}
use Rattle.pay_wire.specs.Words.{spelling_of_reply}
use Rattle.pay_wire.specs.declared.refusal.Refusal.{Refusal}
use Rattle.pay_wire.specs.declared.refusal.Refusal.TheVariants.{NotHere, DeskFault}
use Rattle.pay_wire.specs.declared.reply.SpelledReply.TheVariants as replies
use Rattle.pay_peers.specs.declared.word.Word.{Word}
use Rattle.pay_peers.specs.declared.word.Word.TheVariants.{Stop, Stats, Backup, Open}

-- the reply to it, for a day: how many are open, or the refusal as any other reply has it
abbrev pub open_reply : ℕ → Result ℕ Refusal → List ℕ
open_reply day (Ok count) = codes "OPEN " ++ (decimal day ++ (codes " " ++ (decimal count ++ codes "\n")))
open_reply day (Err why) = spelling_of_reply (replies.No why)

-- With `parts` for what a desk is at a moment, `Closes` for what the till says of a close, and `Opens` for what its answer means. Before and
-- after are the desk and the till.
module _ {D O T : Type 0} (parts : D → DeskParts O) (Closes : T → ℕ → ℕ → List Taken → Result (List Posting) Refusal → T → Type 0) (Opens : T → ℕ → ℕ → List Taken → Result ℕ Refusal → T → Type 0) where
  -- the till was asked for a day, once, and this is its answer
  abbrev pub IsOpenedAt : ℕ × Result ℕ Refusal → D × T → D × T → Type 0
  IsOpenedAt (day, answer) before after =
      IsClosedAt parts before.0 after.0 day (λ of put closed. Closes before.1 day of put closed after.1 × Opens before.1 day of put answer after.1) (put_off answer)

  -- what a word asks of a till: OPEN that of its day, and any other nothing
  abbrev pub IsOpened : Word → D × T → D × T → Type 0
  IsOpened Stop before after = after ≡ before
  IsOpened Stats before after = after ≡ before
  IsOpened (Backup path) before after = after ≡ before
  IsOpened (Open day) before after = (answer : Result ℕ Refusal) × IsOpenedAt (day, answer) before after

-- ---- worked rows

two_are_open : open_reply 19_735 (Ok 2) ≡ codes "OPEN 19735 2\n"
unfolding digits
two_are_open = refl

none_is_open : open_reply 4 (Ok 0) ≡ codes "OPEN 4 0\n"
unfolding digits
none_is_open = refl

no_quotes : open_reply 19_735 (Err DeskFault) ≡ codes "NO 44 DeskFault\n"
unfolding digits
no_quotes = refl

nothing_closed_here : open_reply 19_735 (Err NotHere) ≡ codes "NO 34 NotHere\n"
unfolding digits
nothing_closed_here = refl
