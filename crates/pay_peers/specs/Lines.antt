-- The lines that are words of staff's own, and where the first of them stands in the bytes that come.
use Rattle.std.specs.Prelude.{◌≡◌, ℕ, ◌≤◌, ◌==◌, ◌&&◌, nat_eq, nat_le, Bool, List, [], ◌∷◌, ◌++◌, length, take, drop, replicate, codes, Option, Some, None, Result, if◌then◌else◌, refl}
use Rattle.std.specs.Char.{is_ascii_graphic}
use Rattle.std.specs.List.{list_all, starts_with}
use Rattle.std.specs.Str.{bytes_eq}
use Rattle.pay_rules.specs.declared.posting.Posting.{Posting}
use Rattle.pay_shard.specs.Words.{DeskParts}
use Rattle.pay_till.specs.Words.{Taken}
use Rattle.pay_wire.specs.Commands.{day_of}
use Rattle.pay_wire.specs.Words.{command_of}
use Rattle.pay_wire.specs.declared.command.SpelledCommand.{SpelledCommand}
use Rattle.pay_wire.specs.declared.command.SpelledCommand.TheVariants.{Close}
use Rattle.pay_wire.specs.declared.refusal.Refusal.{Refusal}
use Rattle.pay_session.specs.Words.{TakesPiece}
use Rattle.pay_session.specs.declared.port.Port.{Port}
use Rattle.pay_session.specs.declared.port.Role.{Role}
use Rattle.pay_session.specs.declared.port.Role.TheVariants.{Taps, All}
use Rattle.pay_peers.specs.Greetings.{Greets}
use Rattle.pay_peers.specs.declared.word.Word.{Word}
use Rattle.pay_peers.specs.declared.word.Word.TheVariants.{Stop, Stats, Backup, Open}

-- bytes are a path from the root: each is printable ASCII, and none a space
unfoldable pub is_path : List ℕ → Bool
is_path bytes = starts_with nat_eq bytes (codes "/") && list_all is_ascii_graphic bytes

-- the backup for which a line asks
abbrev pub backup_of : List ℕ → Option Word
backup_of line = if bytes_eq (take 7 line) (codes "BACKUP ") && is_path (drop 7 line) then Some (Backup (drop 7 line)) else None

-- the day that a CLOSE names, as the word that asks for its open accounts
abbrev pub opens : Option SpelledCommand → Option Word
opens (Some (Close day)) = Some (Open day)
opens _ = None

-- what stands behind `OPEN ` names a day as it would behind `CLOSE `
abbrev pub open_of : List ℕ → Option Word
open_of day = opens (command_of (codes "CLOSE " ++ day))

-- the word of staff that a line is
abbrev pub word_of : List ℕ → Option Word
word_of line =
    if bytes_eq line (codes "STOP") then Some Stop
    else if bytes_eq line (codes "STATS") then Some Stats
    else if bytes_eq (take 5 line) (codes "OPEN ") then open_of (drop 5 line)
    else backup_of line

-- the word that a line is at a port: at that of readers and customers none is, and no line of more than 128 bytes
abbrev pub word_at : Role → List ℕ → Option Word
word_at Taps line = None
word_at All line = if nat_le (length line) 128 then word_of line else None

-- a line with which a connection may have to begin: not too long, and no word
abbrev pub MayGreet : List ℕ → Type 0
MayGreet line = (length line ≤ 128) × (word_at All line ≡ None)

-- a word with what stands behind its line; where the line is none, what is found behind it
abbrev pub found : Option Word → List ℕ → Option (Word × List ℕ) → Option (Word × List ℕ)
found (Some word) behind later = Some (word, behind)
found None behind later = later

-- The first word that is a line of its own, with the bytes behind its newline: at a port, after a begun line, in the bytes that come.
abbrev pub first_word : Role → List ℕ → List ℕ → Option (Word × List ℕ)
first_word role begun [] = None
first_word role begun (b ∷ bs) =
    if b == 10 then found (word_at role begun) bs (first_word role [] bs) else first_word role (begun ++ b ∷ []) bs

-- Of a piece that came at a port after a begun line, a front was taken and the rest is pending. The front ends with the line of the first
-- word; or none is in it, and what comes behind it is read after what is now kept of a begun line.
pub record IsTaken (role : Role) (begun piece : List ℕ) (word : Option Word) (kept pending : List ℕ) : Type 0 where
  pub front : List ℕ
  pub cut : piece ≡ front ++ pending
  pub found : (w : Word) → word ≡ Some w → first_word role begun front ≡ Some (w, [])
  pub goes_on : word ≡ None → (more : List ℕ) → first_word role begun (front ++ more) ≡ first_word role kept more

-- A connection at a port took a front of what was pending and of what came behind that. Each state is the greeting that is awaited, the
-- begun line, and what is pending.
pub record Hears (role : Role) (word : Option Word) (before after : Option (List ℕ) × List ℕ × List ℕ) : Type 0 where
  pub came : List ℕ
  pub taken : IsTaken role before.1 (before.2 ++ came) word after.1 after.2
  pub greets : Greets (before.0, before.1) (before.2 ++ came) after

-- The session answers a front of some bytes, as a piece, and nothing of what stands behind it: at a port, from before to after.
module _ {D O T : Type 0} (parts : D → DeskParts O) (Closes : T → ℕ → ℕ → List Taken → Result (List Posting) Refusal → T → Type 0) (port : Port) where
  pub record AnswersFront (bytes behind : List ℕ) (before after : D × T × List ℕ × Option (List ℕ)) : Type 0 where
    pub front : List ℕ
    pub cut : bytes ≡ front ++ behind
    pub takes : TakesPiece parts Closes port front before after

-- ---- worked rows

stop : first_word All [] (codes "DUE 7 19730\nSTOP\nQUIT\n") ≡ Some (Stop, codes "QUIT\n")
stop = refl

-- in two pieces
stats : first_word All (codes "ST") (codes "ATS\n") ≡ Some (Stats, [])
stats = refl

-- with more behind it, or before it, or in small letters, or with a carriage return, a line is no word
longer : first_word All [] (codes "STOPS\nSTATS \nXSTOP\nSTO\nstop\nSTOP\r\n\n") ≡ None
longer = refl

-- and without its newline neither
unended : first_word All [] (codes "STOP") ≡ None
unended = refl

-- a reader's word is none
of_a_reader : first_word Taps [] (codes "STOP\nSTATS\nBACKUP /backup/a.db\nOPEN 19735\n") ≡ None
of_a_reader = refl

backup : first_word All [] (codes "BACKUP /backup/ledger-2024-01-08.db\nQUIT\n") ≡ Some (Backup (codes "/backup/ledger-2024-01-08.db"), codes "QUIT\n")
unfolding is_path
backup = refl

-- without a path, with one that is not from the root, with two, or with a space, a carriage return or another letter in it, it is none
no_path : first_word All [] (codes "BACKUP\nBACKUP \nBACKUP a.db\nBACKUP  /a\nBACKUP /a /b\nBACKUP /a \nBACKUP /a\r\nBACKUP /é\nbackup /a\n") ≡ None
unfolding is_path
no_path = refl

-- the longest path, and one byte more
longest : word_at All (codes "BACKUP /" ++ replicate 120 97) ≡ Some (Backup (codes "/" ++ replicate 120 97))
unfolding is_path
longest = refl

too_long : word_at All (codes "BACKUP /" ++ replicate 121 97) ≡ None
unfolding is_path
too_long = refl

open_week : first_word All [] (codes "OPEN 19735\nQUIT\n") ≡ Some (Open 19_735, codes "QUIT\n")
unfolding day_of
open_week = refl

-- without a day, with one out of range or with a leading zero, with two, with a sign, or with a space more it is none
no_day : first_word All [] (codes "OPEN\nOPEN \nOPEN 3\nOPEN 50001\nOPEN 019735\nOPEN 19735 1\nOPEN +4\nOPEN 19735 \nOPEN  19735\nopen 19735\n") ≡ None
unfolding day_of is_path
no_day = refl

-- nor does it name anything but a day
no_other : first_word All [] (codes "OPEN 7 19735\nOPEN QUIT\nOPENS 19735\nCLOSE 19735\n") ≡ None
unfolding day_of is_path
no_other = refl
