-- What the lines of the commands are, one line for each.
use Rattle.std.specs.Prelude.{◌≡◌, ℕ, ◌≤◌, ◌≢◌, List, [], ◌∷◌, length, All, codes, decimal}
use Rattle.std.specs.List.{join_with_byte}
use Rattle.pay_rules.specs.declared.tap.Kind.{Kind}
use Rattle.pay_rules.specs.declared.tap.Kind.TheVariants.{In, Out, Bus}
use Rattle.pay_wire.specs.declared.command.SpelledTap.{SpelledTap}
use Rattle.pay_wire.specs.declared.command.SpelledFix.{SpelledFix}
use Rattle.pay_wire.specs.declared.command.SpelledWhat.{SpelledWhat}
use Rattle.pay_wire.specs.declared.command.SpelledWhat.TheVariants as spelled
use Rattle.pay_wire.specs.declared.command.SpelledCommand.{SpelledCommand}
use Rattle.pay_wire.specs.declared.command.SpelledCommand.TheVariants.{Tap, Fix, Due, Show, Close, Quit}
use Rattle.pay_wire.specs.declared.command.SpelledCredit.{SpelledCredit}
use Rattle.pay_rules.specs.declared.limits.TheConstants.{MOST_CREDIT}
use Rattle.pay_day.specs.Words.{IsDay}
use Rattle.pay_wire.specs.declared.limits.TheConstants.{MOST_LINE_BYTES, MOST_READER, MOST_STAFF, MOST_SEQ, MOST_ACCOUNT, MOST_UTC, MOST_PLACE}

-- each number of a tap is in its range
pub record IsSpelledTap (tap : SpelledTap) : Type 0 where
  pub reader : (1 ≤ tap.reader) × (tap.reader ≤ MOST_READER)
  pub seq : tap.seq ≤ MOST_SEQ
  pub account : (1 ≤ tap.account) × (tap.account ≤ MOST_ACCOUNT)
  pub utc : tap.utc ≤ MOST_UTC
  pub place : (1 ≤ tap.place) × (tap.place ≤ MOST_PLACE)

abbrev pub spelling_of_kind : Kind → List ℕ
spelling_of_kind In = codes "IN"
spelling_of_kind Out = codes "OUT"
spelling_of_kind Bus = codes "BUS"

-- `TAP reader seq account utc place KIND`, with a space between each two words
abbrev pub spelling_of_tap : SpelledTap → List ℕ
spelling_of_tap tap =
    join_with_byte 32 (codes "TAP" ∷ decimal tap.reader ∷ decimal tap.seq ∷ decimal tap.account ∷ decimal tap.utc ∷ decimal tap.place ∷ spelling_of_kind tap.kind ∷ [])

-- a service day, and one penny or more
pub record IsSpelledCredit (credit : SpelledCredit) : Type 0 where
  pub day : IsDay credit.day
  pub some : 1 ≤ credit.pence
  pub within : credit.pence ≤ MOST_CREDIT

-- each number of what a correction does is in its range
abbrev pub IsSpelledWhat : SpelledWhat → Type 0
IsSpelledWhat (spelled.Void reader seq) = ((1 ≤ reader) × (reader ≤ MOST_READER)) × (seq ≤ MOST_SEQ)
IsSpelledWhat (spelled.Fill utc place kind) = (utc ≤ MOST_UTC) × ((1 ≤ place) × (place ≤ MOST_PLACE))
IsSpelledWhat (spelled.Credit credit) = IsSpelledCredit credit
IsSpelledWhat (spelled.Drop staff seq) = ((1 ≤ staff) × (staff ≤ MOST_STAFF)) × (seq ≤ MOST_SEQ)

-- each number of a correction is in its range
pub record IsSpelledFix (fix : SpelledFix) : Type 0 where
  pub staff : (1 ≤ fix.staff) × (fix.staff ≤ MOST_STAFF)
  pub seq : fix.seq ≤ MOST_SEQ
  pub account : (1 ≤ fix.account) × (fix.account ≤ MOST_ACCOUNT)
  pub what : IsSpelledWhat fix.what

-- `VOID reader seq`, `FILL utc place KIND`, `CREDIT day pence` or `DROP staff seq`
abbrev pub words_of_what : SpelledWhat → List (List ℕ)
words_of_what (spelled.Void reader seq) = codes "VOID" ∷ decimal reader ∷ decimal seq ∷ []
words_of_what (spelled.Fill utc place kind) = codes "FILL" ∷ decimal utc ∷ decimal place ∷ spelling_of_kind kind ∷ []
words_of_what (spelled.Credit credit) = codes "CREDIT" ∷ decimal credit.day ∷ decimal credit.pence ∷ []
words_of_what (spelled.Drop staff seq) = codes "DROP" ∷ decimal staff ∷ decimal seq ∷ []

-- `FIX staff seq account` and what it does, with a space between each two words
abbrev pub spelling_of_fix : SpelledFix → List ℕ
spelling_of_fix fix =
    join_with_byte 32 (codes "FIX" ∷ decimal fix.staff ∷ decimal fix.seq ∷ decimal fix.account ∷ words_of_what fix.what)

-- the account and the service day of a `DUE` or a `SHOW` are in their ranges
abbrev pub IsAccountDay : ℕ → ℕ → Type 0
IsAccountDay account day = ((1 ≤ account) × (account ≤ MOST_ACCOUNT)) × IsDay day

-- a keyword, an account and a service day, with a space between each two words
abbrev pub spelling_of_account_day : List ℕ → ℕ → ℕ → List ℕ
spelling_of_account_day name account day = join_with_byte 32 (name ∷ decimal account ∷ decimal day ∷ [])

-- `DUE account day`
abbrev pub spelling_of_due : ℕ → ℕ → List ℕ
spelling_of_due account day = spelling_of_account_day (codes "DUE") account day

-- `SHOW account day`
abbrev pub spelling_of_show : ℕ → ℕ → List ℕ
spelling_of_show account day = spelling_of_account_day (codes "SHOW") account day

-- `CLOSE day`
abbrev pub spelling_of_close : ℕ → List ℕ
spelling_of_close day = join_with_byte 32 (codes "CLOSE" ∷ decimal day ∷ [])

-- each number of a command is in its range
abbrev pub IsSpelled : SpelledCommand → Type 0
IsSpelled (Tap tap) = IsSpelledTap tap
IsSpelled (Fix fix) = IsSpelledFix fix
IsSpelled (Due account day) = IsAccountDay account day
IsSpelled (Show account day) = IsAccountDay account day
IsSpelled (Close day) = IsDay day
IsSpelled Quit = Unit {0}

-- the one line that spells a command
abbrev pub spelling_of_command : SpelledCommand → List ℕ
spelling_of_command (Tap tap) = spelling_of_tap tap
spelling_of_command (Fix fix) = spelling_of_fix fix
spelling_of_command (Due account day) = spelling_of_due account day
spelling_of_command (Show account day) = spelling_of_show account day
spelling_of_command (Close day) = spelling_of_close day
spelling_of_command Quit = codes "QUIT"

-- what a line has to be to spell a command
abbrev pub Spells : List ℕ → SpelledCommand → Type 0
Spells line command = IsSpelled command × (line ≡ spelling_of_command command)

-- one line, and no longer than a line may be
abbrev pub IsLine : List ℕ → Type 0
IsLine line = (length line ≤ MOST_LINE_BYTES) × All (λ byte. byte ≢ 10) line
