-- What a clerk is shown of corrections, and the instants of taps that are added.
use Rattle.std.specs.Prelude.{◌≡◌, ◌⊎◌, ◌++◌, ℕ, List, [], ◌∷◌, codes, decimal, map}
use Rattle.jiff.specs.Placed.{IsPosixZone}
use Rattle.jiff.specs.Words.{plain_zone}
use Rattle.jiff.specs.declared.tz.timezone.TimeZone.{TimeZone}
use Rattle.pay_account_lines.specs.Words.{own_lines}
use Rattle.pay_day.specs.Words.{stamp_of}
use Rattle.pay_explain_job.specs.Accounts.{Given, given}
use Rattle.pay_explain_job.specs.Corrections.{IsChoice, IsOwed}
use Rattle.pay_explain_job.specs.Explain.{IsNotExplained}
use Rattle.pay_explain_job.specs.OwnLines.{own_given}
use Rattle.pay_fix_page.specs.Words.{done_text, preview_text, refusal_text}
use Rattle.pay_fix_page.specs.declared.previews.Owed.{Owed}
use Rattle.pay_fix_page.specs.declared.previews.Preview.{Preview}
use Rattle.pay_fix_page.specs.declared.sent.Done.{Done}
use Rattle.pay_jobs.specs.declared.fault.Fault.{Fault}
use Rattle.pay_jobs.specs.declared.fault.Fault.TheVariants.{JournalLineOf}
use Rattle.pay_rules.specs.declared.tap.Kind.{Kind}
use Rattle.pay_rules.specs.declared.tap.Kind.TheVariants.{In, Out, Bus}
use Rattle.pay_web.specs.declared.asked.Asked.{Asked}
use Rattle.pay_web.specs.declared.corrects.Viewer.{Viewer}
use Rattle.pay_wire.specs.Replies.{refusal_name, refusal_number}
use Rattle.pay_wire.specs.Words.{spelling_of_command}
use Rattle.pay_wire.specs.declared.command.SpelledCommand.TheVariants.{Fix}
use Rattle.pay_wire.specs.declared.command.SpelledFix.{SpelledFix}
use Rattle.pay_wire.specs.declared.command.SpelledWhat.{SpelledWhat}
use Rattle.pay_wire.specs.declared.command.SpelledWhat.TheVariants.{Void, Fill, Credit, Drop}
use Rattle.pay_wire.specs.declared.refusal.Refusal.{Refusal}

-- ---- the instant of a tap that is added

-- the zone's clock shows this second of this service day at an instant
abbrev pub IsStampedAt : TimeZone → ℕ → ℕ → ℕ → Type 0
IsStampedAt zone day second utc = stamp_of zone utc ≡ record { utc = utc; day = day; second = second }

-- the same by the text of a zone, a POSIX rule
abbrev pub IsInstantIn : List ℕ → ℕ → ℕ → ℕ → Type 0
IsInstantIn text day second utc = (zone : TimeZone) × IsPosixZone text (plain_zone zone) × IsStampedAt zone day second utc

-- ---- what a correction does, in words

abbrev pub kind_word : Kind → List ℕ
kind_word In = codes "IN"
kind_word Out = codes "OUT"
kind_word Bus = codes "BUS"

abbrev pub what_words : SpelledWhat → List ℕ
what_words (Void reader seq) = codes "VOID " ++ (decimal reader ++ (codes " " ++ decimal seq))
what_words (Fill utc place kind) = codes "FILL " ++ (decimal utc ++ (codes " " ++ (decimal place ++ (codes " " ++ kind_word kind))))
what_words (Credit credit) = codes "CREDIT " ++ (decimal credit.day ++ (codes " " ++ decimal credit.pence))
what_words (Drop staff seq) = codes "DROP " ++ (decimal staff ++ (codes " " ++ decimal seq))

-- the line of a correction, newline included
abbrev pub line_of : SpelledFix → List ℕ
line_of fix = spelling_of_command (Fix fix) ++ codes "\n"

-- ---- pages, by a fare file and a zone, and an account's own lines of some journals

-- the page of what can be corrected
abbrev pub IsChoiceOf : List ℕ → List ℕ → Asked → List ℕ → Type 0
IsChoiceOf fares zone asked text = (journals : List (List ℕ)) × IsChoice (own_given fares zone asked.account journals) asked.account asked.day text

-- what is sent of a correction, and the reply to it
pub record IsDoneBy (asked : Asked) (fix : SpelledFix) (came : List ℕ) (done : Done) : Type 0 where
  pub account : done.account ≡ asked.account
  pub day : done.day ≡ asked.day
  pub what : done.what.now ≡ what_words fix.what
  pub staff : done.staff ≡ fix.staff
  pub seq : done.seq ≡ fix.seq
  pub reply : done.reply.now ≡ came

-- the page that says what came of it, by the reply
abbrev pub IsDoneWith : Asked × SpelledFix → List ℕ → List ℕ → Type 0
IsDoneWith made reply text = (done : Done) × IsDoneBy made.0 made.1 reply done × (text ≡ done_text done)

-- by what a socket gave, of which no contract speaks
abbrev pub IsDonePage : Asked × SpelledFix → List ℕ → Type 0
IsDonePage made text = (reply : List ℕ) × IsDoneWith made reply text

-- a refusal, as a service replies it
abbrev pub refusal_reply : Refusal → List ℕ
refusal_reply why = codes "NO " ++ (decimal (refusal_number why) ++ (codes " " ++ refusal_name why))

-- the page of a correction that would be refused so
abbrev pub IsRefusalPage : Asked × SpelledFix → Refusal → List ℕ → Type 0
IsRefusalPage shown why text = (done : Done) × IsDoneBy shown.0 shown.1 (refusal_reply why) done × (text ≡ refusal_text done)

-- as the line of a journal is refused
abbrev pub IsRefusalOf : Asked × SpelledFix → Fault → List ℕ → Type 0
IsRefusalOf shown fault text = (journal : ℕ) × ((line : ℕ) × ((why : Refusal) × (fault ≡ JournalLineOf journal line why) × IsRefusalPage shown why text))

-- what is shown of a correction, with what is owed before it and after it
pub record IsPreviewOf (asked : Asked) (fix : SpelledFix) (viewer : Viewer) (owed : Owed × Owed) (preview : Preview) : Type 0 where
  pub account : preview.account ≡ asked.account
  pub day : preview.day ≡ asked.day
  pub what : preview.what.now ≡ what_words fix.what
  pub staff : preview.staff ≡ fix.staff
  pub seq : preview.seq ≡ fix.seq
  pub clerk : preview.clerk.now ≡ viewer.name.now
  pub token : preview.token.now ≡ viewer.token.now
  pub before : preview.before ≡ owed.0
  pub after : preview.after ≡ owed.1

-- the page that shows it
abbrev pub IsShownPage : Asked × SpelledFix → Viewer → Owed × Owed → List ℕ → Type 0
IsShownPage shown viewer owed text = (preview : Preview) × IsPreviewOf shown.0 shown.1 viewer owed preview × (text ≡ preview_text preview)

-- by the account's own lines of some journals, and then the line of the correction
abbrev pub given_with : List ℕ → List ℕ → ℕ → List (List ℕ) → SpelledFix → Given
given_with fares zone account journals fix = given fares zone (map (own_lines account) journals ++ line_of fix ∷ [])

-- the page shows what is owed by the one and by the other
pub record IsPreviewed (fares zone : List ℕ) (shown : Asked × SpelledFix) (viewer : Viewer) (text : List ℕ) : Type 0 where
  pub journals : List (List ℕ)
  pub before : Owed
  pub after : Owed
  pub is_before : IsOwed (own_given fares zone shown.0.account journals) shown.0.account shown.0.day before
  pub is_after : IsOwed (given_with fares zone shown.0.account journals shown.1) shown.0.account shown.0.day after
  pub page : IsShownPage shown viewer (before, after) text

-- or it is the page of a refusal, where by the other it is not accepted
pub record IsPreviewRefused (fares zone : List ℕ) (shown : Asked × SpelledFix) (text : List ℕ) : Type 0 where
  pub journals : List (List ℕ)
  pub fault : Fault
  pub fails : IsNotExplained (given_with fares zone shown.0.account journals shown.1) fault
  pub page : IsRefusalOf shown fault text

abbrev pub IsPreviewPage : List ℕ → List ℕ → Asked × SpelledFix → Viewer → List ℕ → Type 0
IsPreviewPage fares zone shown viewer text = IsPreviewed fares zone shown viewer text ⊎ IsPreviewRefused fares zone shown text
