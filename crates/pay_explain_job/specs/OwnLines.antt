-- The lines of one account in journals, and how a fault tells a line of them.
use Rattle.std.specs.Prelude.{◌≡◌, ℕ, List, [], ◌∷◌, ◌++◌, codes, get_or, length, map, refl}
use Rattle.std.specs.List.{AllByRecursion}
use Rattle.pay_account_lines.specs.Words.{own_lines, lines_through, HasAccount, IsOther}
use Rattle.pay_session.specs.Requests.{request_of}
use Rattle.pay_session.specs.Words.{line_requests}
use Rattle.pay_wire.specs.Commands.{tap_of}
use Rattle.pay_wire.specs.declared.refusal.Refusal.TheVariants.{BadLine, UnknownPlace}
use Rattle.pay_jobs.specs.Replays.{all_requests}
use Rattle.pay_jobs.specs.declared.fault.Fault.{Fault}
use Rattle.pay_jobs.specs.declared.fault.Fault.TheVariants.{BadZone, JournalLineOf}
use Rattle.pay_explain_job.specs.Accounts.{Given, given}

-- the texts of a fare file and of a zone, and an account's own lines of journals
abbrev pub own_given : List ℕ → List ℕ → ℕ → List (List ℕ) → Given
own_given fares zone account journals = given fares zone (map (own_lines account) journals)

-- each line of journals is a tap or a correction
abbrev pub AreOwned : List (List ℕ) → Type 0
AreOwned journals = AllByRecursion HasAccount (all_requests journals)

-- The line of this number, from 1, of the journal of this number, from 0, is the first that is neither.
pub record IsOtherAmong (journals : List (List ℕ)) (journal line : ℕ) : Type 0 where
  pub front : List (List ℕ)
  pub text : List ℕ
  pub others : List (List ℕ)
  pub parts : journals ≡ front ++ text ∷ others
  pub numbered : journal ≡ length front
  pub owned : AreOwned front
  pub other : IsOther text line

-- the fault that tells it
abbrev pub IsOtherLine : List (List ℕ) → Fault → Type 0
IsOtherLine journals fault = (journal : ℕ) × (line : ℕ) × IsOtherAmong journals journal line × (fault ≡ JournalLineOf journal line BadLine)

-- a fault that tells a line by its number in its journal, in place of that among the account's own
abbrev pub in_journals : ℕ → List (List ℕ) → Fault → Fault
in_journals account journals (JournalLineOf journal line why) = JournalLineOf journal (lines_through account line (line_requests (get_or journals journal []))) why
in_journals account journals fault = fault

-- ---- worked rows

-- the account's first line is the second of its journal, and what tells no line is told as it is
second_of_journal : in_journals 7 (codes "" ∷ codes "TAP 1 1 8 0 2 IN\nTAP 1 1 7 0 2 IN\n" ∷ []) (JournalLineOf 1 1 UnknownPlace) ≡ JournalLineOf 1 2 UnknownPlace
unfolding request_of tap_of
second_of_journal = refl

no_line : in_journals 7 [] BadZone ≡ BadZone
no_line = refl
