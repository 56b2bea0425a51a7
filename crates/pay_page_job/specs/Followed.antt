-- Journals that are followed, and pages of them.
use Rattle.std.specs.Prelude.{◌≡◌, ℕ, ◌==◌, ◌&&◌, Bool, true, ⊤, List, [], ◌∷◌, ◌++◌, get_or, slice_set, take, drop}
use Rattle.pay_explain_job.specs.Explain.{Query, query}
use Rattle.pay_explain_job.specs.OwnLines.{own_given}
use Rattle.pay_explain_job.specs.Pages.{Beside, beside, IsJson, IsPaged}
use Rattle.pay_page.specs.Words.{is_of_ledger}
use Rattle.pay_day.specs.Words.{monday}
use Rattle.pay_page.specs.declared.posted.Posted.{Posted}
use Rattle.pay_page.specs.declared.posted.Posted.TheVariants.{NoLedger, Unknown, Known}
use Rattle.pay_rules.specs.declared.posting.Posting.{Posting}
use Rattle.pay_page_job.specs.declared.offers.Offers.{Offers}
use Rattle.pay_session.specs.Words.{rest_of}
use Rattle.pay_web.specs.declared.asked.Asked.{Asked}

-- one journal has the whole lines of a text more, which are so many bytes; the others are as before
pub record IsReadOn (old new : List (List ℕ)) (journal : ℕ) (text : List ℕ) (taken : ℕ) : Type 0 where
  pub whole : drop taken text ≡ rest_of text
  pub journals : new ≡ slice_set old journal (get_or old journal [] ++ take taken text)

-- whether postings are all of an account and a week, which its Monday names
abbrev pub are_of : ℕ → ℕ → List Posting → Bool
are_of account week [] = true
are_of account week (posting ∷ postings) = (posting.quote.account == account && posting.quote.week == week) && are_of account week postings

abbrev pub AreOfWeek : ℕ → ℕ → Posted → Type 0
AreOfWeek account week NoLedger = ⊤
AreOfWeek account week Unknown = ⊤
AreOfWeek account week (Known postings) = are_of account week postings ≡ true

-- What was posted is looked up for a week, where there is a ledger, and nowhere else; and it is of that account and that week.
pub record IsLookedUp (offers : Offers) (asked : Asked) (posted : Posted) : Type 0 where
  pub of_ledger : is_of_ledger posted ≡ (offers.has_ledger && asked.week)
  pub of_week : AreOfWeek asked.account (monday asked.day) posted

-- what is asked for, of an account
abbrev pub query_of : Asked → Query
query_of asked = query asked.account asked.day asked.week

-- the page of what is asked for, by the account's own lines of some journals
abbrev pub IsPageOf : List ℕ → List ℕ → Beside → Asked → List ℕ → Type 0
IsPageOf fares zone it asked text =
    (journals : List (List ℕ)) × IsPaged (own_given fares zone asked.account journals) (query_of asked) it text

-- the same for programs
abbrev pub IsJsonOf : List ℕ → List ℕ → Posted → Asked → List ℕ → Type 0
IsJsonOf fares zone posted asked text =
    (journals : List (List ℕ)) × IsJson (own_given fares zone asked.account journals) (query_of asked) posted text

-- either, with what was posted
abbrev pub IsShownPage : List ℕ → List ℕ → Offers → Asked → List ℕ → Type 0
IsShownPage fares zone offers asked text = (posted : Posted) × IsLookedUp offers asked posted × IsPageOf fares zone (beside offers.corrects posted) asked text

abbrev pub IsShownJson : List ℕ → List ℕ → Offers → Asked → List ℕ → Type 0
IsShownJson fares zone offers asked text = (posted : Posted) × IsLookedUp offers asked posted × IsJsonOf fares zone posted asked text
