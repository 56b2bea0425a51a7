-- The pages of an account, by the texts of journals.
use Rattle.std.specs.Prelude.{◌≡◌, ℕ, Bool, if◌then◌else◌, List}
use Rattle.pay_json.specs.Days.{day_value}
use Rattle.pay_json.specs.Posted.{posted_members}
use Rattle.pay_json.specs.Weeks.{week_value}
use Rattle.pay_names.specs.Words.{Named, called_in_text}
use Rattle.pay_page.specs.DayPages.{day_page_text}
use Rattle.pay_page.specs.Posted.{posted_part}
use Rattle.pay_page.specs.WeekPages.{week_page_text}
use Rattle.pay_page.specs.declared.posted.Posted.{Posted}
use Rattle.pay_rules.specs.Accepted.{Accepted, version}
use Rattle.pay_tables.specs.Words.{FareEditions}
use Rattle.serde_json.specs.Data.{Members}
use Rattle.serde_json.specs.Written.{compact_text}
use Rattle.pay_explain_job.specs.Accounts.{Given, IsTold}
use Rattle.pay_explain_job.specs.Explain.{Query}

-- what stands on a page beside why an account was charged: whether accounts may be corrected, and what was posted for its week
pub record Beside : Type 0 where
  pub corrects : Bool
  pub posted : Posted

abbrev pub beside : Bool → Posted → Beside
beside corrects posted = record { corrects = corrects; posted = posted }

-- the page of a day, where places have these names, or of a week, with this part of what was posted
abbrev pub page_text : Bool → List ℕ → Query → Named → List ℕ → FareEditions → Accepted → List ℕ
page_text corrects part query names currency editions accepted =
    if query.week then week_page_text corrects part editions accepted query.account query.day
    else day_page_text corrects names editions accepted query.account query.day

-- This is the page of what the account has accepted by the journals, with the names that the fare file gives to places. What was posted is
-- told with the names that it gives to operators, and beside how many taps and corrections these are.
pub record IsPaged (given : Given) (query : Query) (it : Beside) (text : List ℕ) : Type 0 where
  pub part : List ℕ
  pub told : IsTold (page_text it.corrects part query) given query.account text
  pub posted : part ≡ posted_part (called_in_text given.fares).operators (version told.accepted) it.posted

-- the same for programs
abbrev pub json_text : Members → Query → Named → List ℕ → FareEditions → Accepted → List ℕ
json_text field query names currency editions accepted =
    if query.week then compact_text (week_value field currency editions accepted query.account query.day)
    else compact_text (day_value names currency editions accepted query.account query.day)

pub record IsJson (given : Given) (query : Query) (posted : Posted) (text : List ℕ) : Type 0 where
  pub field : Members
  pub told : IsTold (json_text field query) given query.account text
  pub posted_then : field ≡ posted_members (called_in_text given.fares).operators (version told.accepted) posted
