-- How the job explain ends, by the texts of its fare file, of its zone and of its journals, and by what is asked for.
use Rattle.std.specs.Prelude.{◌≡◌, ◌⊎◌, ℕ, Bool, if◌then◌else◌, List, ◌++◌, Option, None}
use Rattle.std.specs.Io.KnownBytes.{Appends}
use Rattle.pay_names.specs.Words.{Named}
use Rattle.pay_rules.specs.Accepted.{Accepted}
use Rattle.pay_tables.specs.Words.{FareEditions}
use Rattle.pay_explain.specs.Explained.{explained_day, explained_week}
use Rattle.pay_wire.specs.Words.{AppendsFront}
use Rattle.pay_run.specs.Words.{Machine}
use Rattle.pay_jobs.specs.Replays.{IsStoppedAmong}
use Rattle.pay_jobs.specs.Run.{AreNotRead, Begins}
use Rattle.pay_jobs.specs.declared.fault.Fault.{Fault}
use Rattle.pay_jobs.specs.declared.fault.Fault.TheVariants.{Output}
use Rattle.pay_explain_job.specs.Accounts.{Given, IsTold}
use Rattle.pay_explain_job.specs.Heads.{day_head, week_head}
use Rattle.pay_explain_job.specs.OwnLines.{AreOwned, IsOtherLine, in_journals, own_given}

-- what it is asked for: a service day of an account, or the week of that day through it
pub record Query : Type 0 where
  pub account : ℕ
  pub day : ℕ
  pub week : Bool

abbrev pub query : ℕ → ℕ → Bool → Query
query account day week = record { account = account; day = day; week = week }

-- ---- the text, by what an account has accepted

-- the day with its date, and why it was charged, where places have these names and amounts are in this currency
abbrev pub day_text : Named → List ℕ → FareEditions → Accepted → ℕ → ℕ → List ℕ
day_text names currency editions accepted account day = day_head currency account day ++ explained_day names editions accepted day

-- the days of the week with their dates, and why it was charged
abbrev pub week_text : List ℕ → FareEditions → Accepted → ℕ → ℕ → List ℕ
week_text currency editions accepted account through = week_head currency account through ++ explained_week editions accepted through

abbrev pub text_of : Query → Named → List ℕ → FareEditions → Accepted → List ℕ
text_of query names currency editions accepted =
    if query.week then week_text currency editions accepted query.account query.day else day_text names currency editions accepted query.account query.day

-- ---- how the job ends

-- Each line of the journals is a tap or a correction, and this is the text of what the account has accepted by its own, in the fare file's
-- currency, with the names that it gives to places.
pub record IsExplained (given : Given) (query : Query) (text : List ℕ) : Type 0 where
  pub owned : AreOwned given.journals
  pub told : IsTold (text_of query) (own_given given.fares given.zone query.account given.journals) query.account text

-- The job ended by itself: the text was written, and nothing else.
abbrev pub ExplainWritten : Given → Query → Option (List ℕ) → Option (List ℕ) → Type 0
ExplainWritten given query held written = (text : List ℕ) × IsExplained given query text × Appends held written text

-- The writer failed: of the text no more than a front was written.
abbrev pub StopsWriting : Given → Query → Option (List ℕ) → Option (List ℕ) → Type 0
StopsWriting given query held written = (text : List ℕ) × IsExplained given query text × AppendsFront held written text

-- Why nothing is told by journals: the fare file or the zone is not read, or a line of a journal is refused so, where all before it are
-- accepted. The journals are told by their numbers, from 0 on. Want of memory counts as a fare file that is not read.
abbrev pub IsNotExplained : Given → Fault → Type 0
IsNotExplained given fault =
    AreNotRead given.fares given.zone fault ⊎ ((machine : Machine) × Begins given.fares given.zone None machine × IsStoppedAmong machine.zone machine.editions given.journals 0 fault)

-- Why there is no text of an account: a line of the journals is neither a tap nor a correction, or by the account's own lines nothing is told.
-- Either is told by its number in its journal.
abbrev pub IsUnexplained : Given → ℕ → Fault → Type 0
IsUnexplained given account fault =
    IsOtherLine given.journals fault ⊎ ((own : Fault) × IsNotExplained (own_given given.fares given.zone account given.journals) own × (fault ≡ in_journals account given.journals own))

-- how the job failed: the writer did, or there is no text, and then nothing was written
abbrev pub ExplainRefused : Given → Query → Option (List ℕ) → Option (List ℕ) → Fault → Type 0
ExplainRefused given query held written fault = ((fault ≡ Output) × StopsWriting given query held written) ⊎ (IsUnexplained given query.account fault × (written ≡ held))
