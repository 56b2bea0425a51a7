-- What the words of the process ask for.
use Rattle.std.specs.Prelude.{◌≡◌, ◌≢◌, ◌≤◌, ◌<◌, ℕ, List, [], ◌∷◌, ◌++◌, codes, option_map, refl, Result, MatchResult, IsOkAnd}
use Rattle.std.specs.Prelude.{◌⊎◌, ⊤, true, false, Some, None, IfSome, is_some, if◌then◌else◌}
use Rattle.std.specs.Str.{bytes_eq, chars}
use Rattle.std.specs.String.{string_bytes}
use Rattle.clap.specs.Walk.{texts}
use Rattle.pay_dates.specs.Reading.{day_on_literals}
use Rattle.pay_dates.specs.Words.{day_of_text}
use Rattle.pay_day.specs.Words.{IsDay}
use Rattle.pay_words.specs.declared.words.Job.{Job}
use Rattle.pay_words.specs.declared.words.Job.TheVariants.{Run as RunJob, Check as CheckJob, Statement as StatementJob, Explain as ExplainJob, Page as PageJob, Replay, Serve as ServeJob, Stay as StayJob, Audit as AuditJob, Rebuild, Follow as FollowJob, Log as LogJob}
use Rattle.pay_words.specs.declared.words.RunWords.{RunWords}
use Rattle.pay_words.specs.declared.words.CheckWords.{CheckWords}
use Rattle.pay_words.specs.declared.words.StatementWords.{StatementWords}
use Rattle.pay_words.specs.declared.words.ExplainWords.{ExplainWords}
use Rattle.pay_words.specs.declared.words.PageWords.{PageWords}
use Rattle.pay_words.specs.declared.words.ServeWords.{ServeWords}
use Rattle.pay_words.specs.declared.words.StayWords.{StayWords}
use Rattle.pay_words.specs.declared.words.Service.{Service}
use Rattle.pay_words.specs.declared.words.AuditWords.{AuditWords}
use Rattle.pay_words.specs.declared.words.FollowWords.{FollowWords}
use Rattle.pay_words.specs.declared.words.LogAction.TheVariants as actions
use Rattle.pay_words.specs.declared.words.LogWords.{LogWords}
use Rattle.pay_words.specs.declared.words.WordsFault.{WordsFault}
use Rattle.pay_words.specs.declared.words.WordsFault.TheVariants.{Help, Version, Usage, Memory}
use Rattle.pay_words.specs.declared.limits.TheConstants.{MOST_ACCOUNT, MOST_PORT, MOST_SERVED_LANES, MOST_STAYING_LANES, MOST_SHARDS, MOST_SESSIONS, MOST_AHEAD, MOST_PARTITIONS}
pub use Rattle.pay_words.specs.OneWord.{Text, Word, value, dashes, call_for_help, call_for_version, option, word_kind}
pub use Rattle.pay_words.specs.OneWord.{Reader, any_text, is_account, is_port, number_of}
pub use Rattle.pay_words.specs.Options.{HasNoHyphen}
use Rattle.pay_words.specs.Options.{Part, Said, StandApart, all_of, all_said, help_wanted, not_taken, plain, apart, joined, plain_words, values_of, words_of_parts}
use Rattle.pay_words.specs.Options.{port_option, lanes_option, shards_option, sessions_option, close_option, control_option, ahead_option, refused_option, greeting_option, journal_option, sync_option, ledger_option, early_option}
use Rattle.pay_words.specs.Options.{lint_option, against_option, after_option, week_option, staff_option, long_option, log_option, partition_option, of_option, replicas_option}
use Rattle.pay_words.specs.Audit.{AreAuditParts, Audit, audit_grammar}
use Rattle.pay_words.specs.Check.{AreCheckParts, Check, CheckTexts, check_grammar, check_of_texts, has_against, may_check}
use Rattle.pay_words.specs.Explain.{AreExplainParts, Explain, ExplainTexts, explain_grammar, explain_of_texts}
use Rattle.pay_words.specs.Follow.{AreFollowNumbers, AreFollowParts, Follow, FollowTexts, follow_grammar, follow_of_texts, may_follow}
use Rattle.pay_words.specs.Greeting.{is_greeting}
use Rattle.pay_words.specs.Log.{AreLogNumbers, AreLogParts, IsActionInRange, Log, LogTexts, log_grammar, log_of_texts, may_log}
use Rattle.pay_words.specs.Node.{node_port}
use Rattle.pay_words.specs.Page.{ArePageParts, ArePorts, Page, PageTexts, has_control, may_show, page_grammar, page_of_texts}
use Rattle.pay_words.specs.Rebuild.{rebuild_grammar}
use Rattle.pay_words.specs.Run.{AreRunParts, Run, first_given, has_journal, is_given, run_grammar}
use Rattle.pay_words.specs.Serve.{AreInRange, ArePartsOf, Serve, ServeTexts, is_whole, last_port, numbers_of, serve_grammar}
use Rattle.pay_words.specs.Statement.{AreStatementParts, Statement, StatementTexts, has_lines, may_state, shows_postings, statement_grammar, statement_of_texts}

-- ---- the words of a program that takes values alone, and help

-- its values, or what the first word that is refused or calls for help comes to
pub data Given : Type 0 where
  values : List Text → Given
  help : Given
  refused : Given

abbrev pub with_value : Text → Given → Given
with_value word (values rest) = values (word ∷ rest)
with_value word help = help
with_value word refused = refused

-- a word by its kind, where any number of values may come, and what the words after it give
abbrev pub many_by : Word → Text → List Text → Given → Given
many_by value word rest after = with_value word after
many_by dashes word rest after = values rest
many_by call_for_help word rest after = help
many_by call_for_version word rest after = refused
many_by option word rest after = refused

-- the words, each of which that is a value is taken
abbrev pub many_given : List Text → Given
many_given [] = values []
many_given (word ∷ rest) = many_by (word_kind word) word rest (many_given rest)

-- ---- the words of the process

-- what the words ask for
pub data Asked : Type 0 where
  -- `run` with its fare file and zone, and the values of its options
  run : Run → Asked
  -- `check` with its fare file, and the values of its options
  check : Check → Asked
  -- `statement` with its fare file, zone, account and day, and the value of its option
  statement : Statement → Asked
  -- `explain` with its fare file, zone, account and day, and the values of its options
  explain : Explain → Asked
  -- `page` with its fare file and zone, and the values of its options
  page : Page → Asked
  -- `replay` with its fare file, zone and journals
  replay : Text → Text → List Text → Asked
  -- `serve` with its fare file, zone and the values of its options
  serve : Serve → Asked
  -- `audit` with its fare file and zone, and the values of its options
  audit : Audit → Asked
  -- `rebuild` with its fare file and ledger
  rebuild : Text → Text → Asked
  -- `follow` with its fare file and zone, and the values of its options
  follow : Follow → Asked
  -- `log` with its action, fare file and zone, and the values of its options
  log : Log → Asked
  -- help, by `-h` or `--help`
  help_asked : Asked
  -- the word `help`: help, or usage where a word after it names no program
  help_named : Asked
  -- the version, by `-V` or `--version` in the place of a program
  version_asked : Asked
  -- nothing that the program takes
  usage : Asked

-- two values, and what each option was given
abbrev pub run_of : List Text → List Text → List Text → List Text → List Text → Asked
run_of (fares ∷ zone ∷ []) j s l e = run (record {
  fares = fares;
  zone = zone;
  journal = first_given j;
  syncs = is_given s;
  ledger = first_given l;
  early = is_given e;
})
run_of _ _ _ _ _ = usage

-- `run FARES ZONE` and its options
abbrev pub run_asked : Said → Asked
run_asked (all_of parts) = run_of (plain_words parts) (values_of journal_option parts) (values_of sync_option parts)
    (values_of ledger_option parts) (values_of early_option parts)
run_asked help_wanted = help_asked
run_asked not_taken = usage

-- a value, and what each option was given
abbrev pub check_of : List Text → List Text → List Text → List Text → Asked
check_of (fares ∷ []) l g a = check (check_of_texts (record {
  fares = fares;
  lints = is_given l;
  against = first_given g;
  after = first_given a;
}))
check_of _ _ _ _ = usage

-- `check FARES` and its options
abbrev pub check_asked : Said → Asked
check_asked (all_of parts) = check_of (plain_words parts) (values_of lint_option parts) (values_of against_option parts) (values_of after_option parts)
check_asked help_wanted = help_asked
check_asked not_taken = usage

-- four values, and what each option was given
abbrev pub statement_of : List Text → List Text → List Text → List Text → Asked
statement_of (fares ∷ zone ∷ account ∷ day ∷ []) j l w = statement (statement_of_texts (record {
  fares = fares;
  zone = zone;
  account = account;
  day = day;
  journal = first_given j;
  ledger = first_given l;
  long = is_given w;
}))
statement_of _ _ _ _ = usage

-- `statement FARES ZONE ACCOUNT DAY` and its options
abbrev pub statement_asked : Said → Asked
statement_asked (all_of parts) = statement_of (plain_words parts) (values_of journal_option parts) (values_of ledger_option parts)
    (values_of long_option parts)
statement_asked help_wanted = help_asked
statement_asked not_taken = usage

-- four values, one journal, and what each other option was given
abbrev pub explain_of : List Text → List Text → List Text → List Text → Asked
explain_of (fares ∷ zone ∷ account ∷ day ∷ []) (j ∷ []) l w = explain (explain_of_texts (record {
  fares = fares;
  zone = zone;
  account = account;
  day = day;
  journal = j;
  ledger = first_given l;
  week = is_given w;
}))
explain_of _ _ _ _ = usage

-- `explain FARES ZONE ACCOUNT DAY` and its options
abbrev pub explain_asked : Said → Asked
explain_asked (all_of parts) = explain_of (plain_words parts) (values_of journal_option parts) (values_of ledger_option parts)
    (values_of week_option parts)
explain_asked help_wanted = help_asked
explain_asked not_taken = usage

-- two values, one journal, one port, and what each other option was given
abbrev pub page_of : List Text → List Text → List Text → List Text → List Text → List Text → List Text → Asked
page_of (fares ∷ zone ∷ []) (j ∷ []) (p ∷ []) c t s l = page (page_of_texts (record {
  fares = fares;
  zone = zone;
  journal = j;
  port = p;
  control = first_given c;
  greeting = first_given t;
  staff = first_given s;
  ledger = first_given l;
}))
page_of _ _ _ _ _ _ _ = usage

-- `page FARES ZONE` and its options
abbrev pub page_asked : Said → Asked
page_asked (all_of parts) = page_of (plain_words parts) (values_of journal_option parts) (values_of port_option parts)
    (values_of control_option parts) (values_of greeting_option parts) (values_of staff_option parts)
    (values_of ledger_option parts)
page_asked help_wanted = help_asked
page_asked not_taken = usage

-- `replay FARES ZONE FILE..`
abbrev pub replay_asked : Given → Asked
replay_asked (values (fares ∷ zone ∷ file ∷ files)) = replay fares zone (file ∷ files)
replay_asked help = help_asked
replay_asked _ = usage

-- two values, one value for each option that is needed, and what each other was given
abbrev pub serve_of : List Text → List Text → List Text → List Text → List Text → List Text → List Text → List Text → List Text → List Text → List Text → List Text → List Text → Asked
serve_of (fares ∷ zone ∷ []) (p ∷ []) (l ∷ []) (n ∷ []) k d c a u t j g e = serve (numbers_of (record {
  fares = fares;
  zone = zone;
  port = p;
  lanes = l;
  shards = n;
  sessions = first_given k;
  close = first_given d;
  control = first_given c;
  ahead = first_given a;
  refused = first_given u;
  greeting = first_given t;
  journal = first_given j;
  ledger = first_given g;
  early = is_given e;
}))
serve_of _ _ _ _ _ _ _ _ _ _ _ _ _ = usage

-- `serve FARES ZONE` and its options
abbrev pub serve_asked : Said → Asked
serve_asked (all_of parts) = serve_of (plain_words parts) (values_of port_option parts) (values_of lanes_option parts)
    (values_of shards_option parts) (values_of sessions_option parts) (values_of close_option parts) (values_of control_option parts)
    (values_of ahead_option parts) (values_of refused_option parts) (values_of greeting_option parts) (values_of journal_option parts)
    (values_of ledger_option parts) (values_of early_option parts)
serve_asked help_wanted = help_asked
serve_asked not_taken = usage

-- two values, one journal, and what the other option was given
abbrev pub audit_of : List Text → List Text → List Text → Asked
audit_of (fares ∷ zone ∷ []) (j ∷ []) l = audit (record {
  fares = fares;
  zone = zone;
  journal = j;
  ledger = first_given l;
})
audit_of _ _ _ = usage

-- `audit FARES ZONE` and its options
abbrev pub audit_asked : Said → Asked
audit_asked (all_of parts) = audit_of (plain_words parts) (values_of journal_option parts) (values_of ledger_option parts)
audit_asked help_wanted = help_asked
audit_asked not_taken = usage

abbrev pub rebuild_of : List Text → Asked
rebuild_of (fares ∷ ledger ∷ []) = rebuild fares ledger
rebuild_of _ = usage

-- `rebuild FARES LEDGER`
abbrev pub rebuild_asked : Said → Asked
rebuild_asked (all_of parts) = rebuild_of (plain_words parts)
rebuild_asked help_wanted = help_asked
rebuild_asked not_taken = usage

-- two values, and one value for each option
abbrev pub follow_of : List Text → List Text → List Text → List Text → List Text → Asked
follow_of (fares ∷ zone ∷ []) (u ∷ []) (p ∷ []) (n ∷ []) (l ∷ []) = follow (follow_of_texts (record {
  fares = fares;
  zone = zone;
  log = u;
  partition = p;
  of = n;
  ledger = l;
}))
follow_of _ _ _ _ _ = usage

-- `follow FARES ZONE` and its options
abbrev pub follow_asked : Said → Asked
follow_asked (all_of parts) = follow_of (plain_words parts) (values_of log_option parts) (values_of partition_option parts)
    (values_of of_option parts) (values_of ledger_option parts)
follow_asked help_wanted = help_asked
follow_asked not_taken = usage

-- three values, one value for each option that is needed, and what the other was given
abbrev pub log_of : List Text → List Text → List Text → List Text → Asked
log_of (action ∷ fares ∷ zone ∷ []) (u ∷ []) (n ∷ []) r = log (log_of_texts (record {
  action = action;
  fares = fares;
  zone = zone;
  log = u;
  of = n;
  replicas = first_given r;
}))
log_of _ _ _ _ = usage

-- `log ACTION FARES ZONE` and its options
abbrev pub log_asked : Said → Asked
log_asked (all_of parts) = log_of (plain_words parts) (values_of log_option parts) (values_of of_option parts) (values_of replicas_option parts)
log_asked help_wanted = help_asked
log_asked not_taken = usage

abbrev pub option_asked : Word → Asked
option_asked call_for_help = help_asked
option_asked call_for_version = version_asked
option_asked _ = usage

abbrev pub program_asked : Text → List Text → Asked
program_asked program rest = if bytes_eq (codes "run") program then run_asked (all_said run_grammar rest)
    else (if bytes_eq (codes "check") program then check_asked (all_said check_grammar rest)
    else (if bytes_eq (codes "statement") program then statement_asked (all_said statement_grammar rest)
    else (if bytes_eq (codes "explain") program then explain_asked (all_said explain_grammar rest)
    else (if bytes_eq (codes "page") program then page_asked (all_said page_grammar rest)
    else (if bytes_eq (codes "replay") program then replay_asked (many_given rest)
    else (if bytes_eq (codes "serve") program then serve_asked (all_said serve_grammar rest)
    else (if bytes_eq (codes "audit") program then audit_asked (all_said audit_grammar rest)
    else (if bytes_eq (codes "rebuild") program then rebuild_asked (all_said rebuild_grammar rest)
    else (if bytes_eq (codes "follow") program then follow_asked (all_said follow_grammar rest)
    else (if bytes_eq (codes "log") program then log_asked (all_said log_grammar rest)
    else (if bytes_eq (codes "help") program then help_named
    else option_asked (word_kind program))))))))))))

-- the first word is the program's own name, and the second names what it is to do
abbrev pub words_ask : List Text → Asked
words_ask (name ∷ program ∷ rest) = program_asked program rest
words_ask _ = usage

-- a service ends or stays, a run without a journal brings no lines to the disk, a day is one, days up to one are
-- compared with another fare file alone, a long statement has a journal, by which alone it has a ledger, pages ask a
-- service at a port of their own, without which they have no clerks, what follows a log has a node and one of its
-- partitions, what makes one has a node and a number of replicas, and what checks one has a node alone
abbrev pub allowed : Asked → Asked
allowed (run r) = if has_journal r then run r else usage
allowed (check c) = if may_check c then check c else usage
allowed (statement s) = if may_state s then statement s else usage
allowed (explain e) = if is_some e.day then explain e else usage
allowed (page p) = if may_show p then page p else usage
allowed (serve s) = if is_whole s then serve s else usage
allowed (follow f) = if may_follow f then follow f else usage
allowed (log l) = if may_log l then log l else usage
allowed what = what

abbrev pub asked : List Text → Asked
asked words = allowed (words_ask words)

-- ---- the result

-- what is written where the version is asked for
abbrev pub version_line : Text
version_line = codes "farebox 0.1.0\n"

abbrev pub run_job : RunWords → Run
run_job w = record {
  fares = w.fares.now;
  zone = w.zone.now;
  journal = option_map (λ s. s.now) w.journal;
  syncs = w.syncs;
  ledger = option_map (λ s. s.now) w.ledger;
  early = w.early;
}

abbrev pub check_job : CheckWords → Check
check_job w = record {
  fares = w.fares.now;
  lints = w.lints;
  against = option_map (λ s. s.now) w.against;
  after = option_map Some w.after;
}

abbrev pub statement_job : StatementWords → Statement
statement_job w = record {
  fares = w.fares.now;
  zone = w.zone.now;
  account = w.account;
  day = Some w.day;
  journal = option_map (λ s. s.now) w.journal;
  ledger = option_map (λ s. s.now) w.ledger;
  long = w.long;
}

abbrev pub explain_job : ExplainWords → Explain
explain_job w = record {
  fares = w.fares.now;
  zone = w.zone.now;
  account = w.account;
  day = Some w.day;
  journal = w.journal.now;
  ledger = option_map (λ s. s.now) w.ledger;
  week = w.week;
}

abbrev pub page_job : PageWords → Page
page_job w = record {
  fares = w.fares.now;
  zone = w.zone.now;
  journal = w.journal.now;
  port = w.port;
  control = w.control;
  greeting = option_map (λ s. s.now) w.greeting;
  staff = option_map (λ s. s.now) w.staff;
  ledger = option_map (λ s. s.now) w.ledger;
}

abbrev pub served_job : ServeWords → Serve
served_job w = record {
  fares = w.fares.now;
  zone = w.zone.now;
  port = w.port;
  lanes = w.lanes;
  shards = w.shards;
  sessions = Some w.sessions;
  close = Some (Some w.close);
  control = None;
  ahead = None;
  refused = None;
  greeting = None;
  journal = option_map (λ s. s.now) w.journal;
  ledger = option_map (λ s. s.now) w.ledger;
  early = w.early;
}

abbrev pub staying_job : StayWords → Serve
staying_job w = record {
  fares = w.fares.now;
  zone = w.zone.now;
  port = w.port;
  lanes = w.lanes;
  shards = w.shards;
  sessions = None;
  close = None;
  control = Some w.control;
  ahead = w.ahead;
  refused = option_map (λ s. s.now) w.refused;
  greeting = option_map (λ s. s.now) w.greeting;
  journal = Some w.journal.now;
  ledger = Some w.ledger.now;
  early = w.early;
}

-- the values of `serve`, of either form or of none
abbrev pub service_values : Service → Serve
service_values w = record {
  fares = w.fares.now;
  zone = w.zone.now;
  port = w.port;
  lanes = w.lanes;
  shards = w.shards;
  sessions = w.sessions;
  close = option_map (λ s. day_of_text s.now) w.close;
  control = w.control;
  ahead = w.ahead;
  refused = option_map (λ s. s.now) w.refused;
  greeting = option_map (λ s. s.now) w.greeting;
  journal = option_map (λ s. s.now) w.journal;
  ledger = option_map (λ s. s.now) w.ledger;
  early = w.early;
}

abbrev pub audit_job : AuditWords → Audit
audit_job w = record {
  fares = w.fares.now;
  zone = w.zone.now;
  journal = w.journal.now;
  ledger = option_map (λ s. s.now) w.ledger;
}

abbrev pub follow_job : FollowWords → Follow
follow_job w = record {
  fares = w.fares.now;
  zone = w.zone.now;
  port = Some w.port;
  partition = w.partition;
  of = w.of;
  ledger = w.ledger.now;
}

abbrev pub log_job : LogWords → Log
log_job w = record {
  action = Some w.action;
  fares = w.fares.now;
  zone = w.zone.now;
  port = Some w.port;
  of = w.of;
}

abbrev pub job_asked : Job → Asked
job_asked (RunJob w) = run (run_job w)
job_asked (CheckJob w) = check (check_job w)
job_asked (StatementJob w) = statement (statement_job w)
job_asked (ExplainJob w) = explain (explain_job w)
job_asked (PageJob w) = page (page_job w)
job_asked (Replay w) = replay w.fares.now w.zone.now (texts w.files.items)
job_asked (ServeJob w) = serve (served_job w)
job_asked (StayJob w) = serve (staying_job w)
job_asked (AuditJob w) = audit (audit_job w)
job_asked (Rebuild w) = rebuild w.fares.now w.ledger.now
job_asked (FollowJob w) = follow (follow_job w)
job_asked (LogJob w) = log (log_job w)

-- the words of `run` say what it is asked for, in some order
abbrev pub AreRunWords : Run → List Text → Type 0
AreRunWords r words = (parts : List Part) × (words ≡ codes "run" ∷ words_of_parts parts) × AreRunParts r parts

-- the words of `check` do; a number or a day may be spelled in several ways
abbrev pub AreCheckWords : Check → List Text → Type 0
AreCheckWords c words = (t : CheckTexts) × (parts : List Part) × (words ≡ codes "check" ∷ words_of_parts parts)
    × AreCheckParts t parts × (check_of_texts t ≡ c)

-- the words of `statement` do
abbrev pub AreStatementWords : Statement → List Text → Type 0
AreStatementWords s words = (t : StatementTexts) × (parts : List Part) × (words ≡ codes "statement" ∷ words_of_parts parts)
    × AreStatementParts t parts × (is_account t.account ≡ true) × (statement_of_texts t ≡ s)

-- the words of `explain` do
abbrev pub AreExplainWords : Explain → List Text → Type 0
AreExplainWords e words = (t : ExplainTexts) × (parts : List Part) × (words ≡ codes "explain" ∷ words_of_parts parts)
    × AreExplainParts t parts × (is_account t.account ≡ true) × (explain_of_texts t ≡ e)

-- the words of `page` do
abbrev pub ArePageWords : Page → List Text → Type 0
ArePageWords p words = (t : PageTexts) × (parts : List Part) × (words ≡ codes "page" ∷ words_of_parts parts)
    × ArePageParts t parts × ArePorts t × (page_of_texts t ≡ p)

-- the words of `serve` do
abbrev pub AreServeWords : Serve → List Text → Type 0
AreServeWords s words = (t : ServeTexts) × (parts : List Part) × (words ≡ codes "serve" ∷ words_of_parts parts)
    × ArePartsOf t parts × AreInRange t × (numbers_of t ≡ s)

-- the words of `audit` do
abbrev pub AreAuditWords : Audit → List Text → Type 0
AreAuditWords a words = (parts : List Part) × (words ≡ codes "audit" ∷ words_of_parts parts) × AreAuditParts a parts

-- the words of `follow` do
abbrev pub AreFollowWords : Follow → List Text → Type 0
AreFollowWords f words = (t : FollowTexts) × (parts : List Part) × (words ≡ codes "follow" ∷ words_of_parts parts)
    × AreFollowParts t parts × AreFollowNumbers t × (follow_of_texts t ≡ f)

-- the words of `log` do
abbrev pub AreLogWords : Log → List Text → Type 0
AreLogWords l words = (t : LogTexts) × (parts : List Part) × (words ≡ codes "log" ∷ words_of_parts parts)
    × AreLogParts t parts × AreLogNumbers t × (log_of_texts t ≡ l)

-- the words that the job was made of
abbrev pub AreJobWords : Job → List Text → Type 0
AreJobWords (RunJob w) words = AreRunWords (run_job w) words
AreJobWords (CheckJob w) words = AreCheckWords (check_job w) words
AreJobWords (StatementJob w) words = AreStatementWords (statement_job w) words
AreJobWords (ExplainJob w) words = AreExplainWords (explain_job w) words
AreJobWords (PageJob w) words = ArePageWords (page_job w) words
AreJobWords (Replay w) words = words ≡ codes "replay" ∷ w.fares.now ∷ w.zone.now ∷ texts w.files.items
AreJobWords (ServeJob w) words = AreServeWords (served_job w) words
AreJobWords (StayJob w) words = AreServeWords (staying_job w) words
AreJobWords (AuditJob w) words = AreAuditWords (audit_job w) words
AreJobWords (Rebuild w) words = words ≡ codes "rebuild" ∷ w.fares.now ∷ w.ledger.now ∷ []
AreJobWords (FollowJob w) words = AreFollowWords (follow_job w) words
AreJobWords (LogJob w) words = AreLogWords (log_job w) words

-- the numbers of a job are in their ranges, what is synced is a journal, days up to one are compared with another
-- fare file, a long statement has a journal and a short one no ledger, there is a journal to be replayed, the staff of a service that stays have a port of their own, also where
-- pages ask something of them, without which pages have no clerks, a greeting is one, where there is any, and what
-- follows a log has a port of a node and one of its partitions, as what makes or checks one has a port, some partitions,
-- and replicas where it is made
abbrev pub IsJobInRange : Job → Type 0
IsJobInRange (RunJob w) = has_journal (run_job w) ≡ true
IsJobInRange (CheckJob w) = (has_against (check_job w) ≡ true) × IfSome w.after IsDay
IsJobInRange (StatementJob w) = (1 ≤ w.account) × (w.account ≤ MOST_ACCOUNT) × IsDay w.day
    × (has_lines (statement_job w) ≡ true) × (shows_postings (statement_job w) ≡ true)
IsJobInRange (ExplainJob w) = (1 ≤ w.account) × (w.account ≤ MOST_ACCOUNT) × IsDay w.day
IsJobInRange (PageJob w) = (1 ≤ w.port) × (w.port ≤ MOST_PORT)
    × IfSome w.control (λ control. (1 ≤ control) × (control ≤ MOST_PORT) × (control ≢ w.port))
    × IfSome w.greeting (λ text. is_greeting text.now ≡ true) × (has_control (page_job w) ≡ true)
IsJobInRange (Replay w) = texts w.files.items ≢ []
IsJobInRange (ServeJob w) = (1 ≤ w.port) × (1 ≤ w.lanes) × (w.lanes ≤ MOST_SERVED_LANES) × (last_port w.port w.lanes ≤ MOST_PORT)
    × (1 ≤ w.shards) × (w.shards ≤ MOST_SHARDS) × (1 ≤ w.sessions) × (w.sessions ≤ MOST_SESSIONS) × IsDay w.close
IsJobInRange (StayJob w) = (1 ≤ w.port) × (1 ≤ w.control) × (w.control ≢ w.port) × (1 ≤ w.lanes) × (w.lanes ≤ MOST_STAYING_LANES)
    × (1 ≤ w.shards) × (w.shards ≤ MOST_SHARDS) × IfSome w.ahead (λ s. s ≤ MOST_AHEAD)
    × IfSome w.greeting (λ text. is_greeting text.now ≡ true)
IsJobInRange (AuditJob w) = ⊤
IsJobInRange (Rebuild w) = ⊤
IsJobInRange (FollowJob w) = (1 ≤ w.port) × (w.port ≤ MOST_PORT) × (w.partition < w.of) × (w.of ≤ MOST_PARTITIONS)
IsJobInRange (LogJob w) = (1 ≤ w.port) × (w.port ≤ MOST_PORT) × (1 ≤ w.of) × (w.of ≤ MOST_PARTITIONS) × IsActionInRange w.action

-- what the fault says of the words; memory may be refused at any words
abbrev pub IsFaultOf : Asked → WordsFault → Type 0
IsFaultOf what (Help text) = (what ≡ help_asked) ⊎ (what ≡ help_named)
IsFaultOf what (Version text) = (what ≡ version_asked) × (string_bytes text ≡ version_line)
IsFaultOf what Usage = (what ≡ usage) ⊎ (what ≡ help_named)
IsFaultOf what Memory = ⊤

-- the words but for the first `--`
abbrev pub without_dashes : List Text → List Text
without_dashes [] = []
without_dashes (word ∷ rest) =
    if bytes_eq word (codes "--") then rest else word ∷ without_dashes rest

-- ---- the words of each job

abbrev pub HaveNoHyphens : List Text → Type 0
HaveNoHyphens [] = ⊤
HaveNoHyphens (word ∷ rest) = HasNoHyphen word × HaveNoHyphens rest

-- it is the job that is asked for
abbrev pub IsJob : Asked → Result Job WordsFault → Type 0
IsJob what result = IsOkAnd result (λ job. job_asked job ≡ what)

-- it is the job that is asked for, or `Usage` where none is
abbrev pub IsAnswer : Asked → Result Job WordsFault → Type 0
IsAnswer what result = MatchResult result (λ job. job_asked job ≡ what) (λ fault. (what ≡ usage) × (fault ≡ Usage))

-- it is, or memory was refused
abbrev pub IsJobOrMemory : Asked → Result Job WordsFault → Type 0
IsJobOrMemory what result = MatchResult result (λ job. job_asked job ≡ what) (λ fault. fault ≡ Memory)

-- two words with no hyphen before them, and options at most once each, in whatever order, are those of
-- `run`, where what is synced is a journal
abbrev pub RunIsTaken : List Text → Result Job WordsFault → Type 0
RunIsTaken words result = (name : Text) (r : Run) (parts : List Part) → words ≡ name ∷ codes "run" ∷ words_of_parts parts
    → AreRunParts r parts → StandApart parts → HasNoHyphen r.fares → HasNoHyphen r.zone → has_journal r ≡ true
    → IsJobOrMemory (run r) result

-- one word with no hyphen before it, and options at most once each, in whatever order, are those of `check`, where
-- the day is one, and comes with another fare file
abbrev pub CheckIsTaken : List Text → Result Job WordsFault → Type 0
CheckIsTaken words result = (name : Text) (t : CheckTexts) (parts : List Part) → words ≡ name ∷ codes "check" ∷ words_of_parts parts
    → AreCheckParts t parts → StandApart parts → HasNoHyphen t.fares → may_check (check_of_texts t) ≡ true
    → IsJobOrMemory (check (check_of_texts t)) result

-- two words with no hyphen before them, an account, a day and perhaps the options that may stand together,
-- anywhere, are those of `statement`
abbrev pub StatementIsTaken : List Text → Result Job WordsFault → Type 0
StatementIsTaken words result = (name : Text) (t : StatementTexts) (parts : List Part) → words ≡ name ∷ codes "statement" ∷ words_of_parts parts
    → AreStatementParts t parts → StandApart parts → HasNoHyphen t.fares → HasNoHyphen t.zone → is_account t.account ≡ true
    → may_state (statement_of_texts t) ≡ true
    → IsJobOrMemory (statement (statement_of_texts t)) result

-- two words with no hyphen before them, an account, a day, the journal that is needed and perhaps the other options,
-- anywhere, are those of `explain`
abbrev pub ExplainIsTaken : List Text → Result Job WordsFault → Type 0
ExplainIsTaken words result = (name : Text) (t : ExplainTexts) (parts : List Part) → words ≡ name ∷ codes "explain" ∷ words_of_parts parts
    → AreExplainParts t parts → StandApart parts → HasNoHyphen t.fares → HasNoHyphen t.zone → is_account t.account ≡ true
    → is_some (day_of_text t.day) ≡ true
    → IsJobOrMemory (explain (explain_of_texts t)) result

-- two words with no hyphen before them, the journal and the port that are needed, and perhaps the port for the staff of a
-- service, with its greeting and the file of the clerks who may correct, in whatever order, are those of `page`
abbrev pub PageIsTaken : List Text → Result Job WordsFault → Type 0
PageIsTaken words result = (name : Text) (t : PageTexts) (parts : List Part) → words ≡ name ∷ codes "page" ∷ words_of_parts parts
    → ArePageParts t parts → StandApart parts → HasNoHyphen t.fares → HasNoHyphen t.zone → ArePorts t
    → may_show (page_of_texts t) ≡ true
    → IsJobOrMemory (page (page_of_texts t)) result

-- three words or more with no hyphen before them are the values of `replay`
abbrev pub ReplayIsTaken : List Text → Result Job WordsFault → Type 0
ReplayIsTaken words result = (name fares zone file : Text) (files : List Text) → words ≡ name ∷ codes "replay" ∷ fares ∷ zone ∷ file ∷ files
    → HasNoHyphen fares → HasNoHyphen zone → HaveNoHyphens (file ∷ files)
    → IsJobOrMemory (replay fares zone (file ∷ files)) result

-- two words with no hyphen before them, the options of one of the two forms, with numbers in their ranges, and
-- perhaps others that this form may have, in whatever order, are those of `serve`
abbrev pub ServeIsTaken : List Text → Result Job WordsFault → Type 0
ServeIsTaken words result = (name : Text) (t : ServeTexts) (parts : List Part) → words ≡ name ∷ codes "serve" ∷ words_of_parts parts
    → ArePartsOf t parts → StandApart parts → HasNoHyphen t.fares → HasNoHyphen t.zone → AreInRange t → is_whole (numbers_of t) ≡ true
    → IsJobOrMemory (serve (numbers_of t)) result

-- two words with no hyphen before them, the journal that is needed, and perhaps a ledger, in whatever order, are
-- those of `audit`
abbrev pub AuditIsTaken : List Text → Result Job WordsFault → Type 0
AuditIsTaken words result = (name : Text) (a : Audit) (parts : List Part) → words ≡ name ∷ codes "audit" ∷ words_of_parts parts
    → AreAuditParts a parts → StandApart parts → HasNoHyphen a.fares → HasNoHyphen a.zone
    → IsJobOrMemory (audit a) result

-- two words with no hyphen before them are the values of `rebuild`
abbrev pub RebuildIsTaken : List Text → Result Job WordsFault → Type 0
RebuildIsTaken words result = (name fares ledger : Text) → words ≡ name ∷ codes "rebuild" ∷ fares ∷ ledger ∷ []
    → HasNoHyphen fares → HasNoHyphen ledger → IsJobOrMemory (rebuild fares ledger) result

-- two words with no hyphen before them and each option once, in whatever order, are those of `follow`, where the URL
-- has a port, and there is such a partition
abbrev pub FollowIsTaken : List Text → Result Job WordsFault → Type 0
FollowIsTaken words result = (name : Text) (t : FollowTexts) (parts : List Part) → words ≡ name ∷ codes "follow" ∷ words_of_parts parts
    → AreFollowParts t parts → StandApart parts → HasNoHyphen t.fares → HasNoHyphen t.zone → AreFollowNumbers t
    → may_follow (follow_of_texts t) ≡ true
    → IsJobOrMemory (follow (follow_of_texts t)) result

-- an action, two words with no hyphen before them, the options that are needed once, and the replicas where the action
-- needs them, in whatever order, are those of `log`, where the URL has a port
abbrev pub LogIsTaken : List Text → Result Job WordsFault → Type 0
LogIsTaken words result = (name : Text) (t : LogTexts) (parts : List Part) → words ≡ name ∷ codes "log" ∷ words_of_parts parts
    → AreLogParts t parts → StandApart parts → HasNoHyphen t.fares → HasNoHyphen t.zone → AreLogNumbers t
    → may_log (log_of_texts t) ≡ true
    → IsJobOrMemory (log (log_of_texts t)) result

-- ---- worked rows

abbrev row : List Text → Asked
row rest = asked (codes "farebox" ∷ rest)

abbrev plain_run : Run
plain_run = record { fares = codes "a"; zone = codes "b"; journal = None; syncs = false; ledger = None; early = false }

run_row : row (codes "run" ∷ codes "a" ∷ codes "b" ∷ []) ≡ run plain_run
unfolding chars
run_row = refl

dashes_row : row (codes "run" ∷ codes "a" ∷ codes "--" ∷ codes "-b" ∷ [])
    ≡ run (record plain_run { zone = codes "-b" })
unfolding chars
dashes_row = refl

abbrev with_journal : Run
with_journal = record plain_run { journal = Some (codes "j") }

journal_row : row (codes "run" ∷ codes "a" ∷ codes "b" ∷ codes "--journal" ∷ codes "j" ∷ []) ≡ run with_journal
unfolding chars
journal_row = refl

-- options before, between and after the values
all_options_row : row (codes "run" ∷ codes "--ledger=l" ∷ codes "--early" ∷ codes "a" ∷ codes "--sync" ∷ codes "b" ∷ codes "--journal" ∷ codes "j" ∷ [])
    ≡ run (record with_journal { syncs = true; ledger = Some (codes "l"); early = true })
unfolding chars
all_options_row = refl

ledger_row : row (codes "run" ∷ codes "--ledger" ∷ codes "l" ∷ codes "--" ∷ codes "a" ∷ codes "b" ∷ []) ≡ run (record plain_run { ledger = Some (codes "l") })
unfolding chars
ledger_row = refl

-- without a journal nothing can be synced
sync_row : row (codes "run" ∷ codes "a" ∷ codes "b" ∷ codes "--sync" ∷ []) ≡ usage
unfolding chars
sync_row = refl

-- without a ledger a day that is not over may be asked for all the same
early_row : row (codes "run" ∷ codes "a" ∷ codes "b" ∷ codes "--early" ∷ []) ≡ run (record plain_run { early = true })
unfolding chars
early_row = refl

early_ledger_row : row (codes "run" ∷ codes "--early" ∷ codes "--ledger" ∷ codes "l" ∷ codes "a" ∷ codes "b" ∷ [])
    ≡ run (record plain_run { ledger = Some (codes "l"); early = true })
unfolding chars
early_ledger_row = refl

early_twice_row : row (codes "run" ∷ codes "a" ∷ codes "b" ∷ codes "--early" ∷ codes "--early" ∷ []) ≡ usage
unfolding chars
early_twice_row = refl

early_value_row : row (codes "run" ∷ codes "a" ∷ codes "b" ∷ codes "--early=true" ∷ []) ≡ usage
unfolding chars
early_value_row = refl

-- a flag has no value, and is given once
sync_value_row : row (codes "run" ∷ codes "a" ∷ codes "b" ∷ codes "--journal" ∷ codes "j" ∷ codes "--sync=true" ∷ []) ≡ usage
unfolding chars
sync_value_row = refl

sync_twice_row : row (codes "run" ∷ codes "a" ∷ codes "b" ∷ codes "--journal=j" ∷ codes "--sync" ∷ codes "--sync" ∷ []) ≡ usage
unfolding chars
sync_twice_row = refl

journal_twice_row : row (codes "run" ∷ codes "a" ∷ codes "b" ∷ codes "--journal=j" ∷ codes "--journal=j" ∷ []) ≡ usage
unfolding chars
journal_twice_row = refl

-- a file whose name begins with a hyphen stands after an equals sign
hyphen_row : row (codes "run" ∷ codes "a" ∷ codes "b" ∷ codes "--journal" ∷ codes "-j" ∷ []) ≡ usage
unfolding chars
hyphen_row = refl

joined_hyphen_row : row (codes "run" ∷ codes "a" ∷ codes "b" ∷ codes "--journal=-j" ∷ []) ≡ run (record plain_run { journal = Some (codes "-j") })
unfolding chars
joined_hyphen_row = refl

no_file_row : row (codes "run" ∷ codes "a" ∷ codes "b" ∷ codes "--journal" ∷ []) ≡ usage
unfolding chars
no_file_row = refl

-- an option of another program is none
port_of_run_row : row (codes "run" ∷ codes "a" ∷ codes "b" ∷ codes "--port=9000" ∷ []) ≡ usage
unfolding chars
port_of_run_row = refl

short_row : row (codes "run" ∷ codes "a" ∷ []) ≡ usage
unfolding chars
short_row = refl

long_row : row (codes "run" ∷ codes "a" ∷ codes "b" ∷ codes "c" ∷ []) ≡ usage
unfolding chars
long_row = refl

option_row : row (codes "run" ∷ codes "a" ∷ codes "b" ∷ codes "--x" ∷ []) ≡ usage
unfolding chars
option_row = refl

abbrev plain_check : Check
plain_check = record { fares = codes "a"; lints = false; against = None; after = None }

abbrev check_words : List Text → List Text
check_words rest = codes "check" ∷ codes "a" ∷ rest

check_row : row (check_words []) ≡ check plain_check
unfolding chars
check_row = refl

check_dashes_row : row (codes "check" ∷ codes "--" ∷ codes "-a" ∷ []) ≡ check (record plain_check { fares = codes "-a" })
unfolding chars
check_dashes_row = refl

lint_row : row (check_words (codes "--lint" ∷ [])) ≡ check (record plain_check { lints = true })
unfolding chars
lint_row = refl

against_row : row (codes "check" ∷ codes "--against" ∷ codes "b" ∷ codes "a" ∷ []) ≡ check (record plain_check { against = Some (codes "b") })
unfolding chars
against_row = refl

-- options before and after the value
all_check_row : row (codes "check" ∷ codes "--after=019731" ∷ codes "a" ∷ codes "--lint" ∷ codes "--against=-b" ∷ [])
    ≡ check (record { fares = codes "a"; lints = true; against = Some (codes "-b"); after = Some (Some 19_731) })
unfolding chars day_on_literals
all_check_row = refl

-- a day comes with another fare file
after_row : row (check_words (codes "--after" ∷ codes "19731" ∷ [])) ≡ usage
unfolding chars day_on_literals
after_row = refl

after_3_row : row (check_words (codes "--against" ∷ codes "b" ∷ codes "--after" ∷ codes "3" ∷ [])) ≡ usage
unfolding chars day_on_literals
after_3_row = refl

after_4_row : row (check_words (codes "--against" ∷ codes "b" ∷ codes "--after" ∷ codes "4" ∷ []))
    ≡ check (record plain_check { against = Some (codes "b"); after = Some (Some 4) })
unfolding chars day_on_literals
after_4_row = refl

after_date_row : row (check_words (codes "--against" ∷ codes "b" ∷ codes "--after=2024-01-09" ∷ []))
    ≡ check (record plain_check { against = Some (codes "b"); after = Some (Some 19_731) })
unfolding chars day_on_literals
after_date_row = refl

after_no_day_row : row (check_words (codes "--against" ∷ codes "b" ∷ codes "--after=today" ∷ [])) ≡ usage
unfolding chars day_on_literals
after_no_day_row = refl

after_beyond_row : row (check_words (codes "--against" ∷ codes "b" ∷ codes "--after" ∷ codes "50001" ∷ [])) ≡ usage
unfolding chars day_on_literals
after_beyond_row = refl

-- each is given once, and the flag has no value
lint_twice_row : row (check_words (codes "--lint" ∷ codes "--lint" ∷ [])) ≡ usage
unfolding chars
lint_twice_row = refl

lint_value_row : row (check_words (codes "--lint=true" ∷ [])) ≡ usage
unfolding chars
lint_value_row = refl

against_twice_row : row (check_words (codes "--against=b" ∷ codes "--against=b" ∷ [])) ≡ usage
unfolding chars
against_twice_row = refl

-- a fare file is all that is checked
check_zone_row : row (check_words (codes "b" ∷ [])) ≡ usage
unfolding chars
check_zone_row = refl

abbrev statement_words : Text → Text → List Text
statement_words account day = codes "statement" ∷ codes "a" ∷ codes "b" ∷ account ∷ day ∷ []

abbrev statement_of_7 : ℕ → Statement
statement_of_7 day = record { fares = codes "a"; zone = codes "b"; account = 7; day = Some day; journal = None; ledger = None; long = false }

statement_row : row (statement_words (codes "7") (codes "19730")) ≡ statement (statement_of_7 19_730)
unfolding chars day_on_literals
statement_row = refl

statement_journal_row : row (codes "statement" ∷ codes "a" ∷ codes "b" ∷ codes "7" ∷ codes "--journal" ∷ codes "j" ∷ codes "19730" ∷ [])
    ≡ statement (record (statement_of_7 19_730) { journal = Some (codes "j") })
unfolding chars day_on_literals
statement_journal_row = refl

-- the long form has a journal
abbrev long_statement_words : List Text → List Text
long_statement_words options = statement_words (codes "7") (codes "19730") ++ codes "--journal=j" ∷ options

abbrev long_statement_of_7 : Statement
long_statement_of_7 = record (statement_of_7 19_730) { journal = Some (codes "j"); long = true }

statement_long_row : row (long_statement_words (codes "--long" ∷ [])) ≡ statement long_statement_of_7
unfolding chars day_on_literals
statement_long_row = refl

statement_long_ledger_row : row (codes "statement" ∷ codes "--ledger" ∷ codes "l" ∷ codes "a" ∷ codes "--long" ∷ codes "b" ∷ codes "7" ∷ codes "--journal=j" ∷ codes "19730" ∷ [])
    ≡ statement (record long_statement_of_7 { ledger = Some (codes "l") })
unfolding chars day_on_literals
statement_long_ledger_row = refl

-- and no standard input
statement_long_alone_row : row (statement_words (codes "7") (codes "19730") ++ codes "--long" ∷ []) ≡ usage
unfolding chars day_on_literals
statement_long_alone_row = refl

-- it is given once, and without a value
statement_long_twice_row : row (long_statement_words (codes "--long" ∷ codes "--long" ∷ [])) ≡ usage
unfolding chars
statement_long_twice_row = refl

statement_long_value_row : row (long_statement_words (codes "--long=true" ∷ [])) ≡ usage
unfolding chars
statement_long_value_row = refl

-- the short form shows nothing of a ledger
statement_short_ledger_row : row (long_statement_words (codes "--ledger=l" ∷ [])) ≡ usage
unfolding chars day_on_literals
statement_short_ledger_row = refl

statement_ledger_row : row (codes "statement" ∷ codes "a" ∷ codes "b" ∷ codes "7" ∷ codes "19730" ∷ codes "--ledger=l" ∷ []) ≡ usage
unfolding chars day_on_literals
statement_ledger_row = refl

-- and closes nothing
statement_early_row : row (codes "statement" ∷ codes "a" ∷ codes "b" ∷ codes "7" ∷ codes "19730" ∷ codes "--early" ∷ []) ≡ usage
unfolding chars
statement_early_row = refl

replay_row : row (codes "replay" ∷ codes "a" ∷ codes "b" ∷ codes "j" ∷ []) ≡ replay (codes "a") (codes "b") (codes "j" ∷ [])
unfolding chars
replay_row = refl

replay_several_row : row (codes "replay" ∷ codes "a" ∷ codes "b" ∷ codes "j" ∷ codes "--" ∷ codes "-k" ∷ codes "l" ∷ [])
    ≡ replay (codes "a") (codes "b") (codes "j" ∷ codes "-k" ∷ codes "l" ∷ [])
unfolding chars
replay_several_row = refl

replay_none_row : row (codes "replay" ∷ codes "a" ∷ codes "b" ∷ []) ≡ usage
unfolding chars
replay_none_row = refl

replay_option_row : row (codes "replay" ∷ codes "a" ∷ codes "b" ∷ codes "j" ∷ codes "--sync" ∷ []) ≡ usage
unfolding chars
replay_option_row = refl

replay_help_row : row (codes "replay" ∷ codes "a" ∷ codes "b" ∷ codes "j" ∷ codes "-h" ∷ []) ≡ help_asked
unfolding chars
replay_help_row = refl

statement_date_row : row (statement_words (codes "7") (codes "2024-01-08")) ≡ statement (statement_of_7 19_730)
unfolding chars day_on_literals
statement_date_row = refl

statement_short_date_row : row (statement_words (codes "7") (codes "2024-1-8")) ≡ usage
unfolding chars day_on_literals
statement_short_date_row = refl

greatest_account_row : row (statement_words (codes "4294967295") (codes "50000")) ≡ statement (record (statement_of_7 50_000) { account = 4_294_967_295 })
unfolding chars day_on_literals
greatest_account_row = refl

-- a number may have a plus and zeros before it
plus_row : row (statement_words (codes "+7") (codes "004")) ≡ statement (statement_of_7 4)
unfolding chars day_on_literals
plus_row = refl

account_0_row : row (statement_words (codes "0") (codes "19730")) ≡ usage
unfolding chars
account_0_row = refl

account_beyond_row : row (statement_words (codes "4294967296") (codes "19730")) ≡ usage
unfolding chars
account_beyond_row = refl

day_3_row : row (statement_words (codes "7") (codes "3")) ≡ usage
unfolding chars day_on_literals
day_3_row = refl

day_beyond_row : row (statement_words (codes "7") (codes "50001")) ≡ usage
unfolding chars day_on_literals
day_beyond_row = refl

no_number_row : row (statement_words (codes "x") (codes "19730")) ≡ usage
unfolding chars
no_number_row = refl

no_day_row : row (codes "statement" ∷ codes "a" ∷ codes "b" ∷ codes "7" ∷ []) ≡ usage
unfolding chars
no_day_row = refl

one_more_row : row (codes "statement" ∷ codes "a" ∷ codes "b" ∷ codes "7" ∷ codes "19730" ∷ codes "8" ∷ []) ≡ usage
unfolding chars
one_more_row = refl

-- help may be called for after a word that is no day
no_day_help_row : row (statement_words (codes "7") (codes "x") ++ codes "-h" ∷ []) ≡ help_asked
unfolding chars
no_day_help_row = refl

-- a number that is refused comes before a call for help after it
refused_before_help_row : row (codes "statement" ∷ codes "a" ∷ codes "b" ∷ codes "0" ∷ codes "-h" ∷ []) ≡ usage
unfolding chars
refused_before_help_row = refl

statement_help_row : row (codes "statement" ∷ codes "a" ∷ codes "b" ∷ codes "7" ∷ codes "-h" ∷ []) ≡ help_asked
unfolding chars
statement_help_row = refl

abbrev explain_words : Text → Text → List Text → List Text
explain_words account day rest = codes "explain" ∷ codes "a" ∷ codes "b" ∷ account ∷ day ∷ rest

abbrev day_of_7 : Explain
day_of_7 = record { fares = codes "a"; zone = codes "b"; account = 7; day = Some 19_730; journal = codes "j"; ledger = None; week = false }

explain_row : row (explain_words (codes "7") (codes "19730") (codes "--journal" ∷ codes "j" ∷ [])) ≡ explain day_of_7
unfolding chars day_on_literals
explain_row = refl

-- options before, between and after the values
all_explain_row : row (codes "explain" ∷ codes "--week" ∷ codes "a" ∷ codes "b" ∷ codes "--journal=-j" ∷ codes "+7" ∷ codes "--" ∷ codes "019730" ∷ [])
    ≡ explain (record day_of_7 { journal = codes "-j"; week = true })
unfolding chars day_on_literals
all_explain_row = refl

explain_last_row : row (explain_words (codes "4294967295") (codes "50000") (codes "--journal=j" ∷ codes "--week" ∷ []))
    ≡ explain (record day_of_7 { account = 4_294_967_295; day = Some 50_000; week = true })
unfolding chars day_on_literals
explain_last_row = refl

-- a journal is needed, and given once
explain_no_journal_row : row (explain_words (codes "7") (codes "19730") (codes "--week" ∷ [])) ≡ usage
unfolding chars
explain_no_journal_row = refl

explain_journal_twice_row : row (explain_words (codes "7") (codes "19730") (codes "--journal=j" ∷ codes "--journal=j" ∷ [])) ≡ usage
unfolding chars
explain_journal_twice_row = refl

-- the flag has no value, and is given once
week_value_row : row (explain_words (codes "7") (codes "19730") (codes "--journal=j" ∷ codes "--week=true" ∷ [])) ≡ usage
unfolding chars
week_value_row = refl

week_twice_row : row (explain_words (codes "7") (codes "19730") (codes "--journal=j" ∷ codes "--week" ∷ codes "--week" ∷ [])) ≡ usage
unfolding chars
week_twice_row = refl

explain_account_0_row : row (explain_words (codes "0") (codes "19730") (codes "--journal=j" ∷ [])) ≡ usage
unfolding chars
explain_account_0_row = refl

explain_day_3_row : row (explain_words (codes "7") (codes "3") (codes "--journal=j" ∷ [])) ≡ usage
unfolding chars day_on_literals
explain_day_3_row = refl

explain_no_day_row : row (codes "explain" ∷ codes "a" ∷ codes "b" ∷ codes "7" ∷ codes "--journal=j" ∷ []) ≡ usage
unfolding chars
explain_no_day_row = refl

-- a ledger may be named, once
explain_ledger_row : row (explain_words (codes "7") (codes "19730") (codes "--journal=j" ∷ codes "--ledger" ∷ codes "l" ∷ []))
    ≡ explain (record day_of_7 { ledger = Some (codes "l") })
unfolding chars day_on_literals
explain_ledger_row = refl

explain_ledger_twice_row : row (explain_words (codes "7") (codes "19730") (codes "--journal=j" ∷ codes "--ledger=l" ∷ codes "--ledger=l" ∷ [])) ≡ usage
unfolding chars
explain_ledger_twice_row = refl

-- which closes nothing
explain_early_row : row (explain_words (codes "7") (codes "19730") (codes "--journal=j" ∷ codes "--ledger=l" ∷ codes "--early" ∷ [])) ≡ usage
unfolding chars
explain_early_row = refl

-- a day is given by its date too
explain_date_row : row (explain_words (codes "7") (codes "2024-01-08") (codes "--journal=j" ∷ [])) ≡ explain day_of_7
unfolding chars day_on_literals
explain_date_row = refl

explain_no_date_row : row (explain_words (codes "7") (codes "2023-02-29") (codes "--journal=j" ∷ [])) ≡ usage
unfolding chars day_on_literals
explain_no_date_row = refl

explain_help_row : row (codes "explain" ∷ codes "a" ∷ codes "--week" ∷ codes "-h" ∷ []) ≡ help_asked
unfolding chars
explain_help_row = refl

-- a statement is of a week always
statement_week_row : row (statement_words (codes "7") (codes "19730") ++ codes "--week" ∷ []) ≡ usage
unfolding chars
statement_week_row = refl

abbrev example : Serve
example = record {
  fares = codes "a";
  zone = codes "b";
  port = 9_000;
  lanes = 2;
  shards = 4;
  sessions = Some 1;
  close = Some (Some 19_730);
  control = None;
  ahead = None;
  refused = None;
  greeting = None;
  journal = None;
  ledger = None;
  early = false;
}

-- the options that both forms need, and these words
abbrev serve_words : List Text → List Text
serve_words rest = codes "serve" ∷ codes "a" ∷ codes "b" ∷ codes "--port=9000" ∷ codes "--lanes=2" ∷ codes "--shards=4" ∷ rest

abbrev files_words : List Text
files_words = codes "--journal=j" ∷ codes "--ledger" ∷ codes "l" ∷ []

abbrev options_row : List Text → List Text
options_row rest = codes "--lanes" ∷ codes "2" ∷ codes "--shards=4" ∷ codes "--sessions" ∷ codes "1" ∷ codes "--close=19730" ∷ rest

serve_row : row (codes "serve" ∷ codes "a" ∷ codes "b" ∷ codes "--port" ∷ codes "9000" ∷ options_row []) ≡ serve example
unfolding chars day_on_literals
serve_row = refl

close_date_row : row (serve_words (codes "--sessions=1" ∷ codes "--close" ∷ codes "2024-01-08" ∷ [])) ≡ serve example
unfolding chars day_on_literals
close_date_row = refl

close_no_day_row : row (serve_words (codes "--sessions=1" ∷ codes "--close=2024-13-08" ∷ [])) ≡ usage
unfolding chars day_on_literals
close_no_day_row = refl

serve_files_row : row (codes "serve" ∷ codes "a" ∷ codes "b" ∷ codes "--ledger=l" ∷ codes "--port=9000" ∷ options_row (codes "--journal" ∷ codes "j" ∷ []))
    ≡ serve (record example { journal = Some (codes "j"); ledger = Some (codes "l") })
unfolding chars day_on_literals
serve_files_row = refl

serve_early_row : row (codes "serve" ∷ codes "a" ∷ codes "--early" ∷ codes "b" ∷ codes "--port=9000" ∷ options_row []) ≡ serve (record example { early = true })
unfolding chars day_on_literals
serve_early_row = refl

-- `serve` has no `--sync`
serve_sync_row : row (codes "serve" ∷ codes "a" ∷ codes "b" ∷ codes "--sync" ∷ codes "--port=9000" ∷ options_row (codes "--journal=j" ∷ [])) ≡ usage
unfolding chars
serve_sync_row = refl

-- such words as parts
usual_order_row : (t : ServeTexts) → words_of_parts (plain t.fares ∷ plain t.zone ∷ apart port_option t.port ∷ joined lanes_option t.lanes ∷ [])
    ≡ t.fares ∷ t.zone ∷ codes "--port" ∷ t.port ∷ (codes "--lanes=" ++ t.lanes) ∷ []
usual_order_row t = refl

-- options before, between and after the values
mixed_row : row (codes "serve" ∷ codes "--port=9000" ∷ codes "a" ∷ options_row (codes "b" ∷ [])) ≡ serve example
unfolding chars day_on_literals
mixed_row = refl

serve_dashes_row : row (codes "serve" ∷ options_row (codes "--port" ∷ codes "9000" ∷ codes "--" ∷ codes "a" ∷ codes "b" ∷ [])) ≡ serve example
unfolding chars day_on_literals
serve_dashes_row = refl

-- an option is given once
twice_row : row (codes "serve" ∷ codes "a" ∷ codes "b" ∷ codes "--port" ∷ codes "9000" ∷ options_row (codes "--port=9000" ∷ [])) ≡ usage
unfolding chars
twice_row = refl

-- and has its value, which begins with no hyphen
no_value_row : row (codes "serve" ∷ codes "a" ∷ codes "b" ∷ codes "--port" ∷ options_row []) ≡ usage
unfolding chars
no_value_row = refl

no_port_row : row (codes "serve" ∷ codes "a" ∷ codes "b" ∷ options_row []) ≡ usage
unfolding chars
no_port_row = refl

one_value_row : row (codes "serve" ∷ codes "a" ∷ codes "--port" ∷ codes "9000" ∷ options_row []) ≡ usage
unfolding chars
one_value_row = refl

-- two lanes have the ports 65,534 and 65,535
last_port_row : row (codes "serve" ∷ codes "a" ∷ codes "b" ∷ codes "--port" ∷ codes "65534" ∷ options_row [])
    ≡ serve (record example { port = 65_534 })
unfolding chars day_on_literals
last_port_row = refl

-- and none has 65,536
beyond_ports_row : row (codes "serve" ∷ codes "a" ∷ codes "b" ∷ codes "--port" ∷ codes "65535" ∷ options_row []) ≡ usage
unfolding chars day_on_literals
beyond_ports_row = refl

port_0_row : row (codes "serve" ∷ codes "a" ∷ codes "b" ∷ codes "--port" ∷ codes "0" ∷ options_row []) ≡ usage
unfolding chars
port_0_row = refl

lanes_16_row : row (codes "serve" ∷ codes "--lanes" ∷ codes "16" ∷ codes "-h" ∷ []) ≡ usage
unfolding chars
lanes_16_row = refl

serve_help_row : row (codes "serve" ∷ codes "--lanes" ∷ codes "15" ∷ codes "-h" ∷ []) ≡ help_asked
unfolding chars
serve_help_row = refl

-- it needs a number of connections, and a day
no_sessions_row : row (serve_words (codes "--close=19730" ∷ [])) ≡ usage
unfolding chars
no_sessions_row = refl

no_close_row : row (serve_words (codes "--sessions=1" ∷ [])) ≡ usage
unfolding chars
no_close_row = refl

-- or a port for its staff
neither_row : row (serve_words files_words) ≡ usage
unfolding chars
neither_row = refl

abbrev staying_example : Serve
staying_example = record example { sessions = None; close = None; control = Some 9_100; journal = Some (codes "j"); ledger = Some (codes "l") }

stay_row : row (serve_words (codes "--control" ∷ codes "9100" ∷ files_words)) ≡ serve staying_example
unfolding chars
stay_row = refl

stay_early_row : row (serve_words (codes "--early" ∷ codes "--control=9100" ∷ files_words)) ≡ serve (record staying_example { early = true })
unfolding chars
stay_early_row = refl

-- options before, between and after the values
stay_mixed_row : row (codes "serve" ∷ codes "--ledger=l" ∷ codes "a" ∷ codes "--control=9100" ∷ codes "--shards=4" ∷ codes "b" ∷ codes "--lanes=2"
    ∷ codes "--port=9000" ∷ codes "--journal=j" ∷ []) ≡ serve staying_example
unfolding chars
stay_mixed_row = refl

-- its staff have a port of their own
stay_same_port_row : row (serve_words (codes "--control=9000" ∷ files_words)) ≡ usage
unfolding chars
stay_same_port_row = refl

-- all lanes are at one port, which may be the last
stay_last_port_row : row (codes "serve" ∷ codes "a" ∷ codes "b" ∷ codes "--port=65535" ∷ codes "--lanes=2" ∷ codes "--shards=4" ∷ codes "--control=65534" ∷ files_words)
    ≡ serve (record staying_example { port = 65_535; control = Some 65_534 })
unfolding chars
stay_last_port_row = refl

-- 14 lanes leave one for them, and 15 none
stay_14_lanes_row : row (codes "serve" ∷ codes "a" ∷ codes "b" ∷ codes "--port=9000" ∷ codes "--lanes=14" ∷ codes "--shards=4" ∷ codes "--control=9100" ∷ files_words)
    ≡ serve (record staying_example { lanes = 14 })
unfolding chars
stay_14_lanes_row = refl

stay_15_lanes_row : row (codes "serve" ∷ codes "a" ∷ codes "b" ∷ codes "--port=9000" ∷ codes "--lanes=15" ∷ codes "--shards=4" ∷ codes "--control=9100" ∷ files_words)
    ≡ usage
unfolding chars
stay_15_lanes_row = refl

-- it does not end after so many connections, and closes no day at its end
stay_sessions_row : row (serve_words (codes "--control=9100" ∷ codes "--sessions=1" ∷ files_words)) ≡ usage
unfolding chars
stay_sessions_row = refl

stay_close_row : row (serve_words (codes "--control=9100" ∷ codes "--close=19730" ∷ files_words)) ≡ usage
unfolding chars
stay_close_row = refl

stay_both_row : row (serve_words (codes "--control=9100" ∷ codes "--sessions=1" ∷ codes "--close=19730" ∷ files_words)) ≡ usage
unfolding chars
stay_both_row = refl

-- it has journals, and a ledger in a file
stay_no_journal_row : row (serve_words (codes "--control=9100" ∷ codes "--ledger=l" ∷ [])) ≡ usage
unfolding chars
stay_no_journal_row = refl

stay_no_ledger_row : row (serve_words (codes "--control=9100" ∷ codes "--journal=j" ∷ [])) ≡ usage
unfolding chars
stay_no_ledger_row = refl

-- the port of the staff is in its range, and is given once
control_0_row : row (serve_words (codes "--control=0" ∷ files_words)) ≡ usage
unfolding chars
control_0_row = refl

control_beyond_row : row (serve_words (codes "--control=65536" ∷ files_words)) ≡ usage
unfolding chars
control_beyond_row = refl

control_twice_row : row (serve_words (codes "--control=9100" ∷ codes "--control=9100" ∷ files_words)) ≡ usage
unfolding chars
control_twice_row = refl

-- a tap may be ahead of the clock by so many seconds, where they are given: from none to those of a day
stay_ahead_row : row (serve_words (codes "--control=9100" ∷ codes "--ahead" ∷ codes "60" ∷ files_words)) ≡ serve (record staying_example { ahead = Some 60 })
unfolding chars
stay_ahead_row = refl

stay_ahead_0_row : row (serve_words (codes "--control=9100" ∷ codes "--ahead=0" ∷ files_words)) ≡ serve (record staying_example { ahead = Some 0 })
unfolding chars
stay_ahead_0_row = refl

stay_ahead_last_row : row (serve_words (codes "--ahead=86400" ∷ codes "--control=9100" ∷ files_words)) ≡ serve (record staying_example { ahead = Some 86_400 })
unfolding chars
stay_ahead_last_row = refl

stay_ahead_beyond_row : row (serve_words (codes "--control=9100" ∷ codes "--ahead=86401" ∷ files_words)) ≡ usage
unfolding chars
stay_ahead_beyond_row = refl

stay_ahead_twice_row : row (serve_words (codes "--control=9100" ∷ codes "--ahead=60" ∷ codes "--ahead=60" ∷ files_words)) ≡ usage
unfolding chars
stay_ahead_twice_row = refl

-- a service that ends has no such limit, also where it has journals and a ledger
ahead_of_an_end_row : row (serve_words (codes "--sessions=1" ∷ codes "--close=19730" ∷ codes "--ahead=60" ∷ [])) ≡ usage
unfolding chars day_on_literals
ahead_of_an_end_row = refl

ahead_of_an_end_with_files_row : row (serve_words (codes "--sessions=1" ∷ codes "--close=19730" ∷ codes "--ahead=60" ∷ files_words)) ≡ usage
unfolding chars day_on_literals
ahead_of_an_end_with_files_row = refl

-- nor is there one without either form
ahead_of_neither_row : row (serve_words (codes "--ahead=60" ∷ files_words)) ≡ usage
unfolding chars
ahead_of_neither_row = refl

-- refused lines are kept in a file, where one is named, once
stay_refused_row : row (serve_words (codes "--control=9100" ∷ codes "--refused=no" ∷ files_words)) ≡ serve (record staying_example { refused = Some (codes "no") })
unfolding chars
stay_refused_row = refl

stay_refused_apart_row : row (serve_words (codes "--refused" ∷ codes "no" ∷ codes "--control=9100" ∷ files_words)) ≡ serve (record staying_example { refused = Some (codes "no") })
unfolding chars
stay_refused_apart_row = refl

stay_refused_twice_row : row (serve_words (codes "--control=9100" ∷ codes "--refused=no" ∷ codes "--refused=no" ∷ files_words)) ≡ usage
unfolding chars
stay_refused_twice_row = refl

-- a service that ends keeps none
refused_of_an_end_row : row (serve_words (codes "--sessions=1" ∷ codes "--close=19730" ∷ codes "--refused=no" ∷ [])) ≡ usage
unfolding chars day_on_literals
refused_of_an_end_row = refl

refused_of_run_row : row (codes "run" ∷ codes "a" ∷ codes "b" ∷ codes "--refused=no" ∷ []) ≡ usage
unfolding chars
refused_of_run_row = refl

-- a greeting may have spaces, where it is one word of the process, and is given once
stay_greeting_row : row (serve_words (codes "--control=9100" ∷ codes "--greeting" ∷ codes "hi there" ∷ files_words))
    ≡ serve (record staying_example { greeting = Some (codes "hi there") })
unfolding chars is_greeting
stay_greeting_row = refl

stay_greeting_joined_row : row (serve_words (codes "--greeting=-=" ∷ codes "--control=9100" ∷ files_words)) ≡ serve (record staying_example { greeting = Some (codes "-=") })
unfolding chars is_greeting
stay_greeting_joined_row = refl

stay_greeting_twice_row : row (serve_words (codes "--control=9100" ∷ codes "--greeting=a" ∷ codes "--greeting=a" ∷ files_words)) ≡ usage
unfolding chars
stay_greeting_twice_row = refl

-- none is empty, or a word of staff
stay_no_greeting_row : row (serve_words (codes "--control=9100" ∷ codes "--greeting=" ∷ files_words)) ≡ usage
unfolding chars is_greeting
stay_no_greeting_row = refl

stay_greeting_stop_row : row (serve_words (codes "--control=9100" ∷ codes "--greeting=STOP" ∷ files_words)) ≡ usage
unfolding chars is_greeting
stay_greeting_stop_row = refl

-- a service that ends has none, whatever it is
greeting_of_an_end_row : row (serve_words (codes "--sessions=1" ∷ codes "--close=19730" ∷ codes "--greeting=hi" ∷ [])) ≡ usage
unfolding chars day_on_literals
greeting_of_an_end_row = refl

-- no other program has one
ahead_of_run_row : row (codes "run" ∷ codes "a" ∷ codes "b" ∷ codes "--ahead=60" ∷ []) ≡ usage
unfolding chars
ahead_of_run_row = refl

control_of_run_row : row (codes "run" ∷ codes "a" ∷ codes "b" ∷ codes "--control=9100" ∷ []) ≡ usage
unfolding chars
control_of_run_row = refl

abbrev page_words : List Text → List Text
page_words options = codes "page" ∷ codes "a" ∷ codes "b" ∷ options

abbrev plain_page : Page
plain_page = record {
  fares = codes "a";
  zone = codes "b";
  journal = codes "j";
  port = 8_080;
  control = None;
  greeting = None;
  staff = None;
  ledger = None;
}

page_row : row (page_words (codes "--journal" ∷ codes "j" ∷ codes "--port" ∷ codes "8080" ∷ [])) ≡ page plain_page
unfolding chars
page_row = refl

-- options before, between and after the values
all_page_row : row (codes "page" ∷ codes "--port=+08080" ∷ codes "a" ∷ codes "--journal=-j" ∷ codes "--" ∷ codes "-b" ∷ [])
    ≡ page (record plain_page { zone = codes "-b"; journal = codes "-j" })
unfolding chars
all_page_row = refl

-- a journal is needed, and given once
page_no_journal_row : row (page_words (codes "--port=8080" ∷ [])) ≡ usage
unfolding chars
page_no_journal_row = refl

page_journal_twice_row : row (page_words (codes "--journal=j" ∷ codes "--port=8080" ∷ codes "--journal=k" ∷ [])) ≡ usage
unfolding chars
page_journal_twice_row = refl

-- and so is a port
page_no_port_row : row (page_words (codes "--journal=j" ∷ [])) ≡ usage
unfolding chars
page_no_port_row = refl

page_port_twice_row : row (page_words (codes "--journal=j" ∷ codes "--port=8080" ∷ codes "--port=8081" ∷ [])) ≡ usage
unfolding chars
page_port_twice_row = refl

-- from 1 to 65,535
page_port_0_row : row (page_words (codes "--journal=j" ∷ codes "--port=0" ∷ [])) ≡ usage
unfolding chars
page_port_0_row = refl

page_first_port_row : row (page_words (codes "--journal=j" ∷ codes "--port=1" ∷ [])) ≡ page (record plain_page { port = 1 })
unfolding chars
page_first_port_row = refl

page_last_port_row : row (page_words (codes "--journal=j" ∷ codes "--port=65535" ∷ [])) ≡ page (record plain_page { port = 65_535 })
unfolding chars
page_last_port_row = refl

page_beyond_ports_row : row (page_words (codes "--journal=j" ∷ codes "--port=65536" ∷ [])) ≡ usage
unfolding chars
page_beyond_ports_row = refl

-- corrections are sent to a port for staff, by the clerks in a file
abbrev correcting_page : Page
correcting_page = record plain_page { control = Some 9_100; staff = Some (codes "s") }

page_corrections_row : row (page_words (codes "--journal=j" ∷ codes "--port=8080" ∷ codes "--control" ∷ codes "9100" ∷ codes "--staff" ∷ codes "s" ∷ []))
    ≡ page correcting_page
unfolding chars
page_corrections_row = refl

-- also where both stand before the values; the name of a file that begins with a hyphen stands after an equals sign
page_corrections_first_row : row (codes "page" ∷ codes "--staff=-s" ∷ codes "--control=+09100" ∷ codes "a" ∷ codes "--port=8080" ∷ codes "--journal=j" ∷ codes "b" ∷ [])
    ≡ page (record correcting_page { staff = Some (codes "-s") })
unfolding chars
page_corrections_first_row = refl

page_staff_hyphen_row : row (page_words (codes "--journal=j" ∷ codes "--port=8080" ∷ codes "--control=9100" ∷ codes "--staff" ∷ codes "-s" ∷ [])) ≡ usage
unfolding chars
page_staff_hyphen_row = refl

-- a service is asked without clerks too, with a greeting or none
page_control_row : row (page_words (codes "--journal=j" ∷ codes "--port=8080" ∷ codes "--control=9100" ∷ []))
    ≡ page (record plain_page { control = Some 9_100 })
unfolding chars
page_control_row = refl

page_greeting_row : row (page_words (codes "--journal=j" ∷ codes "--port=8080" ∷ codes "--greeting" ∷ codes "hi there" ∷ codes "--control=9100" ∷ []))
    ≡ page (record plain_page { control = Some 9_100; greeting = Some (codes "hi there") })
unfolding chars is_greeting
page_greeting_row = refl

-- which is one
page_no_greeting_row : row (page_words (codes "--journal=j" ∷ codes "--port=8080" ∷ codes "--control=9100" ∷ codes "--greeting=STOP" ∷ [])) ≡ usage
unfolding chars is_greeting
page_no_greeting_row = refl

-- and nobody is greeted where nobody is asked, and nobody corrects
page_greeting_alone_row : row (page_words (codes "--journal=j" ∷ codes "--port=8080" ∷ codes "--greeting=hi" ∷ [])) ≡ usage
unfolding chars is_greeting
page_greeting_alone_row = refl

page_no_control_row : row (page_words (codes "--journal=j" ∷ codes "--port=8080" ∷ codes "--staff=s" ∷ [])) ≡ usage
unfolding chars
page_no_control_row = refl

-- the port is not that of the pages, however it is spelled, and it is one
page_same_port_row : row (page_words (codes "--journal=j" ∷ codes "--port=8080" ∷ codes "--control=08080" ∷ codes "--staff=s" ∷ [])) ≡ usage
unfolding chars
page_same_port_row = refl

page_control_0_row : row (page_words (codes "--journal=j" ∷ codes "--port=8080" ∷ codes "--control=0" ∷ codes "--staff=s" ∷ [])) ≡ usage
unfolding chars
page_control_0_row = refl

page_control_beyond_row : row (page_words (codes "--journal=j" ∷ codes "--port=8080" ∷ codes "--control=65536" ∷ codes "--staff=s" ∷ [])) ≡ usage
unfolding chars
page_control_beyond_row = refl

-- each is given once
page_control_twice_row : row (page_words (codes "--journal=j" ∷ codes "--port=8080" ∷ codes "--control=9100" ∷ codes "--control=9100" ∷ codes "--staff=s" ∷ [])) ≡ usage
unfolding chars
page_control_twice_row = refl

page_staff_twice_row : row (page_words (codes "--journal=j" ∷ codes "--port=8080" ∷ codes "--control=9100" ∷ codes "--staff=s" ∷ codes "--staff=s" ∷ [])) ≡ usage
unfolding chars
page_staff_twice_row = refl

-- no other program has the file
staff_of_serve_row : row (serve_words (codes "--control=9100" ∷ codes "--staff=s" ∷ files_words)) ≡ usage
unfolding chars
staff_of_serve_row = refl

-- a ledger may be named, once
page_ledger_row : row (page_words (codes "--journal=j" ∷ codes "--port=8080" ∷ codes "--ledger=l" ∷ [])) ≡ page (record plain_page { ledger = Some (codes "l") })
unfolding chars
page_ledger_row = refl

page_ledger_twice_row : row (page_words (codes "--journal=j" ∷ codes "--ledger=l" ∷ codes "--port=8080" ∷ codes "--ledger=l" ∷ [])) ≡ usage
unfolding chars
page_ledger_twice_row = refl

-- which closes nothing
page_early_row : row (page_words (codes "--journal=j" ∷ codes "--port=8080" ∷ codes "--ledger=l" ∷ codes "--early" ∷ [])) ≡ usage
unfolding chars
page_early_row = refl

page_zone_row : row (codes "page" ∷ codes "a" ∷ codes "--journal=j" ∷ codes "--port=8080" ∷ []) ≡ usage
unfolding chars
page_zone_row = refl

page_help_row : row (codes "page" ∷ codes "--port=8080" ∷ codes "-h" ∷ []) ≡ help_asked
unfolding chars
page_help_row = refl

abbrev plain_audit : Audit
plain_audit = record { fares = codes "a"; zone = codes "b"; journal = codes "j"; ledger = None }

audit_row : row (codes "audit" ∷ codes "a" ∷ codes "b" ∷ codes "--journal" ∷ codes "j" ∷ []) ≡ audit plain_audit
unfolding chars
audit_row = refl

-- options before, between and after the values
all_audit_row : row (codes "audit" ∷ codes "--ledger" ∷ codes "l" ∷ codes "a" ∷ codes "--journal=-j" ∷ codes "--" ∷ codes "-b" ∷ [])
    ≡ audit (record { fares = codes "a"; zone = codes "-b"; journal = codes "-j"; ledger = Some (codes "l") })
unfolding chars
all_audit_row = refl

-- a journal is needed, and given once
no_journal_row : row (codes "audit" ∷ codes "a" ∷ codes "b" ∷ codes "--ledger=l" ∷ []) ≡ usage
unfolding chars
no_journal_row = refl

audit_twice_row : row (codes "audit" ∷ codes "a" ∷ codes "b" ∷ codes "--journal=j" ∷ codes "--journal=k" ∷ []) ≡ usage
unfolding chars
audit_twice_row = refl

audit_hyphen_row : row (codes "audit" ∷ codes "a" ∷ codes "b" ∷ codes "--journal" ∷ codes "-j" ∷ []) ≡ usage
unfolding chars
audit_hyphen_row = refl

-- nothing is written
audit_sync_row : row (codes "audit" ∷ codes "a" ∷ codes "b" ∷ codes "--journal=j" ∷ codes "--sync" ∷ []) ≡ usage
unfolding chars
audit_sync_row = refl

audit_zone_row : row (codes "audit" ∷ codes "a" ∷ codes "--journal=j" ∷ []) ≡ usage
unfolding chars
audit_zone_row = refl

audit_help_row : row (codes "audit" ∷ codes "--journal=j" ∷ codes "-h" ∷ []) ≡ help_asked
unfolding chars
audit_help_row = refl

rebuild_row : row (codes "rebuild" ∷ codes "a" ∷ codes "l" ∷ []) ≡ rebuild (codes "a") (codes "l")
unfolding chars
rebuild_row = refl

rebuild_dashes_row : row (codes "rebuild" ∷ codes "a" ∷ codes "--" ∷ codes "-l" ∷ []) ≡ rebuild (codes "a") (codes "-l")
unfolding chars
rebuild_dashes_row = refl

rebuild_one_row : row (codes "rebuild" ∷ codes "a" ∷ []) ≡ usage
unfolding chars
rebuild_one_row = refl

-- one value too many comes before a call for help after it
rebuild_three_row : row (codes "rebuild" ∷ codes "a" ∷ codes "l" ∷ codes "b" ∷ codes "-h" ∷ []) ≡ usage
unfolding chars
rebuild_three_row = refl

rebuild_option_row : row (codes "rebuild" ∷ codes "a" ∷ codes "--ledger=l" ∷ []) ≡ usage
unfolding chars
rebuild_option_row = refl

rebuild_help_row : row (codes "rebuild" ∷ codes "a" ∷ codes "l" ∷ codes "--help" ∷ []) ≡ help_asked
unfolding chars
rebuild_help_row = refl

abbrev follow_words : List Text → List Text
follow_words options = codes "follow" ∷ codes "a" ∷ codes "b" ∷ options

-- the options but for those of the partition
abbrev node_words : List Text → List Text
node_words options = follow_words (codes "--log=nats://127.0.0.1:4222" ∷ codes "--ledger=l" ∷ options)

-- and but for the URL
abbrev partition_words : List Text → List Text
partition_words options = follow_words (codes "--partition=2" ∷ codes "--of=4" ∷ codes "--ledger=l" ∷ options)

abbrev plain_follow : Follow
plain_follow = record { fares = codes "a"; zone = codes "b"; port = Some 4_222; partition = 2; of = 4; ledger = codes "l" }

follow_row : row (follow_words (codes "--log" ∷ codes "nats://127.0.0.1:4222" ∷ codes "--partition" ∷ codes "2" ∷ codes "--of" ∷ codes "4" ∷ codes "--ledger" ∷ codes "l" ∷ []))
    ≡ follow plain_follow
unfolding chars node_port
follow_row = refl

-- options before, between and after the values
all_follow_row : row (codes "follow" ∷ codes "--of=+04" ∷ codes "a" ∷ codes "--ledger=-l" ∷ codes "--partition=02" ∷ codes "--log=nats://127.0.0.1:04222" ∷ codes "--" ∷ codes "-b" ∷ [])
    ≡ follow (record plain_follow { zone = codes "-b"; ledger = codes "-l" })
unfolding chars node_port
all_follow_row = refl

-- each option is needed
follow_no_log_row : row (partition_words []) ≡ usage
unfolding chars
follow_no_log_row = refl

follow_no_partition_row : row (node_words (codes "--of=4" ∷ [])) ≡ usage
unfolding chars
follow_no_partition_row = refl

follow_no_of_row : row (node_words (codes "--partition=2" ∷ [])) ≡ usage
unfolding chars
follow_no_of_row = refl

follow_no_ledger_row : row (follow_words (codes "--log=nats://127.0.0.1:4222" ∷ codes "--partition=2" ∷ codes "--of=4" ∷ [])) ≡ usage
unfolding chars
follow_no_ledger_row = refl

-- and given once
follow_log_twice_row : row (partition_words (codes "--log=nats://127.0.0.1:4222" ∷ codes "--log=nats://127.0.0.1:4222" ∷ [])) ≡ usage
unfolding chars
follow_log_twice_row = refl

follow_partition_twice_row : row (node_words (codes "--partition=2" ∷ codes "--of=4" ∷ codes "--partition=2" ∷ [])) ≡ usage
unfolding chars
follow_partition_twice_row = refl

-- the URL names a port of 127.0.0.1, and nothing else
follow_host_row : row (partition_words (codes "--log=nats://localhost:4222" ∷ [])) ≡ usage
unfolding chars node_port
follow_host_row = refl

follow_port_0_row : row (partition_words (codes "--log=nats://127.0.0.1:0" ∷ [])) ≡ usage
unfolding chars node_port
follow_port_0_row = refl

follow_last_port_row : row (partition_words (codes "--log=nats://127.0.0.1:65535" ∷ [])) ≡ follow (record plain_follow { port = Some 65_535 })
unfolding chars node_port
follow_last_port_row = refl

follow_beyond_ports_row : row (partition_words (codes "--log=nats://127.0.0.1:65536" ∷ [])) ≡ usage
unfolding chars node_port
follow_beyond_ports_row = refl

-- 1 to 16 partitions, of which the first is 0
follow_one_row : row (node_words (codes "--partition=0" ∷ codes "--of=1" ∷ [])) ≡ follow (record plain_follow { partition = 0; of = 1 })
unfolding chars node_port
follow_one_row = refl

follow_last_partition_row : row (node_words (codes "--partition=15" ∷ codes "--of=16" ∷ [])) ≡ follow (record plain_follow { partition = 15; of = 16 })
unfolding chars node_port
follow_last_partition_row = refl

follow_partition_of_as_many_row : row (node_words (codes "--partition=4" ∷ codes "--of=4" ∷ [])) ≡ usage
unfolding chars node_port
follow_partition_of_as_many_row = refl

follow_of_0_row : row (node_words (codes "--partition=0" ∷ codes "--of=0" ∷ [])) ≡ usage
unfolding chars
follow_of_0_row = refl

follow_of_17_row : row (node_words (codes "--partition=0" ∷ codes "--of=17" ∷ [])) ≡ usage
unfolding chars
follow_of_17_row = refl

follow_partition_16_row : row (node_words (codes "--partition=16" ∷ codes "--of=16" ∷ [])) ≡ usage
unfolding chars
follow_partition_16_row = refl

-- it reads no journal, and closes no day early
follow_journal_row : row (partition_words (codes "--log=nats://127.0.0.1:4222" ∷ codes "--journal=j" ∷ [])) ≡ usage
unfolding chars
follow_journal_row = refl

follow_early_row : row (partition_words (codes "--log=nats://127.0.0.1:4222" ∷ codes "--early" ∷ [])) ≡ usage
unfolding chars
follow_early_row = refl

follow_zone_row : row (codes "follow" ∷ codes "a" ∷ codes "--log=nats://127.0.0.1:4222" ∷ codes "--partition=2" ∷ codes "--of=4" ∷ codes "--ledger=l" ∷ []) ≡ usage
unfolding chars
follow_zone_row = refl

-- help may be called for after a URL that is none
follow_help_row : row (codes "follow" ∷ codes "--log=x" ∷ codes "-h" ∷ []) ≡ help_asked
unfolding chars
follow_help_row = refl

-- no other program has the partition
partition_of_run_row : row (codes "run" ∷ codes "a" ∷ codes "b" ∷ codes "--partition=2" ∷ []) ≡ usage
unfolding chars
partition_of_run_row = refl

abbrev log_words : Text → List Text → List Text
log_words action options = codes "log" ∷ action ∷ codes "a" ∷ codes "b" ∷ codes "--log=nats://127.0.0.1:4222" ∷ options

abbrev checked_log : Log
checked_log = record { action = Some actions.Check; fares = codes "a"; zone = codes "b"; port = Some 4_222; of = 4 }

abbrev made_log : Log
made_log = record checked_log { action = Some (actions.Make 3) }

log_make_row : row (codes "log" ∷ codes "make" ∷ codes "a" ∷ codes "b" ∷ codes "--log" ∷ codes "nats://127.0.0.1:4222" ∷ codes "--of" ∷ codes "4" ∷ codes "--replicas" ∷ codes "3" ∷ [])
    ≡ log made_log
unfolding chars node_port
log_make_row = refl

log_check_row : row (log_words (codes "check") (codes "--of=4" ∷ [])) ≡ log checked_log
unfolding chars node_port
log_check_row = refl

-- options before, between and after the values
all_log_row : row (codes "log" ∷ codes "--replicas=+03" ∷ codes "make" ∷ codes "--of=04" ∷ codes "a" ∷ codes "--log=nats://127.0.0.1:04222" ∷ codes "--" ∷ codes "-b" ∷ [])
    ≡ log (record made_log { zone = codes "-b" })
unfolding chars node_port
all_log_row = refl

-- a log is made with a number of replicas, and checked with none
log_make_alone_row : row (log_words (codes "make") (codes "--of=4" ∷ [])) ≡ usage
unfolding chars node_port
log_make_alone_row = refl

log_check_replicas_row : row (log_words (codes "check") (codes "--of=4" ∷ codes "--replicas=3" ∷ [])) ≡ usage
unfolding chars node_port
log_check_replicas_row = refl

-- there is no other action
log_move_row : row (log_words (codes "move") (codes "--of=4" ∷ [])) ≡ usage
unfolding chars node_port
log_move_row = refl

log_makes_row : row (log_words (codes "makes") (codes "--of=4" ∷ codes "--replicas=3" ∷ [])) ≡ usage
unfolding chars node_port
log_makes_row = refl

log_capital_row : row (log_words (codes "Make") (codes "--of=4" ∷ codes "--replicas=3" ∷ [])) ≡ usage
unfolding chars node_port
log_capital_row = refl

log_no_action_row : row (codes "log" ∷ codes "a" ∷ codes "b" ∷ codes "--log=nats://127.0.0.1:4222" ∷ codes "--of=4" ∷ []) ≡ usage
unfolding chars
log_no_action_row = refl

-- the action is the first of the values
log_action_last_row : row (codes "log" ∷ codes "a" ∷ codes "b" ∷ codes "check" ∷ codes "--log=nats://127.0.0.1:4222" ∷ codes "--of=4" ∷ []) ≡ usage
unfolding chars node_port
log_action_last_row = refl

-- 1 to 5 replicas
log_replicas_0_row : row (log_words (codes "make") (codes "--of=4" ∷ codes "--replicas=0" ∷ [])) ≡ usage
unfolding chars
log_replicas_0_row = refl

log_replicas_1_row : row (log_words (codes "make") (codes "--of=4" ∷ codes "--replicas=1" ∷ [])) ≡ log (record made_log { action = Some (actions.Make 1) })
unfolding chars node_port
log_replicas_1_row = refl

log_replicas_5_row : row (log_words (codes "make") (codes "--of=4" ∷ codes "--replicas=5" ∷ [])) ≡ log (record made_log { action = Some (actions.Make 5) })
unfolding chars node_port
log_replicas_5_row = refl

log_replicas_6_row : row (log_words (codes "make") (codes "--of=4" ∷ codes "--replicas=6" ∷ [])) ≡ usage
unfolding chars
log_replicas_6_row = refl

-- 1 to 16 partitions
log_of_0_row : row (log_words (codes "check") (codes "--of=0" ∷ [])) ≡ usage
unfolding chars
log_of_0_row = refl

log_of_1_row : row (log_words (codes "check") (codes "--of=1" ∷ [])) ≡ log (record checked_log { of = 1 })
unfolding chars node_port
log_of_1_row = refl

log_of_16_row : row (log_words (codes "check") (codes "--of=16" ∷ [])) ≡ log (record checked_log { of = 16 })
unfolding chars node_port
log_of_16_row = refl

log_of_17_row : row (log_words (codes "check") (codes "--of=17" ∷ [])) ≡ usage
unfolding chars
log_of_17_row = refl

-- the options are needed, and given once
log_no_of_row : row (log_words (codes "check") []) ≡ usage
unfolding chars
log_no_of_row = refl

log_no_log_row : row (codes "log" ∷ codes "check" ∷ codes "a" ∷ codes "b" ∷ codes "--of=4" ∷ []) ≡ usage
unfolding chars
log_no_log_row = refl

log_of_twice_row : row (log_words (codes "check") (codes "--of=4" ∷ codes "--of=4" ∷ [])) ≡ usage
unfolding chars
log_of_twice_row = refl

log_replicas_twice_row : row (log_words (codes "make") (codes "--of=4" ∷ codes "--replicas=3" ∷ codes "--replicas=3" ∷ [])) ≡ usage
unfolding chars
log_replicas_twice_row = refl

-- the URL is that of a node
log_url_row : row (codes "log" ∷ codes "check" ∷ codes "a" ∷ codes "b" ∷ codes "--log=4222" ∷ codes "--of=4" ∷ []) ≡ usage
unfolding chars node_port
log_url_row = refl

-- no ledger and no partition is named
log_ledger_row : row (log_words (codes "check") (codes "--of=4" ∷ codes "--ledger=l" ∷ [])) ≡ usage
unfolding chars
log_ledger_row = refl

log_partition_row : row (log_words (codes "check") (codes "--of=4" ∷ codes "--partition=2" ∷ [])) ≡ usage
unfolding chars
log_partition_row = refl

-- help may be called for after a word that is no action
log_help_row : row (codes "log" ∷ codes "move" ∷ codes "-h" ∷ []) ≡ help_asked
unfolding chars
log_help_row = refl

-- no other program has replicas
replicas_of_follow_row : row (partition_words (codes "--log=nats://127.0.0.1:4222" ∷ codes "--replicas=3" ∷ [])) ≡ usage
unfolding chars
replicas_of_follow_row = refl

check_help_row : row (codes "check" ∷ codes "-h" ∷ []) ≡ help_asked
unfolding chars
check_help_row = refl

help_row : row (codes "run" ∷ codes "a" ∷ codes "--help" ∷ []) ≡ help_asked
unfolding chars
help_row = refl

short_help_row : row (codes "-h" ∷ []) ≡ help_asked
unfolding chars
short_help_row = refl

named_help_row : row (codes "help" ∷ []) ≡ help_named
unfolding chars
named_help_row = refl

version_row : row (codes "--version" ∷ []) ≡ version_asked
unfolding chars
version_row = refl

short_version_row : row (codes "-V" ∷ codes "run" ∷ []) ≡ version_asked
unfolding chars
short_version_row = refl

-- of several letters the first counts
version_first_row : row (codes "-Vh" ∷ []) ≡ version_asked
unfolding chars
version_first_row = refl

help_first_row : row (codes "-hV" ∷ []) ≡ help_asked
unfolding chars
help_first_row = refl

-- a program has no version of its own
run_version_row : row (codes "run" ∷ codes "--version" ∷ []) ≡ usage
unfolding chars
run_version_row = refl

other_row : row (codes "fly" ∷ []) ≡ usage
unfolding chars
other_row = refl

none_row : row [] ≡ usage
unfolding chars
none_row = refl
