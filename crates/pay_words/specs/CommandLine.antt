-- What the command line takes, as `clap` has it, and what its matches and errors come to.
use Rattle.std.specs.Prelude.{◌≡◌, ℕ, ⊤, Bool, true, codes, List, Option, Some, option_map, if◌then◌else◌}
use Rattle.std.specs.String.{string_bytes}
use Rattle.clap.specs.Words.{App, Row, Rule, Text, all_of, first_of, first_value, found_of, matched_of, new_app, new_rule, one_text, raw_values, subcommand_rows_of}
use Rattle.clap.specs.Words.{with_rule, with_subcommand}
use Rattle.clap.specs.Walk.{one_of}
use Rattle.clap.specs.Simple.{on_top}
use Rattle.clap.specs.declared.builder.action.ArgAction.TheVariants.{Append, SetTrue}
use Rattle.clap.specs.declared.builder.value_parser.ValueParser.TheVariants as vp
use Rattle.clap.specs.declared.error.kind.ErrorKind.{ErrorKind}
use Rattle.clap.specs.declared.error.kind.ErrorKind.TheVariants.{DisplayHelp, DisplayVersion}
use Rattle.clap.specs.declared.error.kind.ErrorKind.TheVariants.{OutOfMemory}
use Rattle.clap.specs.declared.parser.matches.ArgMatches.{ArgMatches}
use Rattle.clap.specs.declared.parser.matches.Found.{Found}
use Rattle.pay_words.specs.declared.words.WordsFault.{WordsFault}
use Rattle.pay_words.specs.declared.words.WordsFault.TheVariants.{Help, Version, Usage, Memory}
use Rattle.pay_words.specs.declared.limits.TheConstants.{MOST_ACCOUNT, MOST_PORT, MOST_SERVED_LANES, MOST_SHARDS, MOST_SESSIONS, MOST_AHEAD, LAST_PARTITION, MOST_PARTITIONS, MOST_REPLICAS}
use Rattle.pay_words.specs.Asked.{version_line}
use Rattle.pay_words.specs.Audit.{Audit}
use Rattle.pay_words.specs.Check.{Check, CheckTexts, check_of_texts}
use Rattle.pay_words.specs.Explain.{Explain, ExplainTexts, explain_of_texts}
use Rattle.pay_words.specs.Follow.{AreFollowNumbers, Follow, FollowTexts, follow_of_texts}
use Rattle.pay_words.specs.Log.{AreLogNumbers, Log, LogTexts, log_of_texts}
use Rattle.pay_words.specs.OneWord.{is_account}
use Rattle.pay_words.specs.Page.{ArePorts, Page, PageTexts, page_of_texts}
use Rattle.pay_words.specs.Run.{Run}
use Rattle.pay_words.specs.Serve.{AreInRange, Serve, ServeTexts, numbers_of}
use Rattle.pay_words.specs.Statement.{Statement, StatementTexts, statement_of_texts}

-- a word that has to be there
abbrev pub required_word : Text → Rule
required_word name = record (new_rule name) { required = true }

-- words of which there has to be one, each a use of its own
abbrev pub required_words : Text → Rule
required_words name = record (required_word name) { action = Some Append }

-- a number in its range, which has to be there
abbrev pub required_number : Text → ℕ → ℕ → Rule
required_number name least most = record (required_word name) { parser = Some (vp.Unsigned least most) }

-- an option with a number in its range, which has to be there and is called by its name in the words
abbrev pub required_option : Text → ℕ → ℕ → Rule
required_option name least most = record (required_number name least most) { long = Some name; value_names = 1 }

-- an option with a text, which has to be there
abbrev pub required_text : Text → Rule
required_text name = record (required_word name) { long = Some name; value_names = 1 }

-- an option with a text, which may be there
abbrev pub text_option : Text → Rule
text_option name = record (new_rule name) { long = Some name; value_names = 1 }

-- an option with a number in its range, which may be there
abbrev pub optional_number : Text → ℕ → ℕ → Rule
optional_number name least most = record (text_option name) { parser = Some (vp.Unsigned least most) }

-- an option without a value, which may be there
abbrev pub flag_option : Text → Rule
flag_option name = record (new_rule name) { long = Some name; action = Some SetTrue }

abbrev pub with_fares_and_zone : App → App
with_fares_and_zone app = with_rule (with_rule app (required_word (codes "FARES"))) (required_word (codes "ZONE"))

-- the options of what closes days into a file
abbrev pub with_ledger : App → App
with_ledger app = with_rule (with_rule app (text_option (codes "ledger"))) (flag_option (codes "early"))

-- `run FARES ZONE [--journal FILE [--sync]] [--ledger FILE] [--early]`
abbrev pub run_app : App
run_app = with_ledger (with_rule (with_rule (with_fares_and_zone (new_app (codes "run")))
    (text_option (codes "journal"))) (flag_option (codes "sync")))

-- the options of `check` that compare two fare files
abbrev pub with_against : App → App
with_against app = with_rule (with_rule app (text_option (codes "against"))) (text_option (codes "after"))

-- `check FARES [--lint] [--against OLD [--after DAY]]`
abbrev pub check_app : App
check_app = with_against (with_rule (with_rule (new_app (codes "check")) (required_word (codes "FARES"))) (flag_option (codes "lint")))

-- the words FARES, ZONE, ACCOUNT and DAY
abbrev pub with_account_and_day : App → App
with_account_and_day app = with_rule (with_rule (with_fares_and_zone app)
    (required_number (codes "ACCOUNT") 1 MOST_ACCOUNT)) (required_word (codes "DAY"))

-- `statement FARES ZONE ACCOUNT DAY [--journal FILE] [--ledger FILE] [--long]`
abbrev pub statement_app : App
statement_app = with_rule (with_rule (with_rule (with_account_and_day (new_app (codes "statement"))) (text_option (codes "journal")))
    (text_option (codes "ledger"))) (flag_option (codes "long"))

-- `explain FARES ZONE ACCOUNT DAY --journal PATH [--ledger FILE] [--week]`
abbrev pub explain_app : App
explain_app = with_rule (with_rule (with_rule (with_account_and_day (new_app (codes "explain"))) (required_text (codes "journal")))
    (text_option (codes "ledger"))) (flag_option (codes "week"))

-- the options of `page` by which a service is asked, and its clerks may correct
abbrev pub with_control : App → App
with_control app = with_rule (with_rule (with_rule app (optional_number (codes "control") 1 MOST_PORT)) (text_option (codes "greeting")))
    (text_option (codes "staff"))

-- `page FARES ZONE --journal PATH --port P [--control C [--greeting TEXT] [--staff FILE]] [--ledger FILE]`
abbrev pub page_app : App
page_app = with_rule (with_control (with_rule (with_rule (with_fares_and_zone (new_app (codes "page"))) (required_text (codes "journal")))
    (required_option (codes "port") 1 MOST_PORT))) (text_option (codes "ledger"))

-- `replay FARES ZONE FILE..`
abbrev pub replay_app : App
replay_app = with_rule (with_fares_and_zone (new_app (codes "replay"))) (required_words (codes "FILE"))

-- the options that both forms of `serve` need
abbrev pub with_numbers : App → App
with_numbers app = with_rule (with_rule (with_rule app
    (required_option (codes "port") 1 MOST_PORT)) (required_option (codes "lanes") 1 MOST_SERVED_LANES))
    (required_option (codes "shards") 1 MOST_SHARDS)

-- and those of one form alone
abbrev pub with_end : App → App
with_end app = with_rule (with_rule (with_rule (with_rule (with_rule (with_rule app
    (optional_number (codes "sessions") 1 MOST_SESSIONS)) (text_option (codes "close")))
    (optional_number (codes "control") 1 MOST_PORT)) (optional_number (codes "ahead") 0 MOST_AHEAD)) (text_option (codes "refused")))
    (text_option (codes "greeting"))

-- `serve FARES ZONE --port P --lanes L --shards N --sessions K --close DAY [--journal FOLDER] [--ledger FILE] [--early]`, and
-- `serve FARES ZONE --port P --lanes L --shards N --control C --journal FOLDER --ledger FILE [--ahead S] [--refused FILE] [--greeting TEXT]
-- [--early]`
abbrev pub serve_app : App
serve_app = with_ledger (with_rule (with_end (with_numbers (with_fares_and_zone (new_app (codes "serve"))))) (text_option (codes "journal")))

-- `audit FARES ZONE --journal PATH [--ledger FILE]`
abbrev pub audit_app : App
audit_app = with_rule (with_rule (with_fares_and_zone (new_app (codes "audit"))) (required_text (codes "journal"))) (text_option (codes "ledger"))

-- `rebuild FARES LEDGER`
abbrev pub rebuild_app : App
rebuild_app = with_rule (with_rule (new_app (codes "rebuild")) (required_word (codes "FARES"))) (required_word (codes "LEDGER"))

-- `follow FARES ZONE --log URL --partition P --of N --ledger FILE`
abbrev pub follow_app : App
follow_app = with_rule (with_rule (with_rule (with_rule (with_fares_and_zone (new_app (codes "follow"))) (required_text (codes "log")))
    (required_option (codes "partition") 0 LAST_PARTITION)) (required_option (codes "of") 1 MOST_PARTITIONS)) (required_text (codes "ledger"))

-- `log make FARES ZONE --log URL --of N --replicas R`, and `log check FARES ZONE --log URL --of N`
abbrev pub log_app : App
log_app = with_rule (with_rule (with_rule (with_rule (with_rule (with_rule (new_app (codes "log")) (required_word (codes "ACTION"))) (required_word (codes "FARES")))
    (required_word (codes "ZONE"))) (required_text (codes "log"))) (required_option (codes "of") 1 MOST_PARTITIONS)) (optional_number (codes "replicas") 1 MOST_REPLICAS)

-- the program, which has a version, and wants one of its programs named
abbrev pub farebox_app : App
farebox_app = with_subcommand (with_subcommand (with_subcommand (with_subcommand (with_subcommand (with_subcommand (with_subcommand (with_subcommand (with_subcommand (with_subcommand (with_subcommand
    (on_top (λ top. record top { has_version = true; subcommand_required = true })
    (new_app (codes "farebox")))
    run_app.top) check_app.top) statement_app.top) explain_app.top) page_app.top) replay_app.top) serve_app.top) audit_app.top) rebuild_app.top) follow_app.top) log_app.top

-- ---- the matches

-- what a flag comes to
abbrev pub flag_text : Bool → Text
flag_text given = if given then codes "true" else codes "false"

-- these rows have what `run` is asked for
abbrev pub HaveRun : List Row → Run → Type 0
HaveRun rows r = (first_of (codes "FARES") rows ≡ Some r.fares) × (first_of (codes "ZONE") rows ≡ Some r.zone)
    × (first_of (codes "journal") rows ≡ r.journal) × (one_of (codes "sync") rows ≡ Some (flag_text r.syncs))
    × (first_of (codes "ledger") rows ≡ r.ledger) × (one_of (codes "early") rows ≡ Some (flag_text r.early))

-- the matches are those of `run` with these values
abbrev pub GivesRun : ArgMatches → Run → Type 0
GivesRun m r = (rows : List Row) × (subcommand_rows_of m ≡ Some (codes "run", rows)) × HaveRun rows r

-- the matches have what `run` is asked for
abbrev pub HasRun : Found → Run → Type 0
HasRun f r = (first_value f (codes "FARES") ≡ Some r.fares) × (first_value f (codes "ZONE") ≡ Some r.zone)
    × (first_value f (codes "journal") ≡ r.journal) × (one_text f (codes "sync") ≡ Some (flag_text r.syncs))
    × (first_value f (codes "ledger") ≡ r.ledger) × (one_text f (codes "early") ≡ Some (flag_text r.early))

-- these rows have the words that `check` is given
abbrev pub HaveCheckTexts : List Row → CheckTexts → Type 0
HaveCheckTexts rows t = (first_of (codes "FARES") rows ≡ Some t.fares) × (one_of (codes "lint") rows ≡ Some (flag_text t.lints))
    × (first_of (codes "against") rows ≡ t.against) × (first_of (codes "after") rows ≡ t.after)

-- the matches are those of `check` with these values
abbrev pub GivesCheck : ArgMatches → Check → Type 0
GivesCheck m c = (t : CheckTexts) × (rows : List Row) × (subcommand_rows_of m ≡ Some (codes "check", rows))
    × HaveCheckTexts rows t × (check_of_texts t ≡ c)

-- the matches have the words that `check` is given
abbrev pub HasCheckTexts : Found → CheckTexts → Type 0
HasCheckTexts f t = (first_value f (codes "FARES") ≡ Some t.fares) × (one_text f (codes "lint") ≡ Some (flag_text t.lints))
    × (first_value f (codes "against") ≡ t.against) × (first_value f (codes "after") ≡ t.after)

-- these rows have the words that `statement` is given
abbrev pub HaveStatementTexts : List Row → StatementTexts → Type 0
HaveStatementTexts rows t = (first_of (codes "FARES") rows ≡ Some t.fares) × (first_of (codes "ZONE") rows ≡ Some t.zone)
    × (one_of (codes "ACCOUNT") rows ≡ Some t.account) × (first_of (codes "DAY") rows ≡ Some t.day)
    × (first_of (codes "journal") rows ≡ t.journal) × (first_of (codes "ledger") rows ≡ t.ledger)
    × (one_of (codes "long") rows ≡ Some (flag_text t.long))

-- the matches are those of `statement` with these values, and an account in its range
abbrev pub GivesStatement : ArgMatches → Statement → Type 0
GivesStatement m s = (t : StatementTexts) × (rows : List Row) × (subcommand_rows_of m ≡ Some (codes "statement", rows))
    × HaveStatementTexts rows t × (is_account t.account ≡ true) × (statement_of_texts t ≡ s)

-- the matches have the words that `statement` is given
abbrev pub HasStatementTexts : Found → StatementTexts → Type 0
HasStatementTexts f t = (first_value f (codes "FARES") ≡ Some t.fares) × (first_value f (codes "ZONE") ≡ Some t.zone)
    × (one_text f (codes "ACCOUNT") ≡ Some t.account) × (first_value f (codes "DAY") ≡ Some t.day)
    × (first_value f (codes "journal") ≡ t.journal) × (first_value f (codes "ledger") ≡ t.ledger)
    × (one_text f (codes "long") ≡ Some (flag_text t.long))

-- these rows have the words that `explain` is given
abbrev pub HaveExplainTexts : List Row → ExplainTexts → Type 0
HaveExplainTexts rows t = (first_of (codes "FARES") rows ≡ Some t.fares) × (first_of (codes "ZONE") rows ≡ Some t.zone)
    × (one_of (codes "ACCOUNT") rows ≡ Some t.account) × (first_of (codes "DAY") rows ≡ Some t.day)
    × (first_of (codes "journal") rows ≡ Some t.journal) × (first_of (codes "ledger") rows ≡ t.ledger)
    × (one_of (codes "week") rows ≡ Some (flag_text t.week))

-- the matches are those of `explain` with these values, and an account in its range
abbrev pub GivesExplain : ArgMatches → Explain → Type 0
GivesExplain m e = (t : ExplainTexts) × (rows : List Row) × (subcommand_rows_of m ≡ Some (codes "explain", rows))
    × HaveExplainTexts rows t × (is_account t.account ≡ true) × (explain_of_texts t ≡ e)

-- the matches have the words that `explain` is given
abbrev pub HasExplainTexts : Found → ExplainTexts → Type 0
HasExplainTexts f t = (first_value f (codes "FARES") ≡ Some t.fares) × (first_value f (codes "ZONE") ≡ Some t.zone)
    × (one_text f (codes "ACCOUNT") ≡ Some t.account) × (first_value f (codes "DAY") ≡ Some t.day)
    × (first_value f (codes "journal") ≡ Some t.journal) × (first_value f (codes "ledger") ≡ t.ledger)
    × (one_text f (codes "week") ≡ Some (flag_text t.week))

-- these rows have the words that `page` is given
abbrev pub HavePageTexts : List Row → PageTexts → Type 0
HavePageTexts rows t = (first_of (codes "FARES") rows ≡ Some t.fares) × (first_of (codes "ZONE") rows ≡ Some t.zone)
    × (first_of (codes "journal") rows ≡ Some t.journal) × (one_of (codes "port") rows ≡ Some t.port)
    × (one_of (codes "control") rows ≡ t.control) × (first_of (codes "greeting") rows ≡ t.greeting)
    × (first_of (codes "staff") rows ≡ t.staff) × (first_of (codes "ledger") rows ≡ t.ledger)

-- the matches are those of `page` with these values, and ports in their range
abbrev pub GivesPage : ArgMatches → Page → Type 0
GivesPage m p = (t : PageTexts) × (rows : List Row) × (subcommand_rows_of m ≡ Some (codes "page", rows))
    × HavePageTexts rows t × ArePorts t × (page_of_texts t ≡ p)

-- the matches have the words that `page` is given
abbrev pub HasPageTexts : Found → PageTexts → Type 0
HasPageTexts f t = (first_value f (codes "FARES") ≡ Some t.fares) × (first_value f (codes "ZONE") ≡ Some t.zone)
    × (first_value f (codes "journal") ≡ Some t.journal) × (one_text f (codes "port") ≡ Some t.port)
    × (one_text f (codes "control") ≡ t.control) × (first_value f (codes "greeting") ≡ t.greeting)
    × (first_value f (codes "staff") ≡ t.staff) × (first_value f (codes "ledger") ≡ t.ledger)

-- the subcommand that the matches have, with its values and its files
abbrev pub values_and_files : Text × List Row → Text × Option Text × Option Text × Option (List Text)
values_and_files p = (p.0, first_of (codes "FARES") p.1, first_of (codes "ZONE") p.1, all_of (codes "FILE") p.1)

-- the matches are those of `replay` with these values
abbrev pub GivesReplay : ArgMatches → Text → Text → List Text → Type 0
GivesReplay m fares zone files =
    option_map values_and_files (subcommand_rows_of m) ≡ Some (codes "replay", Some fares, Some zone, Some files)

-- the matches have these values of FARES and ZONE
abbrev pub HasFaresAndZone : ArgMatches → Text → Text → Type 0
HasFaresAndZone m fares zone = (first_value (found_of m) (codes "FARES") ≡ Some fares) × (first_value (found_of m) (codes "ZONE") ≡ Some zone)

-- and these words of FILE
abbrev pub HasFiles : ArgMatches → List Text → Type 0
HasFiles m files = option_map raw_values (matched_of (found_of m) (codes "FILE")) ≡ Some files

-- these rows have the words that `serve` is given
abbrev pub HaveServeTexts : List Row → ServeTexts → Type 0
HaveServeTexts rows t = (first_of (codes "FARES") rows ≡ Some t.fares) × (first_of (codes "ZONE") rows ≡ Some t.zone)
    × (one_of (codes "port") rows ≡ Some t.port) × (one_of (codes "lanes") rows ≡ Some t.lanes)
    × (one_of (codes "shards") rows ≡ Some t.shards) × (one_of (codes "sessions") rows ≡ t.sessions)
    × (first_of (codes "close") rows ≡ t.close) × (one_of (codes "control") rows ≡ t.control)
    × (one_of (codes "ahead") rows ≡ t.ahead) × (first_of (codes "refused") rows ≡ t.refused)
    × (first_of (codes "greeting") rows ≡ t.greeting) × (first_of (codes "journal") rows ≡ t.journal)
    × (first_of (codes "ledger") rows ≡ t.ledger) × (one_of (codes "early") rows ≡ Some (flag_text t.early))

-- the matches are those of `serve` with these values, and words in their ranges for the numbers
abbrev pub GivesServe : ArgMatches → Serve → Type 0
GivesServe m s = (t : ServeTexts) × (rows : List Row) × (subcommand_rows_of m ≡ Some (codes "serve", rows))
    × HaveServeTexts rows t × AreInRange t × (numbers_of t ≡ s)

-- the matches have the words that `serve` is given
abbrev pub HasServeTexts : Found → ServeTexts → Type 0
HasServeTexts f t = (first_value f (codes "FARES") ≡ Some t.fares) × (first_value f (codes "ZONE") ≡ Some t.zone)
    × (one_text f (codes "port") ≡ Some t.port) × (one_text f (codes "lanes") ≡ Some t.lanes)
    × (one_text f (codes "shards") ≡ Some t.shards) × (one_text f (codes "sessions") ≡ t.sessions)
    × (first_value f (codes "close") ≡ t.close) × (one_text f (codes "control") ≡ t.control)
    × (one_text f (codes "ahead") ≡ t.ahead) × (first_value f (codes "refused") ≡ t.refused)
    × (first_value f (codes "greeting") ≡ t.greeting) × (first_value f (codes "journal") ≡ t.journal)
    × (first_value f (codes "ledger") ≡ t.ledger) × (one_text f (codes "early") ≡ Some (flag_text t.early))

-- these rows have what `audit` is asked for
abbrev pub HaveAudit : List Row → Audit → Type 0
HaveAudit rows a = (first_of (codes "FARES") rows ≡ Some a.fares) × (first_of (codes "ZONE") rows ≡ Some a.zone)
    × (first_of (codes "journal") rows ≡ Some a.journal) × (first_of (codes "ledger") rows ≡ a.ledger)

-- the matches are those of `audit` with these values
abbrev pub GivesAudit : ArgMatches → Audit → Type 0
GivesAudit m a = (rows : List Row) × (subcommand_rows_of m ≡ Some (codes "audit", rows)) × HaveAudit rows a

-- the matches have what `audit` is asked for
abbrev pub HasAudit : Found → Audit → Type 0
HasAudit f a = (first_value f (codes "FARES") ≡ Some a.fares) × (first_value f (codes "ZONE") ≡ Some a.zone)
    × (first_value f (codes "journal") ≡ Some a.journal) × (first_value f (codes "ledger") ≡ a.ledger)

-- these rows have the values of FARES and LEDGER
abbrev pub HaveFaresAndLedger : List Row → Text → Text → Type 0
HaveFaresAndLedger rows fares ledger = (first_of (codes "FARES") rows ≡ Some fares) × (first_of (codes "LEDGER") rows ≡ Some ledger)

-- the matches are those of `rebuild` with these values
abbrev pub GivesRebuild : ArgMatches → Text → Text → Type 0
GivesRebuild m fares ledger = (rows : List Row) × (subcommand_rows_of m ≡ Some (codes "rebuild", rows)) × HaveFaresAndLedger rows fares ledger

-- the matches have these values of FARES and LEDGER
abbrev pub HasFaresAndLedger : Found → Text → Text → Type 0
HasFaresAndLedger f fares ledger = (first_value f (codes "FARES") ≡ Some fares) × (first_value f (codes "LEDGER") ≡ Some ledger)

-- these rows have the words that `follow` is given
abbrev pub HaveFollowTexts : List Row → FollowTexts → Type 0
HaveFollowTexts rows t = (first_of (codes "FARES") rows ≡ Some t.fares) × (first_of (codes "ZONE") rows ≡ Some t.zone)
    × (first_of (codes "log") rows ≡ Some t.log) × (one_of (codes "partition") rows ≡ Some t.partition)
    × (one_of (codes "of") rows ≡ Some t.of) × (first_of (codes "ledger") rows ≡ Some t.ledger)

-- the matches are those of `follow` with these values, and numbers in their ranges
abbrev pub GivesFollow : ArgMatches → Follow → Type 0
GivesFollow m f = (t : FollowTexts) × (rows : List Row) × (subcommand_rows_of m ≡ Some (codes "follow", rows))
    × HaveFollowTexts rows t × AreFollowNumbers t × (follow_of_texts t ≡ f)

-- the matches have the words that `follow` is given
abbrev pub HasFollowTexts : Found → FollowTexts → Type 0
HasFollowTexts f t = (first_value f (codes "FARES") ≡ Some t.fares) × (first_value f (codes "ZONE") ≡ Some t.zone)
    × (first_value f (codes "log") ≡ Some t.log) × (one_text f (codes "partition") ≡ Some t.partition)
    × (one_text f (codes "of") ≡ Some t.of) × (first_value f (codes "ledger") ≡ Some t.ledger)

-- these rows have the words that `log` is given
abbrev pub HaveLogTexts : List Row → LogTexts → Type 0
HaveLogTexts rows t = (first_of (codes "ACTION") rows ≡ Some t.action) × (first_of (codes "FARES") rows ≡ Some t.fares)
    × (first_of (codes "ZONE") rows ≡ Some t.zone) × (first_of (codes "log") rows ≡ Some t.log)
    × (one_of (codes "of") rows ≡ Some t.of) × (one_of (codes "replicas") rows ≡ t.replicas)

-- the matches are those of `log` with these values, and numbers in their ranges
abbrev pub GivesLog : ArgMatches → Log → Type 0
GivesLog m l = (t : LogTexts) × (rows : List Row) × (subcommand_rows_of m ≡ Some (codes "log", rows))
    × HaveLogTexts rows t × AreLogNumbers t × (log_of_texts t ≡ l)

-- the matches have the words that `log` is given
abbrev pub HasLogTexts : Found → LogTexts → Type 0
HasLogTexts f t = (first_value f (codes "ACTION") ≡ Some t.action) × (first_value f (codes "FARES") ≡ Some t.fares)
    × (first_value f (codes "ZONE") ≡ Some t.zone) × (first_value f (codes "log") ≡ Some t.log)
    × (one_text f (codes "of") ≡ Some t.of) × (one_text f (codes "replicas") ≡ t.replicas)

-- help was asked for, or memory was refused
abbrev pub IsHelpOrMemory : WordsFault → Type 0
IsHelpOrMemory (Help text) = ⊤
IsHelpOrMemory (Version text) = ⊥
IsHelpOrMemory Usage = ⊥
IsHelpOrMemory Memory = ⊤

-- the version was asked for, or memory was refused
abbrev pub IsVersionOrMemory : WordsFault → Type 0
IsVersionOrMemory (Help text) = ⊥
IsVersionOrMemory (Version text) = string_bytes text ≡ version_line
IsVersionOrMemory Usage = ⊥
IsVersionOrMemory Memory = ⊤

-- the fault that an error of this kind is
abbrev pub IsFaultOfKind : ErrorKind → WordsFault → Type 0
IsFaultOfKind DisplayHelp fault = IsHelpOrMemory fault
IsFaultOfKind DisplayVersion fault = IsVersionOrMemory fault
IsFaultOfKind OutOfMemory fault = fault ≡ Memory
IsFaultOfKind _ fault = fault ≡ Usage
