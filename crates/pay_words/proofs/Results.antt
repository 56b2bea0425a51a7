-- What the clauses of the result say, by what `clap` makes of the words.
use Rattle.std.proofs.Common.{◌≡◌, ◌∙◌, ◌≤◌, ◌==◌, ◌&&◌, not, nat_le, ◌<◌, eq-eqb, Bool, false, ℕ, codes, true, refl, sym, ap, subst, List, [], ◌∷◌, Option, Some, None, ◌⊎◌, inl, inr, true≢false, option_map, drop, Result, Ok, Err, IfOk, IfErr, MatchResult, slice_index, ◌≢◌}
use Rattle.clap.specs.Walk.{Row, Text}
use Rattle.clap.specs.Simple.{subcommand_of}
use Rattle.clap.specs.Kinds.{Kinds}
use Rattle.clap.specs.Faults.{fault_of}
use Rattle.clap.specs.declared.error.kind.ErrorKind.TheVariants.{DisplayHelp, DisplayVersion, InvalidSubcommand, OutOfMemory}
use Rattle.pay_words.specs.Asked.{Asked, HaveNoHyphens, IsAnswer, IsJobOrMemory, allowed, asked, check_job, number_of, page_job, run, statement_job, check, statement, explain, page, replay, serve, audit, rebuild, follow, log, words_ask, help_asked, help_named, version_asked, usage, IsFaultOf, job_asked, AreJobWords, IsJobInRange, without_dashes}
use Rattle.pay_words.specs.Options.{Part, StandApart, words_of_parts}
use Rattle.pay_words.specs.Audit.{AreAuditParts, Audit}
use Rattle.pay_words.specs.Check.{AreCheckParts, Check, CheckTexts, check_of_texts, has_after_day, has_against, may_check}
use Rattle.pay_words.specs.Explain.{AreExplainParts, Explain, ExplainTexts, explain_of_texts}
use Rattle.pay_words.specs.Follow.{AreFollowNumbers, AreFollowParts, Follow, FollowTexts, follow_of_texts, may_follow}
use Rattle.pay_words.specs.Greeting.{is_greeting}
use Rattle.pay_words.specs.Log.{AreLogNumbers, AreLogParts, IsActionInRange, Log, LogTexts, action_of, log_of_texts, may_log}
use Rattle.pay_words.specs.Node.{node_port}
use Rattle.pay_words.specs.Page.{ArePageParts, ArePorts, Page, PageTexts, may_show, page_of_texts}
use Rattle.pay_words.specs.Run.{AreRunParts, Run, has_journal}
use Rattle.pay_words.specs.Serve.{AreInRange, ArePartsOf, Serve, ServeTexts, is_whole, last_port, numbers_of}
use Rattle.pay_words.specs.Statement.{AreStatementParts, Statement, StatementTexts, has_lines, may_state, shows_postings, statement_of_texts}
use Rattle.std.specs.List.{list_all}
use Rattle.std.specs.Option.{option_map_or}
use Rattle.clap.specs.Words.{HasMatchesOf, IsAmong, all_of, first_of, first_value, matched_of, raw_values, rows_of, subcommand_rows_of}
use Rattle.clap.specs.declared.error.kind.ErrorKind.{ErrorKind}
use Rattle.clap.specs.declared.parser.matches.ArgMatches.{ArgMatches}
use Rattle.clap.specs.declared.parser.matches.Found.{Found}
use Rattle.clap.specs.declared.builder.value_parser.ValueParser.TheVariants as vp
use Rattle.clap.specs.ValueTests.{is_unsigned_in}
use Rattle.clap.proofs.ValueTestLemmas.{accepts-Accepts}
use Rattle.clap.specs.Walk.{one_of}
use Rattle.std.proofs.lemmas.Bool.{leb-true, ltb-true, not-true}
use Rattle.clap.proofs.WalkLemmas.{both, first_value-rows, one_text-rows, raw_values-rows}
use Rattle.std.specs.Prelude.{IfSome, IsOkAnd, ⊤, is_some}
use Rattle.pay_day.specs.Words.{IsDay}
use Rattle.pay_dates.specs.Words.{day_of_text}
use Rattle.pay_dates.specs.Laws.{AreServiceDays, BeginWithNoHyphen}
use Rattle.pay_words.specs.OneWord.{is_account}
use Rattle.pay_words.specs.declared.words.Job.{Job}
use Rattle.pay_words.specs.declared.words.Job.TheVariants.{Run as RunJob, Check as CheckJob, Statement as StatementJob, Explain as ExplainJob, Page as PageJob, Replay, Serve as ServeJob, Stay as StayJob, Audit as AuditJob, Rebuild, Follow as FollowJob, Log as LogJob}
use Rattle.pay_words.specs.declared.words.LogAction.{LogAction}
use Rattle.pay_words.specs.declared.words.LogAction.TheVariants as actions
use Rattle.std.specs.Str.{bytes_eq}
use Rattle.pay_words.specs.OneWord.{is_replicas}
use Rattle.pay_words.specs.declared.words.WordsFault.{WordsFault}
use Rattle.pay_words.specs.declared.words.WordsFault.TheVariants.{Help, Version, Usage, Memory}
use Rattle.pay_words.specs.CommandLine.{GivesAudit, GivesCheck, GivesExplain, GivesFollow, GivesLog, GivesPage, GivesRebuild, GivesReplay, GivesRun, GivesServe, GivesStatement, HasAudit, HasCheckTexts, HasExplainTexts, HasFaresAndLedger, HasFollowTexts, HasLogTexts, HasPageTexts, HasRun, HasServeTexts, HasStatementTexts, IsFaultOfKind, IsHelpOrMemory, IsVersionOrMemory, farebox_app, values_and_files}
use Rattle.pay_words.proofs.NodePorts.{port_text}
use Rattle.pay_words.proofs.WordKinds.{Refuses, is_refusal}
use Rattle.pay_words.proofs.WordsOfProgram.{Comes}
use Rattle.pay_words.proofs.WordsAsked.{comes}
use Rattle.pay_words.proofs.JobWords.{AreWordsOf, asks_audit, asks_check, asks_explain, asks_follow, asks_log, asks_page, asks_rebuild, asks_replay, asks_run, asks_serve, asks_statement, in_order}

-- ---- a parse that succeeds

-- the matches are those of the job that is asked for
abbrev pub Gives : ArgMatches → Asked → Type 0
Gives m (run r) = GivesRun m r
Gives m (check c) = GivesCheck m c
Gives m (statement s) = GivesStatement m s
Gives m (explain e) = GivesExplain m e
Gives m (page p) = GivesPage m p
Gives m (replay fares zone files) = GivesReplay m fares zone files
Gives m (serve s) = GivesServe m s
Gives m (audit a) = GivesAudit m a
Gives m (rebuild fares ledger) = GivesRebuild m fares ledger
Gives m (follow f) = GivesFollow m f
Gives m (log l) = GivesLog m l
Gives m _ = ⊥

-- a parse that succeeds had the words of a job
pub matched : (ws : List Text) (m : ArgMatches) → fault_of farebox_app ws ≡ [] → HasMatchesOf farebox_app ws m → Gives m (words_ask ws)
matched ws m none has = go (words_ask ws) (comes ws)
  where
    go : (x : Asked) → Comes x (fault_of farebox_app ws) (subcommand_of farebox_app ws) → Gives m x
    go (run r) h = (h.1.0, (has refl).1 ∙ h.1.1, h.1.2)
    go (check c) h = (h.1.0, h.1.1, (has refl).1 ∙ h.1.2, h.1.3, h.1.4)
    go (statement s) h = (h.1.0, h.1.1, (has refl).1 ∙ h.1.2, h.1.3, h.1.4, h.1.5)
    go (explain e) h = (h.1.0, h.1.1, (has refl).1 ∙ h.1.2, h.1.3, h.1.4, h.1.5)
    go (page p) h = (h.1.0, h.1.1, (has refl).1 ∙ h.1.2, h.1.3, h.1.4, h.1.5)
    go (replay a b files) h = ap (option_map values_and_files) ((has refl).1 ∙ h.1)
    go (serve s) h = (h.1.0, h.1.1, (has refl).1 ∙ h.1.2, h.1.3, h.1.4, h.1.5)
    go (audit a) h = (h.1.0, (has refl).1 ∙ h.1.1, h.1.2)
    go (rebuild fares ledger) h = (h.1.0, (has refl).1 ∙ h.1.1, h.1.2)
    go (follow f) h = (h.1.0, h.1.1, (has refl).1 ∙ h.1.2, h.1.3, h.1.4, h.1.5)
    go (log l) h = (h.1.0, h.1.1, (has refl).1 ∙ h.1.2, h.1.3, h.1.4, h.1.5)
    go help_asked h =
        let both : [] ≡ DisplayHelp ∷ [] = sym none ∙ h in cc
    go help_named h =
        let both : [] ≡ DisplayHelp ∷ InvalidSubcommand ∷ [] = sym none ∙ h in cc
    go version_asked h =
        let both : [] ≡ DisplayVersion ∷ [] = sym none ∙ h in cc
    go usage h = absurd (subst Refuses none h)

-- an error that shows no text is usage, unless memory was refused
refusal_fault : (k : ErrorKind) (fault : WordsFault) → is_refusal k ≡ true → IsFaultOfKind k fault → (fault ≡ Usage) ⊎ (fault ≡ Memory)
refusal_fault DisplayHelp fault is h = absurd (true≢false (sym is))
refusal_fault DisplayVersion fault is h = absurd (true≢false (sym is))
refusal_fault OutOfMemory fault is h = inr h
refusal_fault _ fault is h = inl h

among_refusals : (k : ErrorKind) (ks : Kinds) → list_all is_refusal ks ≡ true → IsAmong k ks → is_refusal k ≡ true
among_refusals k [] all h = absurd h
among_refusals k (x ∷ xs) all (inl e) = ap is_refusal e ∙ (both _ _ all).0
among_refusals k (x ∷ xs) all (inr h) = among_refusals k xs (both _ _ all).1 h

usage_among : (k : ErrorKind) (ks : Kinds) → Refuses ks → IsAmong k ks → is_refusal k ≡ true
usage_among k [] bad h = absurd bad
usage_among k (x ∷ xs) all h = among_refusals k (x ∷ xs) all h

called_help : (x : Asked) (fault : WordsFault) → (x ≡ help_asked) ⊎ (x ≡ help_named) → IsHelpOrMemory fault → IsFaultOf x fault
called_help x (Help text) e h = e
called_help x (Version text) e h = absurd h
called_help x Usage e h = absurd h
called_help x Memory e h = tt

called_version : (fault : WordsFault) → IsVersionOrMemory fault → IsFaultOf version_asked fault
called_version (Help text) h = absurd h
called_version (Version text) h = (refl, h)
called_version Usage h = absurd h
called_version Memory h = tt

called_usage : (x : Asked) (fault : WordsFault) → (x ≡ usage) ⊎ (x ≡ help_named) → (fault ≡ Usage) ⊎ (fault ≡ Memory) → IsFaultOf x fault
called_usage x fault e (inl is) = subst (IsFaultOf x) (sym is) e
called_usage x fault e (inr is) = subst (IsFaultOf x) (sym is) tt

called_memory : (x : Asked) (fault : WordsFault) → fault ≡ Memory → IsFaultOf x fault
called_memory x fault is = subst (IsFaultOf x) (sym is) tt

-- the fault of an error says what the words ask for
pub refused_as : (ws : List Text) (k : ErrorKind) (fault : WordsFault) → (k ≡ OutOfMemory) ⊎ IsAmong k (fault_of farebox_app ws) → IsFaultOfKind k fault → IsFaultOf (asked ws) fault
refused_as ws k fault (inl memory) is =
    let so : fault ≡ Memory = subst (λ (x : ErrorKind). IsFaultOfKind x fault) memory is in
    subst (IsFaultOf (asked ws)) (sym so) tt
refused_as ws k fault (inr among) is = go (words_ask ws) (comes ws)
  where
    go : (x : Asked) → Comes x (fault_of farebox_app ws) (subcommand_of farebox_app ws) → IsFaultOf (allowed x) fault
    go (run r) h = absurd (subst (IsAmong k) h.0 among)
    go (check a) h = absurd (subst (IsAmong k) h.0 among)
    go (statement s) h = absurd (subst (IsAmong k) h.0 among)
    go (explain e) h = absurd (subst (IsAmong k) h.0 among)
    go (page p) h = absurd (subst (IsAmong k) h.0 among)
    go (replay a b files) h = absurd (subst (IsAmong k) h.0 among)
    go (serve s) h = absurd (subst (IsAmong k) h.0 among)
    go (audit a) h = absurd (subst (IsAmong k) h.0 among)
    go (rebuild fares ledger) h = absurd (subst (IsAmong k) h.0 among)
    go (follow f) h = absurd (subst (IsAmong k) h.0 among)
    go (log l) h = absurd (subst (IsAmong k) h.0 among)
    go help_asked h = elim (subst (IsAmong k) h among) [
      | inl e ↦ called_help help_asked fault (inl refl) (subst (λ (y : ErrorKind). IsFaultOfKind y fault) e is)
      | inr bad ↦ absurd bad
    ]
    go help_named h = elim (subst (IsAmong k) h among) [
      | inl e ↦ called_help help_named fault (inr refl) (subst (λ (y : ErrorKind). IsFaultOfKind y fault) e is)
      | inr (inl e) ↦ called_usage help_named fault (inr refl) (inl (subst (λ (y : ErrorKind). IsFaultOfKind y fault) e is))
      | inr (inr bad) ↦ absurd bad
    ]
    go version_asked h = elim (subst (IsAmong k) h among) [
      | inl e ↦ called_version fault (subst (λ (y : ErrorKind). IsFaultOfKind y fault) e is)
      | inr bad ↦ absurd bad
    ]
    go usage h = called_usage usage fault (inl refl) (refusal_fault k fault (usage_among k (fault_of farebox_app ws) h among) is)

-- the matches of `run` have what it is asked for
pub run_values : (m : ArgMatches) (f : Found) (r : Run) → Some (rows_of f) ≡ option_map (λ p. p.1) (subcommand_rows_of m) → GivesRun m r → HasRun f r
run_values m f r same gives =
    let some : Some (rows_of f) ≡ Some gives.0 = same ∙ ap (option_map (λ p. p.1)) gives.1 in
    let rows_are : rows_of f ≡ gives.0 = cc in
    let h = gives.2 in (
      first_value-rows f (codes "FARES") ∙ (ap (first_of (codes "FARES")) rows_are ∙ h.0),
      first_value-rows f (codes "ZONE") ∙ (ap (first_of (codes "ZONE")) rows_are ∙ h.1),
      first_value-rows f (codes "journal") ∙ (ap (first_of (codes "journal")) rows_are ∙ h.2),
      one_text-rows f (codes "sync") ∙ (ap (one_of (codes "sync")) rows_are ∙ h.3),
      first_value-rows f (codes "ledger") ∙ (ap (first_of (codes "ledger")) rows_are ∙ h.4),
      one_text-rows f (codes "early") ∙ (ap (one_of (codes "early")) rows_are ∙ h.5),
    )

-- the matches of `check` have the words that it is given
pub check_texts : (m : ArgMatches) (f : Found) (c : Check) → Some (rows_of f) ≡ option_map (λ p. p.1) (subcommand_rows_of m) → (gives : GivesCheck m c)
    → HasCheckTexts f gives.0
check_texts m f c same gives =
    let some : Some (rows_of f) ≡ Some gives.1 = same ∙ ap (option_map (λ p. p.1)) gives.2 in
    let rows_are : rows_of f ≡ gives.1 = cc in
    let h = gives.3 in (
      first_value-rows f (codes "FARES") ∙ (ap (first_of (codes "FARES")) rows_are ∙ h.0),
      one_text-rows f (codes "lint") ∙ (ap (one_of (codes "lint")) rows_are ∙ h.1),
      first_value-rows f (codes "against") ∙ (ap (first_of (codes "against")) rows_are ∙ h.2),
      first_value-rows f (codes "after") ∙ (ap (first_of (codes "after")) rows_are ∙ h.3),
    )

-- the matches of `statement` have the words that it is given
pub statement_texts : (m : ArgMatches) (f : Found) (s : Statement) → Some (rows_of f) ≡ option_map (λ p. p.1) (subcommand_rows_of m) → (gives : GivesStatement m s)
    → HasStatementTexts f gives.0
statement_texts m f s same gives =
    let some : Some (rows_of f) ≡ Some gives.1 = same ∙ ap (option_map (λ p. p.1)) gives.2 in
    let rows_are : rows_of f ≡ gives.1 = cc in
    let h = gives.3 in (
      first_value-rows f (codes "FARES") ∙ (ap (first_of (codes "FARES")) rows_are ∙ h.0),
      first_value-rows f (codes "ZONE") ∙ (ap (first_of (codes "ZONE")) rows_are ∙ h.1),
      one_text-rows f (codes "ACCOUNT") ∙ (ap (one_of (codes "ACCOUNT")) rows_are ∙ h.2),
      first_value-rows f (codes "DAY") ∙ (ap (first_of (codes "DAY")) rows_are ∙ h.3),
      first_value-rows f (codes "journal") ∙ (ap (first_of (codes "journal")) rows_are ∙ h.4),
      first_value-rows f (codes "ledger") ∙ (ap (first_of (codes "ledger")) rows_are ∙ h.5),
      one_text-rows f (codes "long") ∙ (ap (one_of (codes "long")) rows_are ∙ h.6),
    )

-- the matches of `explain` have the words that it is given
pub explain_texts : (m : ArgMatches) (f : Found) (e : Explain) → Some (rows_of f) ≡ option_map (λ p. p.1) (subcommand_rows_of m) → (gives : GivesExplain m e)
    → HasExplainTexts f gives.0
explain_texts m f e same gives =
    let some : Some (rows_of f) ≡ Some gives.1 = same ∙ ap (option_map (λ p. p.1)) gives.2 in
    let rows_are : rows_of f ≡ gives.1 = cc in
    let h = gives.3 in (
      first_value-rows f (codes "FARES") ∙ (ap (first_of (codes "FARES")) rows_are ∙ h.0),
      first_value-rows f (codes "ZONE") ∙ (ap (first_of (codes "ZONE")) rows_are ∙ h.1),
      one_text-rows f (codes "ACCOUNT") ∙ (ap (one_of (codes "ACCOUNT")) rows_are ∙ h.2),
      first_value-rows f (codes "DAY") ∙ (ap (first_of (codes "DAY")) rows_are ∙ h.3),
      first_value-rows f (codes "journal") ∙ (ap (first_of (codes "journal")) rows_are ∙ h.4),
      first_value-rows f (codes "ledger") ∙ (ap (first_of (codes "ledger")) rows_are ∙ h.5),
      one_text-rows f (codes "week") ∙ (ap (one_of (codes "week")) rows_are ∙ h.6),
    )

-- the matches of `page` have the words that it is given
pub page_texts : (m : ArgMatches) (f : Found) (p : Page) → Some (rows_of f) ≡ option_map (λ p. p.1) (subcommand_rows_of m) → (gives : GivesPage m p)
    → HasPageTexts f gives.0
page_texts m f p same gives =
    let some : Some (rows_of f) ≡ Some gives.1 = same ∙ ap (option_map (λ p. p.1)) gives.2 in
    let rows_are : rows_of f ≡ gives.1 = cc in
    let h = gives.3 in (
      first_value-rows f (codes "FARES") ∙ (ap (first_of (codes "FARES")) rows_are ∙ h.0),
      first_value-rows f (codes "ZONE") ∙ (ap (first_of (codes "ZONE")) rows_are ∙ h.1),
      first_value-rows f (codes "journal") ∙ (ap (first_of (codes "journal")) rows_are ∙ h.2),
      one_text-rows f (codes "port") ∙ (ap (one_of (codes "port")) rows_are ∙ h.3),
      one_text-rows f (codes "control") ∙ (ap (one_of (codes "control")) rows_are ∙ h.4),
      first_value-rows f (codes "greeting") ∙ (ap (first_of (codes "greeting")) rows_are ∙ h.5),
      first_value-rows f (codes "staff") ∙ (ap (first_of (codes "staff")) rows_are ∙ h.6),
      first_value-rows f (codes "ledger") ∙ (ap (first_of (codes "ledger")) rows_are ∙ h.7),
    )

-- the matches of `replay` have its values
pub replay_values : (m : ArgMatches) (f : Found) (fares zone : Text) (files : List Text) → Some (rows_of f) ≡ option_map (λ p. p.1) (subcommand_rows_of m)
    → GivesReplay m fares zone files
    → (first_value f (codes "FARES") ≡ Some fares) × (first_value f (codes "ZONE") ≡ Some zone) × (option_map raw_values (matched_of f (codes "FILE")) ≡ Some files)
replay_values m f fares zone files same gives = go (subcommand_rows_of m) same gives
  where
    go : (o : Option (Text × List Row)) → Some (rows_of f) ≡ option_map (λ p. p.1) o → option_map values_and_files o ≡ Some (codes "replay", Some fares, Some zone, Some files)
        → (first_value f (codes "FARES") ≡ Some fares) × (first_value f (codes "ZONE") ≡ Some zone) × (option_map raw_values (matched_of f (codes "FILE")) ≡ Some files)
    go None e h = cc
    go (Some p) e h =
        let rows_are : rows_of f ≡ p.1 = cc in
        let all : values_and_files p ≡ (codes "replay", Some fares, Some zone, Some files) = cc in (
          first_value-rows f (codes "FARES") ∙ (ap (first_of (codes "FARES")) rows_are ∙ ap (λ (t : Text × Option Text × Option Text × Option (List Text)). t.1) all),
          first_value-rows f (codes "ZONE") ∙ (ap (first_of (codes "ZONE")) rows_are ∙ ap (λ (t : Text × Option Text × Option Text × Option (List Text)). t.2) all),
          raw_values-rows f (codes "FILE") ∙ (ap (all_of (codes "FILE")) rows_are ∙ ap (λ (t : Text × Option Text × Option Text × Option (List Text)). t.3) all),
        )

-- the matches of `serve` have the words that it needs
pub serve_texts : (m : ArgMatches) (f : Found) (s : Serve) → Some (rows_of f) ≡ option_map (λ p. p.1) (subcommand_rows_of m) → (gives : GivesServe m s)
    → HasServeTexts f gives.0
serve_texts m f s same gives =
    let some : Some (rows_of f) ≡ Some gives.1 = same ∙ ap (option_map (λ p. p.1)) gives.2 in
    let rows_are : rows_of f ≡ gives.1 = cc in
    let h = gives.3 in (
      first_value-rows f (codes "FARES") ∙ (ap (first_of (codes "FARES")) rows_are ∙ h.0),
      first_value-rows f (codes "ZONE") ∙ (ap (first_of (codes "ZONE")) rows_are ∙ h.1),
      one_text-rows f (codes "port") ∙ (ap (one_of (codes "port")) rows_are ∙ h.2),
      one_text-rows f (codes "lanes") ∙ (ap (one_of (codes "lanes")) rows_are ∙ h.3),
      one_text-rows f (codes "shards") ∙ (ap (one_of (codes "shards")) rows_are ∙ h.4),
      one_text-rows f (codes "sessions") ∙ (ap (one_of (codes "sessions")) rows_are ∙ h.5),
      first_value-rows f (codes "close") ∙ (ap (first_of (codes "close")) rows_are ∙ h.6),
      one_text-rows f (codes "control") ∙ (ap (one_of (codes "control")) rows_are ∙ h.7),
      one_text-rows f (codes "ahead") ∙ (ap (one_of (codes "ahead")) rows_are ∙ h.8),
      first_value-rows f (codes "refused") ∙ (ap (first_of (codes "refused")) rows_are ∙ h.9),
      first_value-rows f (codes "greeting") ∙ (ap (first_of (codes "greeting")) rows_are ∙ h.10),
      first_value-rows f (codes "journal") ∙ (ap (first_of (codes "journal")) rows_are ∙ h.11),
      first_value-rows f (codes "ledger") ∙ (ap (first_of (codes "ledger")) rows_are ∙ h.12),
      one_text-rows f (codes "early") ∙ (ap (one_of (codes "early")) rows_are ∙ h.13),
    )

-- the matches of `audit` have what it is asked for
pub audit_values : (m : ArgMatches) (f : Found) (a : Audit) → Some (rows_of f) ≡ option_map (λ p. p.1) (subcommand_rows_of m) → GivesAudit m a → HasAudit f a
audit_values m f a same gives =
    let some : Some (rows_of f) ≡ Some gives.0 = same ∙ ap (option_map (λ p. p.1)) gives.1 in
    let rows_are : rows_of f ≡ gives.0 = cc in
    let h = gives.2 in (
      first_value-rows f (codes "FARES") ∙ (ap (first_of (codes "FARES")) rows_are ∙ h.0),
      first_value-rows f (codes "ZONE") ∙ (ap (first_of (codes "ZONE")) rows_are ∙ h.1),
      first_value-rows f (codes "journal") ∙ (ap (first_of (codes "journal")) rows_are ∙ h.2),
      first_value-rows f (codes "ledger") ∙ (ap (first_of (codes "ledger")) rows_are ∙ h.3),
    )

-- the matches of `rebuild` have its values
pub rebuild_values : (m : ArgMatches) (f : Found) (fares ledger : Text) → Some (rows_of f) ≡ option_map (λ p. p.1) (subcommand_rows_of m)
    → GivesRebuild m fares ledger → HasFaresAndLedger f fares ledger
rebuild_values m f fares ledger same gives =
    let some : Some (rows_of f) ≡ Some gives.0 = same ∙ ap (option_map (λ p. p.1)) gives.1 in
    let rows_are : rows_of f ≡ gives.0 = cc in (
      first_value-rows f (codes "FARES") ∙ (ap (first_of (codes "FARES")) rows_are ∙ gives.2.0),
      first_value-rows f (codes "LEDGER") ∙ (ap (first_of (codes "LEDGER")) rows_are ∙ gives.2.1),
    )

-- the matches of `follow` have the words that it is given
pub follow_texts : (m : ArgMatches) (f : Found) (x : Follow) → Some (rows_of f) ≡ option_map (λ p. p.1) (subcommand_rows_of m) → (gives : GivesFollow m x)
    → HasFollowTexts f gives.0
follow_texts m f x same gives =
    let some : Some (rows_of f) ≡ Some gives.1 = same ∙ ap (option_map (λ p. p.1)) gives.2 in
    let rows_are : rows_of f ≡ gives.1 = cc in
    let h = gives.3 in (
      first_value-rows f (codes "FARES") ∙ (ap (first_of (codes "FARES")) rows_are ∙ h.0),
      first_value-rows f (codes "ZONE") ∙ (ap (first_of (codes "ZONE")) rows_are ∙ h.1),
      first_value-rows f (codes "log") ∙ (ap (first_of (codes "log")) rows_are ∙ h.2),
      one_text-rows f (codes "partition") ∙ (ap (one_of (codes "partition")) rows_are ∙ h.3),
      one_text-rows f (codes "of") ∙ (ap (one_of (codes "of")) rows_are ∙ h.4),
      first_value-rows f (codes "ledger") ∙ (ap (first_of (codes "ledger")) rows_are ∙ h.5),
    )

-- the matches of `log` have the words that it is given
pub log_texts : (m : ArgMatches) (f : Found) (l : Log) → Some (rows_of f) ≡ option_map (λ p. p.1) (subcommand_rows_of m) → (gives : GivesLog m l)
    → HasLogTexts f gives.0
log_texts m f l same gives =
    let some : Some (rows_of f) ≡ Some gives.1 = same ∙ ap (option_map (λ p. p.1)) gives.2 in
    let rows_are : rows_of f ≡ gives.1 = cc in
    let h = gives.3 in (
      first_value-rows f (codes "ACTION") ∙ (ap (first_of (codes "ACTION")) rows_are ∙ h.0),
      first_value-rows f (codes "FARES") ∙ (ap (first_of (codes "FARES")) rows_are ∙ h.1),
      first_value-rows f (codes "ZONE") ∙ (ap (first_of (codes "ZONE")) rows_are ∙ h.2),
      first_value-rows f (codes "log") ∙ (ap (first_of (codes "log")) rows_are ∙ h.3),
      one_text-rows f (codes "of") ∙ (ap (one_of (codes "of")) rows_are ∙ h.4),
      one_text-rows f (codes "replicas") ∙ (ap (one_of (codes "replicas")) rows_are ∙ h.5),
    )

-- ---- the clauses

-- the job that is asked for, `Usage` where none is, or memory was refused
abbrev pub Answers : Asked → Result Job WordsFault → Type 0
Answers x r = MatchResult r (λ job. job_asked job ≡ x) (λ fault. (fault ≡ Memory) ⊎ ((x ≡ usage) × (fault ≡ Usage)))

job_answers : (x : Asked) (r : Result Job WordsFault) → IsOkAnd r (λ job. job_asked job ≡ x) → Answers x r
job_answers x (Ok job) h = h
job_answers x (Err fault) h = absurd h

answer_answers : (x : Asked) (r : Result Job WordsFault) → IsAnswer x r → Answers x r
answer_answers x (Ok job) h = h
answer_answers x (Err fault) h = inr h

memory_answers : (x : Asked) (r : Result Job WordsFault) → IsJobOrMemory x r → Answers x r
memory_answers x (Ok job) h = h
memory_answers x (Err fault) h = inl h

-- a job is read where its words are asked for
pub record ReadsJobs (m : ArgMatches) (r : Result Job WordsFault) : Type 0 where
  pub of_run : (x : Run) → GivesRun m x → IsAnswer (allowed (run x)) r
  pub of_check : (c : Check) → GivesCheck m c → IsAnswer (allowed (check c)) r
  pub of_statement : (s : Statement) → GivesStatement m s → IsAnswer (allowed (statement s)) r
  pub of_explain : (e : Explain) → GivesExplain m e → IsAnswer (allowed (explain e)) r
  pub of_page : (p : Page) → GivesPage m p → IsAnswer (allowed (page p)) r
  pub of_replay : (fares zone : Text) (files : List Text) → GivesReplay m fares zone files → IsJobOrMemory (replay fares zone files) r
  pub of_serve : (s : Serve) → GivesServe m s → IsAnswer (allowed (serve s)) r
  pub of_audit : (a : Audit) → GivesAudit m a → IsOkAnd r (λ job. job_asked job ≡ audit a)
  pub of_rebuild : (fares ledger : Text) → GivesRebuild m fares ledger → IsOkAnd r (λ job. job_asked job ≡ rebuild fares ledger)
  pub of_follow : (f : Follow) → GivesFollow m f → IsAnswer (allowed (follow f)) r
  pub of_log : (l : Log) → GivesLog m l → IsAnswer (allowed (log l)) r

pub job_read : (m : ArgMatches) (x : Asked) (r : Result Job WordsFault) → Gives m x → ReadsJobs m r → Answers (allowed x) r
job_read m (run y) r h reads = answer_answers (allowed (run y)) r (reads.of_run y h)
job_read m (check c) r h reads = answer_answers (allowed (check c)) r (reads.of_check c h)
job_read m (statement s) r h reads = answer_answers (allowed (statement s)) r (reads.of_statement s h)
job_read m (explain e) r h reads = answer_answers (allowed (explain e)) r (reads.of_explain e h)
job_read m (page p) r h reads = answer_answers (allowed (page p)) r (reads.of_page p h)
job_read m (replay a b files) r h reads = memory_answers (replay a b files) r (reads.of_replay a b files h)
job_read m (serve s) r h reads = answer_answers (allowed (serve s)) r (reads.of_serve s h)
job_read m (audit a) r h reads = job_answers (audit a) r (reads.of_audit a h)
job_read m (rebuild fares ledger) r h reads = job_answers (rebuild fares ledger) r (reads.of_rebuild fares ledger h)
job_read m (follow f) r h reads = answer_answers (allowed (follow f)) r (reads.of_follow f h)
job_read m (log l) r h reads = answer_answers (allowed (log l)) r (reads.of_log l h)
job_read m help_asked r h reads = absurd h
job_read m help_named r h reads = absurd h
job_read m version_asked r h reads = absurd h
job_read m usage r h reads = absurd h

job_words_are : (ws : List Text) (job : Job) → asked ws ≡ job_asked job → AreJobWords job (without_dashes (drop 1 ws))
job_words_are ws (RunJob w) e = subst (λ (x : Asked). AreWordsOf x (drop 1 ws)) e (in_order ws)
job_words_are ws (CheckJob w) e = subst (λ (x : Asked). AreWordsOf x (drop 1 ws)) e (in_order ws)
job_words_are ws (StatementJob w) e = subst (λ (x : Asked). AreWordsOf x (drop 1 ws)) e (in_order ws)
job_words_are ws (ExplainJob w) e = subst (λ (x : Asked). AreWordsOf x (drop 1 ws)) e (in_order ws)
job_words_are ws (PageJob w) e = subst (λ (x : Asked). AreWordsOf x (drop 1 ws)) e (in_order ws)
job_words_are ws (Replay w) e = (subst (λ (x : Asked). AreWordsOf x (drop 1 ws)) e (in_order ws)).0
job_words_are ws (ServeJob w) e = subst (λ (x : Asked). AreWordsOf x (drop 1 ws)) e (in_order ws)
job_words_are ws (StayJob w) e = subst (λ (x : Asked). AreWordsOf x (drop 1 ws)) e (in_order ws)
job_words_are ws (AuditJob w) e = subst (λ (x : Asked). AreWordsOf x (drop 1 ws)) e (in_order ws)
job_words_are ws (Rebuild w) e = subst (λ (x : Asked). AreWordsOf x (drop 1 ws)) e (in_order ws)
job_words_are ws (FollowJob w) e = subst (λ (x : Asked). AreWordsOf x (drop 1 ws)) e (in_order ws)
job_words_are ws (LogJob w) e = subst (λ (x : Asked). AreWordsOf x (drop 1 ws)) e (in_order ws)

-- a job is asked for
abbrev IsTask : Asked → Type 0
IsTask help_asked = ⊥
IsTask help_named = ⊥
IsTask version_asked = ⊥
IsTask usage = ⊥
IsTask _ = ⊤

by_memory : (x y : Asked) (fault : WordsFault) → x ≡ y → IsTask y → IsFaultOf x fault → fault ≡ Memory
by_memory x y (Help text) e task (inl h) = absurd (subst IsTask (sym e ∙ h) task)
by_memory x y (Help text) e task (inr h) = absurd (subst IsTask (sym e ∙ h) task)
by_memory x y (Version text) e task h = absurd (subst IsTask (sym e ∙ h.0) task)
by_memory x y Usage e task (inl h) = absurd (subst IsTask (sym e ∙ h) task)
by_memory x y Usage e task (inr h) = absurd (subst IsTask (sym e ∙ h) task)
by_memory x y Memory e task h = refl

-- what is asked for has its journal, its day, its other fare file, its clerks, its partition, its action, or what its form of a
-- service needs
abbrev IsAllowed : Asked → Type 0
IsAllowed (run r) = has_journal r ≡ true
IsAllowed (check c) = may_check c ≡ true
IsAllowed (statement s) = may_state s ≡ true
IsAllowed (explain e) = is_some e.day ≡ true
IsAllowed (page p) = may_show p ≡ true
IsAllowed (serve s) = is_whole s ≡ true
IsAllowed (follow f) = may_follow f ≡ true
IsAllowed (log l) = may_log l ≡ true
IsAllowed _ = ⊤

asked_is_allowed : (x : Asked) → IsAllowed (allowed x)
asked_is_allowed (run r) = go (has_journal r) refl
  where
    go : (t : Bool) → has_journal r ≡ t → IsAllowed (allowed (run r))
    go true is = rw is is
    go false is = rw is tt
asked_is_allowed (check c) = go (may_check c) refl
  where
    go : (t : Bool) → may_check c ≡ t → IsAllowed (allowed (check c))
    go true is = rw is is
    go false is = rw is tt
asked_is_allowed (serve s) = go (is_whole s) refl
  where
    go : (t : Bool) → is_whole s ≡ t → IsAllowed (allowed (serve s))
    go true is = rw is is
    go false is = rw is tt
asked_is_allowed (statement s) = go (may_state s) refl
  where
    go : (t : Bool) → may_state s ≡ t → IsAllowed (allowed (statement s))
    go true is = rw is is
    go false is = rw is tt
asked_is_allowed (explain e) = go (is_some e.day) refl
  where
    go : (t : Bool) → is_some e.day ≡ t → IsAllowed (allowed (explain e))
    go true is = rw is is
    go false is = rw is tt
asked_is_allowed (page p) = go (may_show p) refl
  where
    go : (t : Bool) → may_show p ≡ t → IsAllowed (allowed (page p))
    go true is = rw is is
    go false is = rw is tt
asked_is_allowed (follow f) = go (may_follow f) refl
  where
    go : (t : Bool) → may_follow f ≡ t → IsAllowed (allowed (follow f))
    go true is = rw is is
    go false is = rw is tt
asked_is_allowed (log l) = go (may_log l) refl
  where
    go : (t : Bool) → may_log l ≡ t → IsAllowed (allowed (log l))
    go true is = rw is is
    go false is = rw is tt
asked_is_allowed (replay a b files) = tt
asked_is_allowed (audit a) = tt
asked_is_allowed (rebuild fares ledger) = tt
asked_is_allowed help_asked = tt
asked_is_allowed help_named = tt
asked_is_allowed version_asked = tt
asked_is_allowed usage = tt

number_in_range : (least most : ℕ) (word : Text) (n : ℕ) → is_unsigned_in least most word ≡ true → number_of word ≡ n → (least ≤ n) × (n ≤ most)
number_in_range least most word n fits is =
    let within = accepts-Accepts false (vp.Unsigned least most) word fits in
    (subst (λ (k : ℕ). least ≤ k) is within.2, subst (λ (k : ℕ). k ≤ most) is within.3)

-- the port of a node is in its range
node_in_range : (url : Text) (port : ℕ) → node_port url ≡ Some port → (1 ≤ port) × (port ≤ 65_535)
node_in_range url port is =
    let from = port_text url port is in
    number_in_range 1 65_535 from.0 port from.1 from.2

-- and where there may be none
given_in_range : (least most : ℕ) (word : Option Text) (n : Option ℕ) → IfSome word (λ w. is_unsigned_in least most w ≡ true) → option_map number_of word ≡ n
    → IfSome n (λ k. (least ≤ k) × (k ≤ most))
given_in_range least most word None fits is = tt
given_in_range least most None (Some n) fits is = cc
given_in_range least most (Some w) (Some n) fits is =
    let same : number_of w ≡ n = cc in
    number_in_range least most w n fits same

-- so is the number of an action
action_in_range : (word : Text) (replicas : Option Text) (action : LogAction) → action_of word (option_map number_of replicas) ≡ Some action
    → IfSome replicas (λ w. is_replicas w ≡ true) → IsActionInRange action
action_in_range word replicas actions.Check is fits = tt
action_in_range word None (actions.Make n) is fits = go (bytes_eq word (codes "make")) refl (bytes_eq word (codes "check")) refl
  where
    go : (m : Bool) → bytes_eq word (codes "make") ≡ m → (c : Bool) → bytes_eq word (codes "check") ≡ c → IsActionInRange (actions.Make n)
    go true m c k =
        let none : None ≡ Some (actions.Make n) = rw m at is in cc
    go false m true k =
        let other : Some actions.Check ≡ Some (actions.Make n) = rw (m, k) at is in cc
    go false m false k =
        let none : None ≡ Some (actions.Make n) = rw (m, k) at is in cc
action_in_range word (Some w) (actions.Make n) is fits = go (bytes_eq word (codes "make")) refl (bytes_eq word (codes "check")) refl
  where
    go : (m : Bool) → bytes_eq word (codes "make") ≡ m → (c : Bool) → bytes_eq word (codes "check") ≡ c → IsActionInRange (actions.Make n)
    go true m c k =
        let made : Some (actions.Make (number_of w)) ≡ Some (actions.Make n) = rw m at is in
        let same : number_of w ≡ n = cc in
        number_in_range 1 5 w n fits same
    go false m true k =
        let none : None ≡ Some (actions.Make n) = rw (m, k) at is in cc
    go false m false k =
        let none : None ≡ Some (actions.Make n) = rw (m, k) at is in cc

-- a day that is given is a service day
days_are : AreServiceDays → (word : Option Text) (day : Option ℕ) → option_map day_of_text word ≡ option_map Some day → IfSome day IsDay
days_are service word None is = tt
days_are service None (Some day) is = cc
days_are service (Some w) (Some day) is =
    let named : day_of_text w ≡ Some day = cc in
    service w day named

-- of a range, the number that is not exceeded
at_most : (least most : ℕ) (n : Option ℕ) → IfSome n (λ k. (least ≤ k) × (k ≤ most)) → IfSome n (λ k. k ≤ most)
at_most least most None within = tt
at_most least most (Some k) within = within.1

-- the port of the staff is another, and a lane is left for them
room_left : (control port lanes : ℕ) → (not (control == port) && nat_le lanes 14) ≡ true → (control ≢ port) × (lanes ≤ 14)
room_left control port lanes is =
    let each = both (not (control == port)) (nat_le lanes 14) is in
    (λ same. true≢false (sym (eq-eqb control port same) ∙ not-true (control == port) each.0), leb-true lanes 14 each.1)

-- the port at which pages ask a service is in its range, and another than that of the pages
control_in_range : (port : ℕ) (control : Option ℕ) → IfSome control (λ k. (1 ≤ k) × (k ≤ 65_535)) → option_map_or (λ k. not (k == port)) control true ≡ true
    → IfSome control (λ k. (1 ≤ k) × (k ≤ 65_535) × (k ≢ port))
control_in_range port None within own = tt
control_in_range port (Some k) within own = (within.0, within.1, λ same. true≢false (sym (eq-eqb k port same) ∙ not-true (k == port) own))

-- a greeting that is given may be one
greets : {S : Type 0} (text_of : S → Text) (greeting : Option S) → option_map_or is_greeting (option_map text_of greeting) true ≡ true → IfSome greeting (λ s. is_greeting (text_of s) ≡ true)
greets text_of None is = tt
greets text_of (Some s) is = is

job_in_range : AreServiceDays → (ws : List Text) (job : Job) → asked ws ≡ job_asked job → IsJobInRange job
job_in_range service ws (RunJob w) e = subst IsAllowed e (asked_is_allowed (words_ask ws))
job_in_range service ws (CheckJob w) e =
    let made = job_words_are ws (CheckJob w) e in (
      (both (has_after_day (check_job w)) (has_against (check_job w)) (subst IsAllowed e (asked_is_allowed (words_ask ws)))).1,
      days_are service made.0.after w.after (ap (λ (c : Check). c.after) made.4),
    )
job_in_range service ws (StatementJob w) e =
    let made = job_words_are ws (StatementJob w) e in
    let account = number_in_range 1 4_294_967_295 made.0.account w.account made.4 (ap (λ (s : Statement). s.account) made.5) in
    let long = both (has_lines (statement_job w)) (shows_postings (statement_job w)) (subst IsAllowed e (asked_is_allowed (words_ask ws))) in
    (account.0, account.1, service made.0.day w.day (ap (λ (s : Statement). s.day) made.5), long.0, long.1)
job_in_range service ws (ExplainJob w) e =
    let made = job_words_are ws (ExplainJob w) e in
    let account = number_in_range 1 4_294_967_295 made.0.account w.account made.4 (ap (λ (x : Explain). x.account) made.5) in
    (account.0, account.1, service made.0.day w.day (ap (λ (x : Explain). x.day) made.5))
job_in_range service ws (PageJob w) e =
    let made = job_words_are ws (PageJob w) e in
    let port = number_in_range 1 65_535 made.0.port w.port made.4.0 (ap (λ (p : Page). p.port) made.5) in
    let control = given_in_range 1 65_535 made.0.control (page_job w).control made.4.1 (ap (λ (p : Page). p.control) made.5) in
    let shows = both _ _ (subst IsAllowed e (asked_is_allowed (words_ask ws))) in
    let own = both _ _ shows.1 in
    (port.0, port.1, control_in_range w.port w.control control own.0, greets (λ s. s.now) w.greeting own.1, shows.0)
job_in_range service ws (Replay w) e = (subst (λ (x : Asked). AreWordsOf x (drop 1 ws)) e (in_order ws)).1
job_in_range service ws (ServeJob w) e =
    let made = job_words_are ws (ServeJob w) e in
    let port = number_in_range 1 65_535 made.0.port w.port made.4.0 (ap (λ (s : Serve). s.port) made.5) in
    let lanes = number_in_range 1 15 made.0.lanes w.lanes made.4.1 (ap (λ (s : Serve). s.lanes) made.5) in
    let shards = number_in_range 1 16 made.0.shards w.shards made.4.2 (ap (λ (s : Serve). s.shards) made.5) in
    let sessions = given_in_range 1 1_000 made.0.sessions (Some w.sessions) made.4.3 (ap (λ (s : Serve). s.sessions) made.5) in
    let close = days_are service made.0.close (Some w.close) (ap (λ (s : Serve). s.close) made.5) in
    let ports : last_port w.port w.lanes ≤ 65_535 = leb-true (last_port w.port w.lanes) 65_535 (subst IsAllowed e (asked_is_allowed (words_ask ws))) in
    (port.0, lanes.0, lanes.1, ports, shards.0, shards.1, sessions.0, sessions.1, close)
job_in_range service ws (StayJob w) e =
    let made = job_words_are ws (StayJob w) e in
    let port = number_in_range 1 65_535 made.0.port w.port made.4.0 (ap (λ (s : Serve). s.port) made.5) in
    let lanes = number_in_range 1 15 made.0.lanes w.lanes made.4.1 (ap (λ (s : Serve). s.lanes) made.5) in
    let shards = number_in_range 1 16 made.0.shards w.shards made.4.2 (ap (λ (s : Serve). s.shards) made.5) in
    let control = given_in_range 1 65_535 made.0.control (Some w.control) made.4.4 (ap (λ (s : Serve). s.control) made.5) in
    let stays = both _ _ (both _ _ (subst IsAllowed e (asked_is_allowed (words_ask ws)))).0 in
    let room = room_left w.control w.port w.lanes stays.0 in
    let ahead = given_in_range 0 86_400 made.0.ahead w.ahead made.4.5 (ap (λ (s : Serve). s.ahead) made.5) in
    (port.0, control.0, room.0, lanes.0, room.1, shards.0, shards.1, at_most 0 86_400 w.ahead ahead, greets (λ s. s.now) w.greeting stays.1)
job_in_range service ws (AuditJob w) e = tt
job_in_range service ws (Rebuild w) e = tt
job_in_range service ws (FollowJob w) e =
    let made = job_words_are ws (FollowJob w) e in
    let port = node_in_range made.0.log w.port (ap (λ (f : Follow). f.port) made.5) in
    let of = number_in_range 1 16 made.0.of w.of made.4.1 (ap (λ (f : Follow). f.of) made.5) in
    let within : w.partition < w.of = ltb-true w.partition w.of (subst IsAllowed e (asked_is_allowed (words_ask ws))) in
    (port.0, port.1, within, of.1)
job_in_range service ws (LogJob w) e =
    let made = job_words_are ws (LogJob w) e in
    let port = node_in_range made.0.log w.port (ap (λ (l : Log). l.port) made.5) in
    let of = number_in_range 1 16 made.0.of w.of made.4.0 (ap (λ (l : Log). l.of) made.5) in
    (port.0, port.1, of.0, of.1, action_in_range made.0.action made.0.replicas w.action (ap (λ (l : Log). l.action) made.5) made.4.1)

pub result_in_range : AreServiceDays → (r : Result Job WordsFault) (ws : List Text) → IfOk r (λ job. asked ws ≡ job_asked job) → IfOk r IsJobInRange
result_in_range service (Ok job) ws h = job_in_range service ws job h
result_in_range service (Err fault) ws h = tt

pub result_job : (r : Result Job WordsFault) (x : Asked) → Answers x r → IfOk r (λ job. x ≡ job_asked job)
result_job (Ok job) x h = sym h
result_job (Err fault) x h = tt

pub result_refused : (r : Result Job WordsFault) (x : Asked) → Answers x r → IfErr r (IsFaultOf x)
result_refused (Ok job) x h = tt
result_refused (Err fault) x (inl memory) = called_memory x fault memory
result_refused (Err fault) x (inr h) = called_usage x fault (inl h.0) (inl h.1)

pub result_words : (r : Result Job WordsFault) (ws : List Text) → IfOk r (λ job. asked ws ≡ job_asked job) → IfOk r (λ job. AreJobWords job (without_dashes (drop 1 ws)))
result_words (Ok job) ws h = job_words_are ws job h
result_words (Err fault) ws h = tt

-- where the words ask for a job, it is given, or memory was refused
job_or_memory : (r : Result Job WordsFault) (ws : List Text) (x : Asked) → IfOk r (λ job. asked ws ≡ job_asked job) → IfErr r (IsFaultOf (asked ws))
    → asked ws ≡ x → IsTask x → IsJobOrMemory x r
job_or_memory (Ok job) ws x ok err is task = sym ok ∙ is
job_or_memory (Err fault) ws x ok err is task = by_memory (asked ws) x fault is task err

module _ (r : Result Job WordsFault) (ws : List Text) (ok : IfOk r (λ job. asked ws ≡ job_asked job)) (err : IfErr r (IsFaultOf (asked ws))) where
  pub result_run : (name : Text) (x : Run) (parts : List Part) → ws ≡ name ∷ codes "run" ∷ words_of_parts parts → AreRunParts x parts → StandApart parts
      → slice_index x.fares 0 ≢ 45 → slice_index x.zone 0 ≢ 45 → has_journal x ≡ true → IsJobOrMemory (run x) r
  result_run name x parts is are may f z journal = job_or_memory r ws (run x) ok err (asks_run ws name x parts is are may f z journal) tt

  pub result_check : (name : Text) (t : CheckTexts) (parts : List Part) → ws ≡ name ∷ codes "check" ∷ words_of_parts parts → AreCheckParts t parts → StandApart parts
      → slice_index t.fares 0 ≢ 45 → may_check (check_of_texts t) ≡ true → IsJobOrMemory (check (check_of_texts t)) r
  result_check name t parts is are may f fits = job_or_memory r ws (check (check_of_texts t)) ok err (asks_check ws name t parts is are may f fits) tt

  pub result_statement : BeginWithNoHyphen → (name : Text) (t : StatementTexts) (parts : List Part) → ws ≡ name ∷ codes "statement" ∷ words_of_parts parts → AreStatementParts t parts → StandApart parts
      → slice_index t.fares 0 ≢ 45 → slice_index t.zone 0 ≢ 45 → is_account t.account ≡ true → may_state (statement_of_texts t) ≡ true → IsJobOrMemory (statement (statement_of_texts t)) r
  result_statement no_hyphen name t parts is are may f z n states = job_or_memory r ws (statement (statement_of_texts t)) ok err (asks_statement no_hyphen ws name t parts is are may f z n states) tt

  pub result_explain : BeginWithNoHyphen → (name : Text) (t : ExplainTexts) (parts : List Part) → ws ≡ name ∷ codes "explain" ∷ words_of_parts parts → AreExplainParts t parts → StandApart parts
      → slice_index t.fares 0 ≢ 45 → slice_index t.zone 0 ≢ 45 → is_account t.account ≡ true → is_some (day_of_text t.day) ≡ true → IsJobOrMemory (explain (explain_of_texts t)) r
  result_explain no_hyphen name t parts is are may f z n d = job_or_memory r ws (explain (explain_of_texts t)) ok err (asks_explain no_hyphen ws name t parts is are may f z n d) tt

  pub result_page : (name : Text) (t : PageTexts) (parts : List Part) → ws ≡ name ∷ codes "page" ∷ words_of_parts parts → ArePageParts t parts → StandApart parts
      → slice_index t.fares 0 ≢ 45 → slice_index t.zone 0 ≢ 45 → ArePorts t → may_show (page_of_texts t) ≡ true → IsJobOrMemory (page (page_of_texts t)) r
  result_page name t parts is are may f z fits shows = job_or_memory r ws (page (page_of_texts t)) ok err (asks_page ws name t parts is are may f z fits shows) tt

  pub result_replay : (name fares zone file : Text) (files : List Text) → ws ≡ name ∷ codes "replay" ∷ fares ∷ zone ∷ file ∷ files
      → slice_index fares 0 ≢ 45 → slice_index zone 0 ≢ 45 → HaveNoHyphens (file ∷ files) → IsJobOrMemory (replay fares zone (file ∷ files)) r
  result_replay name fares zone file files is f z h = job_or_memory r ws (replay fares zone (file ∷ files)) ok err (asks_replay ws name fares zone file files is f z h) tt

  pub result_serve : (name : Text) (t : ServeTexts) (parts : List Part) → ws ≡ name ∷ codes "serve" ∷ words_of_parts parts → ArePartsOf t parts → StandApart parts
      → slice_index t.fares 0 ≢ 45 → slice_index t.zone 0 ≢ 45 → AreInRange t → is_whole (numbers_of t) ≡ true → IsJobOrMemory (serve (numbers_of t)) r
  result_serve name t parts is are may f z fits whole = job_or_memory r ws (serve (numbers_of t)) ok err (asks_serve ws name t parts is are may f z fits whole) tt

  pub result_audit : (name : Text) (a : Audit) (parts : List Part) → ws ≡ name ∷ codes "audit" ∷ words_of_parts parts → AreAuditParts a parts → StandApart parts
      → slice_index a.fares 0 ≢ 45 → slice_index a.zone 0 ≢ 45 → IsJobOrMemory (audit a) r
  result_audit name a parts is are may f z = job_or_memory r ws (audit a) ok err (asks_audit ws name a parts is are may f z) tt

  pub result_rebuild : (name fares ledger : Text) → ws ≡ name ∷ codes "rebuild" ∷ fares ∷ ledger ∷ []
      → slice_index fares 0 ≢ 45 → slice_index ledger 0 ≢ 45 → IsJobOrMemory (rebuild fares ledger) r
  result_rebuild name fares ledger is f l = job_or_memory r ws (rebuild fares ledger) ok err (asks_rebuild ws name fares ledger is f l) tt

  pub result_follow : (name : Text) (t : FollowTexts) (parts : List Part) → ws ≡ name ∷ codes "follow" ∷ words_of_parts parts → AreFollowParts t parts → StandApart parts
      → slice_index t.fares 0 ≢ 45 → slice_index t.zone 0 ≢ 45 → AreFollowNumbers t → may_follow (follow_of_texts t) ≡ true → IsJobOrMemory (follow (follow_of_texts t)) r
  result_follow name t parts is are may f z fits follows = job_or_memory r ws (follow (follow_of_texts t)) ok err (asks_follow ws name t parts is are may f z fits follows) tt

  pub result_log : (name : Text) (t : LogTexts) (parts : List Part) → ws ≡ name ∷ codes "log" ∷ words_of_parts parts → AreLogParts t parts → StandApart parts
      → slice_index t.fares 0 ≢ 45 → slice_index t.zone 0 ≢ 45 → AreLogNumbers t → may_log (log_of_texts t) ≡ true → IsJobOrMemory (log (log_of_texts t)) r
  result_log name t parts is are may f z fits allows = job_or_memory r ws (log (log_of_texts t)) ok err (asks_log ws name t parts is are may f z fits allows) tt
