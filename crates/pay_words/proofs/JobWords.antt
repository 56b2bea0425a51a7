-- The words of which a job was made.
use Rattle.std.proofs.Common.{◌≡◌, ◌∙◌, ◌&&◌, ℕ, Bool, codes, true, false, refl, sym, subst, ap, List, [], ◌∷◌, Option, Some, None, inl, inr, drop, slice_index, true≢false, ◌≢◌, arith}
use Rattle.clap.specs.Walk.{Row, Text, idle}
use Rattle.clap.proofs.WalkLemmas.{both}
use Rattle.clap.specs.Kinds.{Kinds}
use Rattle.clap.specs.ValueTests.{is_unsigned_in}
use Rattle.std.specs.Prelude.{IfSome, ⊤, is_some}
use Rattle.pay_dates.specs.Words.{day_of_text}
use Rattle.pay_dates.specs.Laws.{BeginWithNoHyphen}
use Rattle.pay_words.specs.OneWord.{is_account}
use Rattle.std.proofs.lemmas.Bool.Decides.{eqb_tells}
use Rattle.pay_words.specs.Asked.{AreAuditWords, AreCheckWords, AreExplainWords, AreFollowWords, AreLogWords, ArePageWords, AreRunWords, AreServeWords, AreStatementWords, Asked, HaveNoHyphens, Word, allowed, asked, many_by, many_given, word_kind, words_ask, option_asked, program_asked}
use Rattle.pay_words.specs.Asked.{audit, audit_asked, audit_of, explain, explain_asked, explain_of, follow, follow_asked, follow_of, log, log_asked, log_of, page, page_asked, page_of, rebuild, rebuild_asked, rebuild_of}
use Rattle.pay_words.specs.Asked.{check, check_asked, check_of, replay, replay_asked, run, run_asked, run_of, serve, serve_asked, serve_of, statement, statement_asked, statement_of}
use Rattle.pay_words.specs.Asked.{Given, with_value, values, help, refused, without_dashes}
use Rattle.pay_words.specs.Asked as words
use Rattle.pay_words.specs.Options as say
use Rattle.pay_words.specs.Options.{AreParts, IsOption, Part, Said, Setting, StandApart, all_of, all_said, flag_value, help_wanted, is_flag, not_taken, plain_words, reader_of, values_of, words_of_parts}
use Rattle.pay_words.specs.Options.{port_option, lanes_option, shards_option, sessions_option, close_option, control_option, ahead_option, refused_option, greeting_option, journal_option, sync_option, ledger_option, early_option}
use Rattle.pay_words.specs.Options.{lint_option, against_option, after_option, week_option, staff_option, long_option, log_option, partition_option, of_option, replicas_option}
use Rattle.pay_words.specs.Audit.{AreAuditParts, Audit, audit_grammar}
use Rattle.pay_words.specs.Check.{AreCheckParts, CheckTexts, check_grammar, check_of_texts, may_check}
use Rattle.pay_words.specs.Explain.{AreExplainParts, ExplainTexts, explain_grammar, explain_of_texts}
use Rattle.pay_words.specs.Follow.{AreFollowNumbers, AreFollowParts, FollowTexts, follow_grammar, follow_of_texts, may_follow}
use Rattle.pay_words.specs.Log.{AreLogNumbers, AreLogParts, LogTexts, action_of, log_grammar, log_of_texts, may_log}
use Rattle.pay_words.specs.Node.{node_port}
use Rattle.pay_words.specs.OneWord.{number_of}
use Rattle.std.specs.Str.{bytes_eq}
use Rattle.std.specs.Prelude.{option_map}
use Rattle.pay_words.proofs.WordKinds.{same_bytes}
use Rattle.pay_words.specs.Page.{ArePageParts, ArePorts, PageTexts, may_show, page_grammar, page_of_texts}
use Rattle.pay_words.specs.Rebuild.{rebuild_grammar}
use Rattle.pay_words.specs.Run.{AreRunParts, Run, first_given, flags, has_journal, is_given, listed, run_grammar}
use Rattle.pay_words.specs.Serve.{AreInRange, ArePartsOf, ServeTexts, is_whole, numbers_of, serve_grammar}
use Rattle.pay_words.specs.Statement.{AreStatementParts, StatementTexts, has_lines, may_state, shows_postings, statement_grammar, statement_of_texts}
use Rattle.pay_words.proofs.OptionEnds.{under_reads}
use Rattle.pay_words.proofs.OptionRules.{flag_given}
use Rattle.pay_words.proofs.OptionsTaken.{AreTaken, Fits, Once, no_values, not_both, parts_taken}
use Rattle.pay_words.proofs.PartsSaid.{Says, says}
use Rattle.pay_words.proofs.Programs.{by_program}
use Rattle.pay_words.proofs.WordKinds.{Reads, reads}
use Rattle.pay_words.proofs.WordLevels.{Level, rows_from}
use Rattle.pay_words.proofs.WordSteps.{stand}
use Rattle.pay_words.proofs.WordsAfterAudit.{audit_apart, audit_built, audit_rules, audit_shape}
use Rattle.pay_words.proofs.WordsAfterCheck.{check_apart, check_built, check_rules, check_shape}
use Rattle.pay_words.proofs.WordsAfterExplain.{explain_apart, explain_built, explain_rules, explain_shape}
use Rattle.pay_words.proofs.WordsAfterFollow.{follow_apart, follow_built, follow_rules, follow_shape}
use Rattle.pay_words.proofs.WordsAfterLog.{log_apart, log_built, log_rules, log_shape}
use Rattle.pay_words.proofs.WordsAfterOptions.{Comes, Places, Under, ends}
use Rattle.pay_words.proofs.WordsAfterPage.{page_apart, page_built, page_rules, page_shape}
use Rattle.pay_words.proofs.WordsAfterRebuild.{rebuild_apart, rebuild_built, rebuild_rules}
use Rattle.pay_words.proofs.WordsAfterReplay.{replay_long, replay_rules, replay_short}
use Rattle.pay_words.proofs.WordsAfterRun.{run_apart, run_built, run_rules, run_shape}
use Rattle.pay_words.proofs.WordsAfterServe.{serve_apart, serve_built, serve_rules, serve_shape}
use Rattle.pay_words.proofs.WordsAfterStatement.{statement_apart, statement_built, statement_rules, statement_shape}

-- ---- words that are values alone

abbrev values_in : Given → List Text
values_in (values vs) = vs
values_in help = []
values_in refused = []

-- what is given after one value more
one_more : (word : Text) (g : Given) (vs : List Text) → with_value word g ≡ values vs → (more : List Text) × (g ≡ values more) × (word ∷ more ≡ vs)
one_more word (values more) vs e = (more, refl, ap values_in e)
one_more word help vs e = cc
one_more word refused vs e = cc

any_row : (word : Text) → Reads replay_rules false replay_long replay_short [] [] None (word_kind word) word
any_row word = reads replay_rules false replay_long replay_short [] [] None refl word

-- the values are the words, but for the first `--`
many_are : (rest vs : List Text) → many_given rest ≡ values vs → without_dashes rest ≡ vs
many_are [] vs e = ap values_in e
many_are (word ∷ rest) vs e = go (word_kind word) (any_row word) e (λ ws h. many_are rest ws h)
  where
    go : (k : Word) → Reads replay_rules false replay_long replay_short [] [] None k word → many_by k word rest (many_given rest) ≡ values vs
        → ((ws : List Text) → many_given rest ≡ values ws → without_dashes rest ≡ ws) → without_dashes (word ∷ rest) ≡ vs
    go words.value r e next =
        let m = one_more word (many_given rest) vs e in
        rw r.0 (ap (λ (l : List Text). word ∷ l) (next m.0 m.1) ∙ m.2)
    go words.dashes r e next = rw r (ap values_in e)
    go words.call_for_help r e next = cc
    go words.call_for_version r e next = cc
    go words.option r e next = cc

-- ---- the words of a job

-- the words after the program's own name, of a job, and what they were where there is none
abbrev pub AreWordsOf : Asked → List Text → Type 0
AreWordsOf (run r) ws = AreRunWords r (without_dashes ws)
AreWordsOf (check c) ws = AreCheckWords c (without_dashes ws)
AreWordsOf (statement s) ws = AreStatementWords s (without_dashes ws)
AreWordsOf (explain e) ws = AreExplainWords e (without_dashes ws)
AreWordsOf (page p) ws = ArePageWords p (without_dashes ws)
AreWordsOf (replay a b files) ws = (without_dashes ws ≡ codes "replay" ∷ a ∷ b ∷ files) × (files ≢ [])
AreWordsOf (serve s) ws = AreServeWords s (without_dashes ws)
AreWordsOf (audit a) ws = AreAuditWords a (without_dashes ws)
AreWordsOf (rebuild fares ledger) ws = without_dashes ws ≡ codes "rebuild" ∷ fares ∷ ledger ∷ []
AreWordsOf (follow f) ws = AreFollowWords f (without_dashes ws)
AreWordsOf (log l) ws = AreLogWords l (without_dashes ws)
AreWordsOf _ ws = ⊤

-- what an option was given is the one value that it has, if it has one
under_listed : (rows : List Row) (k : Setting) (vs : List Text) → Under rows k vs → vs ≡ listed (first_given vs)
under_listed rows k [] h = refl
under_listed rows k (v ∷ []) h = refl
under_listed rows k (v ∷ w ∷ more) h = absurd h

under_flags : (rows : List Row) (k : Setting) → is_flag k ≡ true → (vs : List Text) → Under rows k vs → vs ≡ flags (is_given vs)
under_flags rows k flag [] h = refl
under_flags rows k flag (v ∷ []) h = ap (λ (w : Text). w ∷ []) (flag_given k flag v h.1)
under_flags rows k flag (v ∷ w ∷ more) h = absurd h

-- the one value of an option passed its reader
under_fits : (rows : List Row) (k : Setting) (vs : List Text) (v : Text) → vs ≡ v ∷ [] → Under rows k vs → reader_of k v ≡ true
under_fits rows k vs v is h = (subst (Under rows k) is h).1

after_run : (rest : List Text) → AreWordsOf (run_asked (all_said run_grammar rest)) (codes "run" ∷ rest)
after_run rest = go (all_said run_grammar rest) (Level run_shape [] (stand [] None idle 1 false) rest false []) (rows_from run_shape [] (stand [] None idle 1 false) rest)
    (says run_grammar (codes "run") run_rules run_built run_apart rest) (ends run_grammar (codes "run") run_rules run_built run_apart rest)
  where
    made : (parts : List Part) (had : List Row) → Says run_grammar (codes "run") run_rules run_built run_apart (all_of parts) (without_dashes rest)
        → ((k : Setting) → Under had k (values_of k parts)) → (vs : List Text) → plain_words parts ≡ vs
        → AreWordsOf (run_of vs (values_of journal_option parts) (values_of sync_option parts) (values_of ledger_option parts) (values_of early_option parts)) (codes "run" ∷ rest)
    made parts had s under [] is = tt
    made parts had s under (a ∷ []) is = tt
    made parts had s under (a ∷ b ∷ c ∷ more) is = tt
    made parts had s under (a ∷ b ∷ []) is = (
      parts,
      ap (λ (l : List Text). codes "run" ∷ l) s.0,
      (
        s.1,
        is,
        under_listed had journal_option (values_of journal_option parts) (under journal_option),
        under_flags had sync_option refl (values_of sync_option parts) (under sync_option),
        under_listed had ledger_option (values_of ledger_option parts) (under ledger_option),
        under_flags had early_option refl (values_of early_option parts) (under early_option),
      ),
    )

    go : (x : Said) (ks : Kinds) (rows : List Row) → Says run_grammar (codes "run") run_rules run_built run_apart x (without_dashes rest)
        → Comes run_grammar (codes "run") run_rules run_built run_apart x ks rows → AreWordsOf (run_asked x) (codes "run" ∷ rest)
    go (all_of parts) ks rows s h = made parts h.0 s h.1.2 (plain_words parts) refl
    go help_wanted ks rows s h = tt
    go not_taken ks rows s h = tt

after_check : (rest : List Text) → AreWordsOf (check_asked (all_said check_grammar rest)) (codes "check" ∷ rest)
after_check rest = go (all_said check_grammar rest) (Level check_shape [] (stand [] None idle 1 false) rest false []) (rows_from check_shape [] (stand [] None idle 1 false) rest)
    (says check_grammar (codes "check") check_rules check_built check_apart rest) (ends check_grammar (codes "check") check_rules check_built check_apart rest)
  where
    made : (parts : List Part) (had : List Row) → Says check_grammar (codes "check") check_rules check_built check_apart (all_of parts) (without_dashes rest)
        → ((k : Setting) → Under had k (values_of k parts)) → (vs : List Text) → plain_words parts ≡ vs
        → AreWordsOf (check_of vs (values_of lint_option parts) (values_of against_option parts) (values_of after_option parts)) (codes "check" ∷ rest)
    made parts had s under [] is = tt
    made parts had s under (a ∷ b ∷ more) is = tt
    made parts had s under (a ∷ []) is = (
      record {
        fares = a;
        lints = is_given (values_of lint_option parts);
        against = first_given (values_of against_option parts);
        after = first_given (values_of after_option parts);
      },
      parts,
      ap (λ (l : List Text). codes "check" ∷ l) s.0,
      (
        s.1,
        is,
        under_flags had lint_option refl (values_of lint_option parts) (under lint_option),
        under_listed had against_option (values_of against_option parts) (under against_option),
        under_listed had after_option (values_of after_option parts) (under after_option),
      ),
      refl,
    )

    go : (x : Said) (ks : Kinds) (rows : List Row) → Says check_grammar (codes "check") check_rules check_built check_apart x (without_dashes rest)
        → Comes check_grammar (codes "check") check_rules check_built check_apart x ks rows → AreWordsOf (check_asked x) (codes "check" ∷ rest)
    go (all_of parts) ks rows s h = made parts h.0 s h.1.2 (plain_words parts) refl
    go help_wanted ks rows s h = tt
    go not_taken ks rows s h = tt

after_statement : (rest : List Text) → AreWordsOf (statement_asked (all_said statement_grammar rest)) (codes "statement" ∷ rest)
after_statement rest = go (all_said statement_grammar rest) (Level statement_shape [] (stand [] None idle 1 false) rest false []) (rows_from statement_shape [] (stand [] None idle 1 false) rest)
    (says statement_grammar (codes "statement") statement_rules statement_built statement_apart rest)
    (ends statement_grammar (codes "statement") statement_rules statement_built statement_apart rest)
  where
    made : (parts : List Part) (had : List Row) → Says statement_grammar (codes "statement") statement_rules statement_built statement_apart (all_of parts) (without_dashes rest)
        → ((k : Setting) → Under had k (values_of k parts)) → (vs : List Text) → plain_words parts ≡ vs → Places statement_grammar.places vs had
        → AreWordsOf (statement_of vs (values_of journal_option parts) (values_of ledger_option parts) (values_of long_option parts)) (codes "statement" ∷ rest)
    made parts had s under [] is h = tt
    made parts had s under (a ∷ []) is h = tt
    made parts had s under (a ∷ b ∷ []) is h = tt
    made parts had s under (a ∷ b ∷ n ∷ []) is h = tt
    made parts had s under (a ∷ b ∷ n ∷ d ∷ e ∷ more) is h = tt
    made parts had s under (a ∷ b ∷ n ∷ d ∷ []) is h = (
      record {
        fares = a;
        zone = b;
        account = n;
        day = d;
        journal = first_given (values_of journal_option parts);
        ledger = first_given (values_of ledger_option parts);
        long = is_given (values_of long_option parts);
      },
      parts,
      ap (λ (l : List Text). codes "statement" ∷ l) s.0,
      (
        s.1,
        is,
        under_listed had journal_option (values_of journal_option parts) (under journal_option),
        under_listed had ledger_option (values_of ledger_option parts) (under ledger_option),
        under_flags had long_option refl (values_of long_option parts) (under long_option),
      ),
      h.2.2.1,
      refl,
    )

    go : (x : Said) (ks : Kinds) (rows : List Row) → Says statement_grammar (codes "statement") statement_rules statement_built statement_apart x (without_dashes rest)
        → Comes statement_grammar (codes "statement") statement_rules statement_built statement_apart x ks rows → AreWordsOf (statement_asked x) (codes "statement" ∷ rest)
    go (all_of parts) ks rows s h = made parts h.0 s h.1.2 (plain_words parts) refl h.1.1
    go help_wanted ks rows s h = tt
    go not_taken ks rows s h = tt

after_explain : (rest : List Text) → AreWordsOf (explain_asked (all_said explain_grammar rest)) (codes "explain" ∷ rest)
after_explain rest = go (all_said explain_grammar rest) (Level explain_shape [] (stand [] None idle 1 false) rest false []) (rows_from explain_shape [] (stand [] None idle 1 false) rest)
    (says explain_grammar (codes "explain") explain_rules explain_built explain_apart rest)
    (ends explain_grammar (codes "explain") explain_rules explain_built explain_apart rest)
  where
    made : (parts : List Part) (had : List Row) → Says explain_grammar (codes "explain") explain_rules explain_built explain_apart (all_of parts) (without_dashes rest)
        → ((k : Setting) → Under had k (values_of k parts)) → (vs js : List Text) → plain_words parts ≡ vs → values_of journal_option parts ≡ js
        → Places explain_grammar.places vs had → AreWordsOf (explain_of vs js (values_of ledger_option parts) (values_of week_option parts)) (codes "explain" ∷ rest)
    made parts had s under [] js is j h = tt
    made parts had s under (a ∷ []) js is j h = tt
    made parts had s under (a ∷ b ∷ []) js is j h = tt
    made parts had s under (a ∷ b ∷ n ∷ []) js is j h = tt
    made parts had s under (a ∷ b ∷ n ∷ d ∷ e ∷ more) js is j h = tt
    made parts had s under (a ∷ b ∷ n ∷ d ∷ []) [] is j h = tt
    made parts had s under (a ∷ b ∷ n ∷ d ∷ []) (w ∷ v ∷ more) is j h = tt
    made parts had s under (a ∷ b ∷ n ∷ d ∷ []) (w ∷ []) is j h = (
      record { fares = a; zone = b; account = n; day = d; journal = w; ledger = first_given (values_of ledger_option parts); week = is_given (values_of week_option parts) },
      parts,
      ap (λ (l : List Text). codes "explain" ∷ l) s.0,
      (
        s.1,
        is,
        j,
        under_listed had ledger_option (values_of ledger_option parts) (under ledger_option),
        under_flags had week_option refl (values_of week_option parts) (under week_option),
      ),
      h.2.2.1,
      refl,
    )

    go : (x : Said) (ks : Kinds) (rows : List Row) → Says explain_grammar (codes "explain") explain_rules explain_built explain_apart x (without_dashes rest)
        → Comes explain_grammar (codes "explain") explain_rules explain_built explain_apart x ks rows → AreWordsOf (explain_asked x) (codes "explain" ∷ rest)
    go (all_of parts) ks rows s h = made parts h.0 s h.1.2 (plain_words parts) (values_of journal_option parts) refl refl h.1.1
    go help_wanted ks rows s h = tt
    go not_taken ks rows s h = tt

after_page : (rest : List Text) → AreWordsOf (page_asked (all_said page_grammar rest)) (codes "page" ∷ rest)
after_page rest = go (all_said page_grammar rest) (Level page_shape [] (stand [] None idle 1 false) rest false []) (rows_from page_shape [] (stand [] None idle 1 false) rest)
    (says page_grammar (codes "page") page_rules page_built page_apart rest) (ends page_grammar (codes "page") page_rules page_built page_apart rest)
  where
    made : (parts : List Part) (had : List Row) → Says page_grammar (codes "page") page_rules page_built page_apart (all_of parts) (without_dashes rest)
        → ((k : Setting) → Under had k (values_of k parts)) → (vs js ps : List Text) → plain_words parts ≡ vs → values_of journal_option parts ≡ js → values_of port_option parts ≡ ps
        → AreWordsOf (page_of vs js ps (values_of control_option parts) (values_of greeting_option parts) (values_of staff_option parts) (values_of ledger_option parts)) (codes "page" ∷ rest)
    made parts had s under [] js ps is j p = tt
    made parts had s under (a ∷ []) js ps is j p = tt
    made parts had s under (a ∷ b ∷ c ∷ more) js ps is j p = tt
    made parts had s under (a ∷ b ∷ []) [] ps is j p = tt
    made parts had s under (a ∷ b ∷ []) (w ∷ v ∷ more) ps is j p = tt
    made parts had s under (a ∷ b ∷ []) (w ∷ []) [] is j p = tt
    made parts had s under (a ∷ b ∷ []) (w ∷ []) (n ∷ v ∷ more) is j p = tt
    made parts had s under (a ∷ b ∷ []) (w ∷ []) (n ∷ []) is j p = (
      record {
        fares = a;
        zone = b;
        journal = w;
        port = n;
        control = first_given (values_of control_option parts);
        greeting = first_given (values_of greeting_option parts);
        staff = first_given (values_of staff_option parts);
        ledger = first_given (values_of ledger_option parts);
      },
      parts,
      ap (λ (l : List Text). codes "page" ∷ l) s.0,
      (
        s.1,
        is,
        j,
        p,
        under_listed had control_option (values_of control_option parts) (under control_option),
        under_listed had greeting_option (values_of greeting_option parts) (under greeting_option),
        under_listed had staff_option (values_of staff_option parts) (under staff_option),
        under_listed had ledger_option (values_of ledger_option parts) (under ledger_option),
      ),
      (
        under_fits had port_option (values_of port_option parts) n p (under port_option),
        under_reads had control_option (values_of control_option parts) (under control_option),
      ),
      refl,
    )

    go : (x : Said) (ks : Kinds) (rows : List Row) → Says page_grammar (codes "page") page_rules page_built page_apart x (without_dashes rest)
        → Comes page_grammar (codes "page") page_rules page_built page_apart x ks rows → AreWordsOf (page_asked x) (codes "page" ∷ rest)
    go (all_of parts) ks rows s h = made parts h.0 s h.1.2 (plain_words parts) (values_of journal_option parts) (values_of port_option parts) refl refl refl
    go help_wanted ks rows s h = tt
    go not_taken ks rows s h = tt

not_none : (f : Text) (fs : List Text) → f ∷ fs ≢ []
not_none f fs = λ e. cc

after_replay : (rest : List Text) → AreWordsOf (replay_asked (many_given rest)) (codes "replay" ∷ rest)
after_replay rest = go (many_given rest) refl
  where
    go : (g : Given) → many_given rest ≡ g → AreWordsOf (replay_asked g) (codes "replay" ∷ rest)
    go (values []) e = tt
    go (values (a ∷ [])) e = tt
    go (values (a ∷ b ∷ [])) e = tt
    go (values (a ∷ b ∷ f ∷ fs)) e = (ap (λ (l : List Text). codes "replay" ∷ l) (many_are rest (a ∷ b ∷ f ∷ fs) e), not_none f fs)
    go help e = tt
    go refused e = tt

module _ (rest : List Text) (parts : List Part) (had : List Row) (s : Says serve_grammar (codes "serve") serve_rules serve_built serve_apart (all_of parts) (without_dashes rest))
    (under : (k : Setting) → Under had k (values_of k parts)) where
  serve_fits : (k : Setting) (v : Text) → values_of k parts ≡ v ∷ [] → reader_of k v ≡ true
  serve_fits k v is = under_fits had k (values_of k parts) v is (under k)

  serve_listed : (k : Setting) → values_of k parts ≡ listed (first_given (values_of k parts))
  serve_listed k = under_listed had k (values_of k parts) (under k)

  serve_reads : (k : Setting) → IfSome (first_given (values_of k parts)) (λ word. reader_of k word ≡ true)
  serve_reads k = under_reads had k (values_of k parts) (under k)

  serve_made : (vs ps ls ns : List Text) → plain_words parts ≡ vs → values_of port_option parts ≡ ps → values_of lanes_option parts ≡ ls → values_of shards_option parts ≡ ns
      → AreWordsOf (serve_of vs ps ls ns (values_of sessions_option parts) (values_of close_option parts) (values_of control_option parts) (values_of ahead_option parts) (values_of refused_option parts)
      (values_of greeting_option parts) (values_of journal_option parts) (values_of ledger_option parts) (values_of early_option parts)) (codes "serve" ∷ rest)
  serve_made [] ps ls ns h p l n = tt
  serve_made (a ∷ []) ps ls ns h p l n = tt
  serve_made (a ∷ b ∷ c ∷ more) ps ls ns h p l n = tt
  serve_made (a ∷ b ∷ []) [] ls ns h p l n = tt
  serve_made (a ∷ b ∷ []) (pw ∷ v ∷ more) ls ns h p l n = tt
  serve_made (a ∷ b ∷ []) (pw ∷ []) [] ns h p l n = tt
  serve_made (a ∷ b ∷ []) (pw ∷ []) (lw ∷ v ∷ more) ns h p l n = tt
  serve_made (a ∷ b ∷ []) (pw ∷ []) (lw ∷ []) [] h p l n = tt
  serve_made (a ∷ b ∷ []) (pw ∷ []) (lw ∷ []) (nw ∷ v ∷ more) h p l n = tt
  serve_made (a ∷ b ∷ []) (pw ∷ []) (lw ∷ []) (nw ∷ []) h p l n = (
    record {
      fares = a;
      zone = b;
      port = pw;
      lanes = lw;
      shards = nw;
      sessions = first_given (values_of sessions_option parts);
      close = first_given (values_of close_option parts);
      control = first_given (values_of control_option parts);
      ahead = first_given (values_of ahead_option parts);
      refused = first_given (values_of refused_option parts);
      greeting = first_given (values_of greeting_option parts);
      journal = first_given (values_of journal_option parts);
      ledger = first_given (values_of ledger_option parts);
      early = is_given (values_of early_option parts);
    },
    parts,
    ap (λ (l : List Text). codes "serve" ∷ l) s.0,
    (
      s.1,
      h,
      (p, l, n),
      (
        serve_listed sessions_option,
        serve_listed close_option,
        serve_listed control_option,
        serve_listed ahead_option,
        serve_listed refused_option,
        serve_listed greeting_option,
      ),
      serve_listed journal_option,
      serve_listed ledger_option,
      under_flags had early_option refl (values_of early_option parts) (under early_option),
    ),
    (
      serve_fits port_option pw p,
      serve_fits lanes_option lw l,
      serve_fits shards_option nw n,
      serve_reads sessions_option,
      serve_reads control_option,
      serve_reads ahead_option,
    ),
    refl,
  )

after_serve : (rest : List Text) → AreWordsOf (serve_asked (all_said serve_grammar rest)) (codes "serve" ∷ rest)
after_serve rest = go (all_said serve_grammar rest) (Level serve_shape [] (stand [] None idle 1 false) rest false []) (rows_from serve_shape [] (stand [] None idle 1 false) rest)
    (says serve_grammar (codes "serve") serve_rules serve_built serve_apart rest) (ends serve_grammar (codes "serve") serve_rules serve_built serve_apart rest)
  where
    go : (x : Said) (ks : Kinds) (rows : List Row) → Says serve_grammar (codes "serve") serve_rules serve_built serve_apart x (without_dashes rest)
        → Comes serve_grammar (codes "serve") serve_rules serve_built serve_apart x ks rows → AreWordsOf (serve_asked x) (codes "serve" ∷ rest)
    go (all_of parts) ks rows s h = serve_made rest parts h.0 s h.1.2 (plain_words parts) (values_of port_option parts) (values_of lanes_option parts) (values_of shards_option parts)
        refl refl refl refl
    go help_wanted ks rows s h = tt
    go not_taken ks rows s h = tt

after_audit : (rest : List Text) → AreWordsOf (audit_asked (all_said audit_grammar rest)) (codes "audit" ∷ rest)
after_audit rest = go (all_said audit_grammar rest) (Level audit_shape [] (stand [] None idle 1 false) rest false []) (rows_from audit_shape [] (stand [] None idle 1 false) rest)
    (says audit_grammar (codes "audit") audit_rules audit_built audit_apart rest) (ends audit_grammar (codes "audit") audit_rules audit_built audit_apart rest)
  where
    made : (parts : List Part) (had : List Row) → Says audit_grammar (codes "audit") audit_rules audit_built audit_apart (all_of parts) (without_dashes rest)
        → ((k : Setting) → Under had k (values_of k parts)) → (vs js : List Text) → plain_words parts ≡ vs → values_of journal_option parts ≡ js
        → AreWordsOf (audit_of vs js (values_of ledger_option parts)) (codes "audit" ∷ rest)
    made parts had s under [] js is j = tt
    made parts had s under (a ∷ []) js is j = tt
    made parts had s under (a ∷ b ∷ c ∷ more) js is j = tt
    made parts had s under (a ∷ b ∷ []) [] is j = tt
    made parts had s under (a ∷ b ∷ []) (w ∷ v ∷ more) is j = tt
    made parts had s under (a ∷ b ∷ []) (w ∷ []) is j = (
      parts,
      ap (λ (l : List Text). codes "audit" ∷ l) s.0,
      (s.1, is, j, under_listed had ledger_option (values_of ledger_option parts) (under ledger_option)),
    )

    go : (x : Said) (ks : Kinds) (rows : List Row) → Says audit_grammar (codes "audit") audit_rules audit_built audit_apart x (without_dashes rest)
        → Comes audit_grammar (codes "audit") audit_rules audit_built audit_apart x ks rows → AreWordsOf (audit_asked x) (codes "audit" ∷ rest)
    go (all_of parts) ks rows s h = made parts h.0 s h.1.2 (plain_words parts) (values_of journal_option parts) refl refl
    go help_wanted ks rows s h = tt
    go not_taken ks rows s h = tt

-- where there are no options, the words are the values
all_values : (parts : List Part) → AreParts rebuild_grammar parts → words_of_parts parts ≡ plain_words parts
all_values [] are = refl
all_values (say.plain w ∷ parts) are = ap (λ (l : List Text). w ∷ l) (all_values parts are.1)
all_values (say.apart k w ∷ parts) are =
    let none = are.0.0 in cc
all_values (say.joined k w ∷ parts) are =
    let none = are.0.0 in cc
all_values (say.alone k ∷ parts) are =
    let none = are.0.0 in cc

after_rebuild : (rest : List Text) → AreWordsOf (rebuild_asked (all_said rebuild_grammar rest)) (codes "rebuild" ∷ rest)
after_rebuild rest = go (all_said rebuild_grammar rest) (says rebuild_grammar (codes "rebuild") rebuild_rules rebuild_built rebuild_apart rest)
  where
    made : (vs : List Text) → without_dashes rest ≡ vs → AreWordsOf (rebuild_of vs) (codes "rebuild" ∷ rest)
    made [] is = tt
    made (a ∷ []) is = tt
    made (a ∷ b ∷ c ∷ more) is = tt
    made (a ∷ b ∷ []) is = ap (λ (l : List Text). codes "rebuild" ∷ l) is

    go : (x : Said) → Says rebuild_grammar (codes "rebuild") rebuild_rules rebuild_built rebuild_apart x (without_dashes rest)
        → AreWordsOf (rebuild_asked x) (codes "rebuild" ∷ rest)
    go (all_of parts) s = made (plain_words parts) (s.0 ∙ all_values parts s.1)
    go help_wanted s = tt
    go not_taken s = tt

after_follow : (rest : List Text) → AreWordsOf (follow_asked (all_said follow_grammar rest)) (codes "follow" ∷ rest)
after_follow rest = go (all_said follow_grammar rest) (Level follow_shape [] (stand [] None idle 1 false) rest false []) (rows_from follow_shape [] (stand [] None idle 1 false) rest)
    (says follow_grammar (codes "follow") follow_rules follow_built follow_apart rest) (ends follow_grammar (codes "follow") follow_rules follow_built follow_apart rest)
  where
    made : (parts : List Part) (had : List Row) → Says follow_grammar (codes "follow") follow_rules follow_built follow_apart (all_of parts) (without_dashes rest)
        → ((k : Setting) → Under had k (values_of k parts)) → (vs us ps ns ls : List Text) → plain_words parts ≡ vs → values_of log_option parts ≡ us → values_of partition_option parts ≡ ps
        → values_of of_option parts ≡ ns → values_of ledger_option parts ≡ ls → AreWordsOf (follow_of vs us ps ns ls) (codes "follow" ∷ rest)
    made parts had s under [] us ps ns ls is u p n l = tt
    made parts had s under (a ∷ []) us ps ns ls is u p n l = tt
    made parts had s under (a ∷ b ∷ c ∷ more) us ps ns ls is u p n l = tt
    made parts had s under (a ∷ b ∷ []) [] ps ns ls is u p n l = tt
    made parts had s under (a ∷ b ∷ []) (uw ∷ v ∷ more) ps ns ls is u p n l = tt
    made parts had s under (a ∷ b ∷ []) (uw ∷ []) [] ns ls is u p n l = tt
    made parts had s under (a ∷ b ∷ []) (uw ∷ []) (pw ∷ v ∷ more) ns ls is u p n l = tt
    made parts had s under (a ∷ b ∷ []) (uw ∷ []) (pw ∷ []) [] ls is u p n l = tt
    made parts had s under (a ∷ b ∷ []) (uw ∷ []) (pw ∷ []) (nw ∷ v ∷ more) ls is u p n l = tt
    made parts had s under (a ∷ b ∷ []) (uw ∷ []) (pw ∷ []) (nw ∷ []) [] is u p n l = tt
    made parts had s under (a ∷ b ∷ []) (uw ∷ []) (pw ∷ []) (nw ∷ []) (lw ∷ v ∷ more) is u p n l = tt
    made parts had s under (a ∷ b ∷ []) (uw ∷ []) (pw ∷ []) (nw ∷ []) (lw ∷ []) is u p n l = (
      record { fares = a; zone = b; log = uw; partition = pw; of = nw; ledger = lw },
      parts,
      ap (λ (l : List Text). codes "follow" ∷ l) s.0,
      (s.1, is, u, p, n, l),
      (
        under_fits had partition_option (values_of partition_option parts) pw p (under partition_option),
        under_fits had of_option (values_of of_option parts) nw n (under of_option),
      ),
      refl,
    )

    go : (x : Said) (ks : Kinds) (rows : List Row) → Says follow_grammar (codes "follow") follow_rules follow_built follow_apart x (without_dashes rest)
        → Comes follow_grammar (codes "follow") follow_rules follow_built follow_apart x ks rows → AreWordsOf (follow_asked x) (codes "follow" ∷ rest)
    go (all_of parts) ks rows s h = made parts h.0 s h.1.2 (plain_words parts) (values_of log_option parts) (values_of partition_option parts) (values_of of_option parts) (values_of ledger_option parts)
        refl refl refl refl refl
    go help_wanted ks rows s h = tt
    go not_taken ks rows s h = tt

after_log : (rest : List Text) → AreWordsOf (log_asked (all_said log_grammar rest)) (codes "log" ∷ rest)
after_log rest = go (all_said log_grammar rest) (Level log_shape [] (stand [] None idle 1 false) rest false []) (rows_from log_shape [] (stand [] None idle 1 false) rest)
    (says log_grammar (codes "log") log_rules log_built log_apart rest) (ends log_grammar (codes "log") log_rules log_built log_apart rest)
  where
    made : (parts : List Part) (had : List Row) → Says log_grammar (codes "log") log_rules log_built log_apart (all_of parts) (without_dashes rest)
        → ((k : Setting) → Under had k (values_of k parts)) → (vs us ns : List Text) → plain_words parts ≡ vs → values_of log_option parts ≡ us → values_of of_option parts ≡ ns
        → AreWordsOf (log_of vs us ns (values_of replicas_option parts)) (codes "log" ∷ rest)
    made parts had s under [] us ns is u n = tt
    made parts had s under (x ∷ []) us ns is u n = tt
    made parts had s under (x ∷ a ∷ []) us ns is u n = tt
    made parts had s under (x ∷ a ∷ b ∷ c ∷ more) us ns is u n = tt
    made parts had s under (x ∷ a ∷ b ∷ []) [] ns is u n = tt
    made parts had s under (x ∷ a ∷ b ∷ []) (uw ∷ v ∷ more) ns is u n = tt
    made parts had s under (x ∷ a ∷ b ∷ []) (uw ∷ []) [] is u n = tt
    made parts had s under (x ∷ a ∷ b ∷ []) (uw ∷ []) (nw ∷ v ∷ more) is u n = tt
    made parts had s under (x ∷ a ∷ b ∷ []) (uw ∷ []) (nw ∷ []) is u n = (
      record { action = x; fares = a; zone = b; log = uw; of = nw; replicas = first_given (values_of replicas_option parts) },
      parts,
      ap (λ (l : List Text). codes "log" ∷ l) s.0,
      (s.1, is, u, n, under_listed had replicas_option (values_of replicas_option parts) (under replicas_option)),
      (
        under_fits had of_option (values_of of_option parts) nw n (under of_option),
        under_reads had replicas_option (values_of replicas_option parts) (under replicas_option),
      ),
      refl,
    )

    go : (x : Said) (ks : Kinds) (rows : List Row) → Says log_grammar (codes "log") log_rules log_built log_apart x (without_dashes rest)
        → Comes log_grammar (codes "log") log_rules log_built log_apart x ks rows → AreWordsOf (log_asked x) (codes "log" ∷ rest)
    go (all_of parts) ks rows s h = made parts h.0 s h.1.2 (plain_words parts) (values_of log_option parts) (values_of of_option parts) refl refl refl
    go help_wanted ks rows s h = tt
    go not_taken ks rows s h = tt

after_other : (k : Word) (ws : List Text) → AreWordsOf (option_asked k) ws
after_other words.value ws = tt
after_other words.dashes ws = tt
after_other words.call_for_help ws = tt
after_other words.call_for_version ws = tt
after_other words.option ws = tt

-- what is not allowed is no job
allowed_too : (x : Asked) (ws : List Text) → AreWordsOf x ws → AreWordsOf (allowed x) ws
allowed_too (run r) ws h = go (has_journal r) refl
  where
    go : (fits : Bool) → has_journal r ≡ fits → AreWordsOf (allowed (run r)) ws
    go true is = rw is h
    go false is = rw is tt
allowed_too (check c) ws h = go (may_check c) refl
  where
    go : (fits : Bool) → may_check c ≡ fits → AreWordsOf (allowed (check c)) ws
    go true is = rw is h
    go false is = rw is tt
allowed_too (statement s) ws h = go (may_state s) refl
  where
    go : (fits : Bool) → may_state s ≡ fits → AreWordsOf (allowed (statement s)) ws
    go true is = rw is h
    go false is = rw is tt
allowed_too (explain e) ws h = go (is_some e.day) refl
  where
    go : (fits : Bool) → is_some e.day ≡ fits → AreWordsOf (allowed (explain e)) ws
    go true is = rw is h
    go false is = rw is tt
allowed_too (page p) ws h = go (may_show p) refl
  where
    go : (fits : Bool) → may_show p ≡ fits → AreWordsOf (allowed (page p)) ws
    go true is = rw is h
    go false is = rw is tt
allowed_too (replay a b files) ws h = h
allowed_too (serve s) ws h = go (is_whole s) refl
  where
    go : (fits : Bool) → is_whole s ≡ fits → AreWordsOf (allowed (serve s)) ws
    go true is = rw is h
    go false is = rw is tt
allowed_too (audit a) ws h = h
allowed_too (rebuild fares ledger) ws h = h
allowed_too (follow f) ws h = go (may_follow f) refl
  where
    go : (fits : Bool) → may_follow f ≡ fits → AreWordsOf (allowed (follow f)) ws
    go true is = rw is h
    go false is = rw is tt
allowed_too (log l) ws h = go (may_log l) refl
  where
    go : (fits : Bool) → may_log l ≡ fits → AreWordsOf (allowed (log l)) ws
    go true is = rw is h
    go false is = rw is tt
allowed_too words.help_asked ws h = tt
allowed_too words.help_named ws h = tt
allowed_too words.version_asked ws h = tt
allowed_too words.usage ws h = tt

said_in_order : (ws : List Text) → AreWordsOf (words_ask ws) (drop 1 ws)
said_in_order [] = tt
said_in_order (name ∷ []) = tt
said_in_order (name ∷ word ∷ rest) = by_program (λ (w : Text). AreWordsOf (program_asked w rest) (w ∷ rest)) word (after_run rest) (after_check rest) (after_statement rest) (after_explain rest) (after_page rest) (after_replay rest) (after_serve rest) (after_audit rest) (after_rebuild rest) (after_follow rest) (after_log rest) tt
    (λ none. rw (none.0, none.1, none.2, none.3, none.4, none.5, none.6, none.7, none.8, none.9, none.10, none.11) (after_other (word_kind word) (word ∷ rest)))

-- but for the first, and for a `--`, the words are those of the job
pub in_order : (ws : List Text) → AreWordsOf (asked ws) (drop 1 ws)
in_order ws = allowed_too (words_ask ws) (drop 1 ws) (said_in_order ws)

-- ---- the words that are taken

-- words with no hyphen before them are values
no_hyphen : (w : Text) → slice_index w 0 ≢ 45 → word_kind w ≡ words.value
no_hyphen [] ne = refl
no_hyphen (b ∷ rest) ne = elim (eqb_tells b 45) [
  | inl h ↦ absurd (ne h.1)
  | inr h ↦ rw h.0 refl
]

-- a number that is taken has no hyphen before it
number_has_none : (least most : ℕ) (w : Text) → is_unsigned_in least most w ≡ true → slice_index w 0 ≢ 45
number_has_none least most [] fits = λ e. cc
number_has_none least most (b ∷ rest) fits = λ e. absurd (not_both _ _ (rw e at fits))

once_listed : (k : Setting) (o : Option Text) → ((v : Text) → reader_of k v ≡ true) → Once k (listed o)
once_listed k None any = tt
once_listed k (Some v) any = any v

once_flags : (k : Setting) → reader_of k flag_value ≡ true → (given : Bool) → Once k (flags given)
once_flags k takes true = takes
once_flags k takes false = tt

first_listed : (o : Option Text) → first_given (listed o) ≡ o
first_listed None = refl
first_listed (Some v) = refl

given_flags : (given : Bool) → is_given (flags given) ≡ given
given_flags true = refl
given_flags false = refl

module _ (r : Run) (parts : List Part) (are : AreRunParts r parts) where
  none_of_run : (k : Setting) → (IsOption run_grammar k → ⊥) → Once k (values_of k parts)
  none_of_run k none = subst (Once k) (sym (no_values run_grammar k none parts are.0)) tt

  run_once : (k : Setting) → Once k (values_of k parts)
  run_once port_option = none_of_run port_option (λ e. cc)
  run_once lanes_option = none_of_run lanes_option (λ e. cc)
  run_once shards_option = none_of_run shards_option (λ e. cc)
  run_once sessions_option = none_of_run sessions_option (λ e. cc)
  run_once close_option = none_of_run close_option (λ e. cc)
  run_once control_option = none_of_run control_option (λ e. cc)
  run_once ahead_option = none_of_run ahead_option (λ e. cc)
  run_once refused_option = none_of_run refused_option (λ e. cc)
  run_once greeting_option = none_of_run greeting_option (λ e. cc)
  run_once journal_option = subst (Once journal_option) (sym are.2) (once_listed journal_option r.journal (λ v. refl))
  run_once sync_option = subst (Once sync_option) (sym are.3) (once_flags sync_option refl r.syncs)
  run_once ledger_option = subst (Once ledger_option) (sym are.4) (once_listed ledger_option r.ledger (λ v. refl))
  run_once early_option = subst (Once early_option) (sym are.5) (once_flags early_option refl r.early)
  run_once lint_option = none_of_run lint_option (λ e. cc)
  run_once against_option = none_of_run against_option (λ e. cc)
  run_once after_option = none_of_run after_option (λ e. cc)
  run_once week_option = none_of_run week_option (λ e. cc)
  run_once staff_option = none_of_run staff_option (λ e. cc)
  run_once long_option = none_of_run long_option (λ e. cc)
  run_once log_option = none_of_run log_option (λ e. cc)
  run_once partition_option = none_of_run partition_option (λ e. cc)
  run_once of_option = none_of_run of_option (λ e. cc)
  run_once replicas_option = none_of_run replicas_option (λ e. cc)

  run_taken : slice_index r.fares 0 ≢ 45 → slice_index r.zone 0 ≢ 45 → AreTaken run_grammar parts
  run_taken f z = record {
    are = are.0;
    fits = subst (Fits run_grammar.places) (sym are.1) (refl, (refl, tt));
    hyphens = subst HaveNoHyphens (sym are.1) (f, (z, tt));
    once = run_once;
  }

  run_is : run_asked (all_of parts) ≡ run r
  run_is = rw (are.1, are.2, are.3, are.4, are.5, first_listed r.journal, given_flags r.syncs, first_listed r.ledger, given_flags r.early) refl

pub asks_run : (ws : List Text) (name : Text) (r : Run) (parts : List Part) → ws ≡ name ∷ codes "run" ∷ words_of_parts parts → AreRunParts r parts → StandApart parts
    → slice_index r.fares 0 ≢ 45 → slice_index r.zone 0 ≢ 45 → has_journal r ≡ true → asked ws ≡ run r
asks_run ws name r parts is are may f z journal = ap asked is ∙ (ap (λ (x : Said). allowed (run_asked x)) (parts_taken run_grammar parts (run_taken r parts are f z) may)
    ∙ (ap allowed (run_is r parts are) ∙ (rw journal refl)))

-- the text of a day begins with no hyphen
day_has_none : BeginWithNoHyphen → (w : Text) → is_some (day_of_text w) ≡ true → slice_index w 0 ≢ 45
day_has_none no_hyphen w is = go (day_of_text w) refl
  where
    go : (o : Option ℕ) → day_of_text w ≡ o → slice_index w 0 ≢ 45
    go (Some day) named = no_hyphen w day named
    go None none =
        let no : false ≡ true = rw none at is in absurd (true≢false (sym no))

once_number : (k : Setting) (o : Option Text) → IfSome o (λ word. reader_of k word ≡ true) → Once k (listed o)
once_number k None fits = tt
once_number k (Some v) fits = fits

module _ (t : CheckTexts) (parts : List Part) (are : AreCheckParts t parts) where
  none_of_check : (k : Setting) → (IsOption check_grammar k → ⊥) → Once k (values_of k parts)
  none_of_check k none = subst (Once k) (sym (no_values check_grammar k none parts are.0)) tt

  check_once : (k : Setting) → Once k (values_of k parts)
  check_once port_option = none_of_check port_option (λ e. cc)
  check_once lanes_option = none_of_check lanes_option (λ e. cc)
  check_once shards_option = none_of_check shards_option (λ e. cc)
  check_once sessions_option = none_of_check sessions_option (λ e. cc)
  check_once close_option = none_of_check close_option (λ e. cc)
  check_once control_option = none_of_check control_option (λ e. cc)
  check_once ahead_option = none_of_check ahead_option (λ e. cc)
  check_once refused_option = none_of_check refused_option (λ e. cc)
  check_once greeting_option = none_of_check greeting_option (λ e. cc)
  check_once journal_option = none_of_check journal_option (λ e. cc)
  check_once sync_option = none_of_check sync_option (λ e. cc)
  check_once ledger_option = none_of_check ledger_option (λ e. cc)
  check_once early_option = none_of_check early_option (λ e. cc)
  check_once lint_option = subst (Once lint_option) (sym are.2) (once_flags lint_option refl t.lints)
  check_once against_option = subst (Once against_option) (sym are.3) (once_listed against_option t.against (λ v. refl))
  check_once after_option = subst (Once after_option) (sym are.4) (once_listed after_option t.after (λ v. refl))
  check_once week_option = none_of_check week_option (λ e. cc)
  check_once staff_option = none_of_check staff_option (λ e. cc)
  check_once long_option = none_of_check long_option (λ e. cc)
  check_once log_option = none_of_check log_option (λ e. cc)
  check_once partition_option = none_of_check partition_option (λ e. cc)
  check_once of_option = none_of_check of_option (λ e. cc)
  check_once replicas_option = none_of_check replicas_option (λ e. cc)

  check_taken : slice_index t.fares 0 ≢ 45 → AreTaken check_grammar parts
  check_taken f = record {
    are = are.0;
    fits = subst (Fits check_grammar.places) (sym are.1) (refl, tt);
    hyphens = subst HaveNoHyphens (sym are.1) (f, tt);
    once = check_once;
  }

  check_is : check_asked (all_of parts) ≡ check (check_of_texts t)
  check_is = rw (are.1, are.2, are.3, are.4, given_flags t.lints, first_listed t.against, first_listed t.after) refl

pub asks_check : (ws : List Text) (name : Text) (t : CheckTexts) (parts : List Part) → ws ≡ name ∷ codes "check" ∷ words_of_parts parts → AreCheckParts t parts → StandApart parts
    → slice_index t.fares 0 ≢ 45 → may_check (check_of_texts t) ≡ true → asked ws ≡ check (check_of_texts t)
asks_check ws name t parts is are may f fits = ap asked is ∙ (ap (λ (x : Said). allowed (check_asked x)) (parts_taken check_grammar parts (check_taken t parts are f) may)
    ∙ (ap allowed (check_is t parts are) ∙ (rw fits refl)))

module _ (t : StatementTexts) (parts : List Part) (are : AreStatementParts t parts) where
  none_of_statement : (k : Setting) → (IsOption statement_grammar k → ⊥) → Once k (values_of k parts)
  none_of_statement k none = subst (Once k) (sym (no_values statement_grammar k none parts are.0)) tt

  statement_once : (k : Setting) → Once k (values_of k parts)
  statement_once port_option = none_of_statement port_option (λ e. cc)
  statement_once lanes_option = none_of_statement lanes_option (λ e. cc)
  statement_once shards_option = none_of_statement shards_option (λ e. cc)
  statement_once sessions_option = none_of_statement sessions_option (λ e. cc)
  statement_once close_option = none_of_statement close_option (λ e. cc)
  statement_once control_option = none_of_statement control_option (λ e. cc)
  statement_once ahead_option = none_of_statement ahead_option (λ e. cc)
  statement_once refused_option = none_of_statement refused_option (λ e. cc)
  statement_once greeting_option = none_of_statement greeting_option (λ e. cc)
  statement_once journal_option = subst (Once journal_option) (sym are.2) (once_listed journal_option t.journal (λ v. refl))
  statement_once sync_option = none_of_statement sync_option (λ e. cc)
  statement_once ledger_option = subst (Once ledger_option) (sym are.3) (once_listed ledger_option t.ledger (λ v. refl))
  statement_once early_option = none_of_statement early_option (λ e. cc)
  statement_once lint_option = none_of_statement lint_option (λ e. cc)
  statement_once against_option = none_of_statement against_option (λ e. cc)
  statement_once after_option = none_of_statement after_option (λ e. cc)
  statement_once week_option = none_of_statement week_option (λ e. cc)
  statement_once staff_option = none_of_statement staff_option (λ e. cc)
  statement_once long_option = subst (Once long_option) (sym are.4) (once_flags long_option refl t.long)
  statement_once log_option = none_of_statement log_option (λ e. cc)
  statement_once partition_option = none_of_statement partition_option (λ e. cc)
  statement_once of_option = none_of_statement of_option (λ e. cc)
  statement_once replicas_option = none_of_statement replicas_option (λ e. cc)

  statement_taken : slice_index t.fares 0 ≢ 45 → slice_index t.zone 0 ≢ 45 → is_account t.account ≡ true → slice_index t.day 0 ≢ 45 → AreTaken statement_grammar parts
  statement_taken f z n d = record {
    are = are.0;
    fits = subst (Fits statement_grammar.places) (sym are.1) (refl, (refl, (n, (refl, tt))));
    hyphens = subst HaveNoHyphens (sym are.1) (f, (z, (number_has_none 1 4_294_967_295 t.account n, (d, tt))));
    once = statement_once;
  }

  statement_is : statement_asked (all_of parts) ≡ statement (statement_of_texts t)
  statement_is = rw (are.1, are.2, are.3, are.4, first_listed t.journal, first_listed t.ledger, given_flags t.long) refl

-- a day that is asked for is one
has_day : (t : StatementTexts) → may_state (statement_of_texts t) ≡ true → is_some (day_of_text t.day) ≡ true
has_day t states = (both (is_some (day_of_text t.day)) (has_lines (statement_of_texts t) && shows_postings (statement_of_texts t)) states).0

pub asks_statement : BeginWithNoHyphen → (ws : List Text) (name : Text) (t : StatementTexts) (parts : List Part) → ws ≡ name ∷ codes "statement" ∷ words_of_parts parts → AreStatementParts t parts → StandApart parts
    → slice_index t.fares 0 ≢ 45 → slice_index t.zone 0 ≢ 45 → is_account t.account ≡ true → may_state (statement_of_texts t) ≡ true → asked ws ≡ statement (statement_of_texts t)
asks_statement no_hyphen ws name t parts is are may f z n states = ap asked is
    ∙ (ap (λ (x : Said). allowed (statement_asked x)) (parts_taken statement_grammar parts (statement_taken t parts are f z n (day_has_none no_hyphen t.day (has_day t states))) may)
    ∙ (ap allowed (statement_is t parts are) ∙ (rw states refl)))

module _ (t : ExplainTexts) (parts : List Part) (are : AreExplainParts t parts) where
  none_of_explain : (k : Setting) → (IsOption explain_grammar k → ⊥) → Once k (values_of k parts)
  none_of_explain k none = subst (Once k) (sym (no_values explain_grammar k none parts are.0)) tt

  explain_once : (k : Setting) → Once k (values_of k parts)
  explain_once port_option = none_of_explain port_option (λ e. cc)
  explain_once lanes_option = none_of_explain lanes_option (λ e. cc)
  explain_once shards_option = none_of_explain shards_option (λ e. cc)
  explain_once sessions_option = none_of_explain sessions_option (λ e. cc)
  explain_once close_option = none_of_explain close_option (λ e. cc)
  explain_once control_option = none_of_explain control_option (λ e. cc)
  explain_once ahead_option = none_of_explain ahead_option (λ e. cc)
  explain_once refused_option = none_of_explain refused_option (λ e. cc)
  explain_once greeting_option = none_of_explain greeting_option (λ e. cc)
  explain_once journal_option = subst (Once journal_option) (sym are.2) refl
  explain_once sync_option = none_of_explain sync_option (λ e. cc)
  explain_once ledger_option = subst (Once ledger_option) (sym are.3) (once_listed ledger_option t.ledger (λ v. refl))
  explain_once early_option = none_of_explain early_option (λ e. cc)
  explain_once lint_option = none_of_explain lint_option (λ e. cc)
  explain_once against_option = none_of_explain against_option (λ e. cc)
  explain_once after_option = none_of_explain after_option (λ e. cc)
  explain_once week_option = subst (Once week_option) (sym are.4) (once_flags week_option refl t.week)
  explain_once staff_option = none_of_explain staff_option (λ e. cc)
  explain_once long_option = none_of_explain long_option (λ e. cc)
  explain_once log_option = none_of_explain log_option (λ e. cc)
  explain_once partition_option = none_of_explain partition_option (λ e. cc)
  explain_once of_option = none_of_explain of_option (λ e. cc)
  explain_once replicas_option = none_of_explain replicas_option (λ e. cc)

  explain_taken : slice_index t.fares 0 ≢ 45 → slice_index t.zone 0 ≢ 45 → is_account t.account ≡ true → slice_index t.day 0 ≢ 45 → AreTaken explain_grammar parts
  explain_taken f z n d = record {
    are = are.0;
    fits = subst (Fits explain_grammar.places) (sym are.1) (refl, (refl, (n, (refl, tt))));
    hyphens = subst HaveNoHyphens (sym are.1) (f, (z, (number_has_none 1 4_294_967_295 t.account n, (d, tt))));
    once = explain_once;
  }

  explain_is : explain_asked (all_of parts) ≡ explain (explain_of_texts t)
  explain_is = rw (are.1, are.2, are.3, are.4, first_listed t.ledger, given_flags t.week) refl

pub asks_explain : BeginWithNoHyphen → (ws : List Text) (name : Text) (t : ExplainTexts) (parts : List Part) → ws ≡ name ∷ codes "explain" ∷ words_of_parts parts → AreExplainParts t parts → StandApart parts
    → slice_index t.fares 0 ≢ 45 → slice_index t.zone 0 ≢ 45 → is_account t.account ≡ true → is_some (day_of_text t.day) ≡ true → asked ws ≡ explain (explain_of_texts t)
asks_explain no_hyphen ws name t parts is are may f z n d = ap asked is
    ∙ (ap (λ (x : Said). allowed (explain_asked x)) (parts_taken explain_grammar parts (explain_taken t parts are f z n (day_has_none no_hyphen t.day d)) may)
    ∙ (ap allowed (explain_is t parts are) ∙ (rw d refl)))

module _ (t : PageTexts) (parts : List Part) (are : ArePageParts t parts) (fits : ArePorts t) where
  none_of_page : (k : Setting) → (IsOption page_grammar k → ⊥) → Once k (values_of k parts)
  none_of_page k none = subst (Once k) (sym (no_values page_grammar k none parts are.0)) tt

  page_once : (k : Setting) → Once k (values_of k parts)
  page_once port_option = subst (Once port_option) (sym are.3) fits.0
  page_once lanes_option = none_of_page lanes_option (λ e. cc)
  page_once shards_option = none_of_page shards_option (λ e. cc)
  page_once sessions_option = none_of_page sessions_option (λ e. cc)
  page_once close_option = none_of_page close_option (λ e. cc)
  page_once control_option = subst (Once control_option) (sym are.4) (once_number control_option t.control fits.1)
  page_once ahead_option = none_of_page ahead_option (λ e. cc)
  page_once refused_option = none_of_page refused_option (λ e. cc)
  page_once greeting_option = subst (Once greeting_option) (sym are.5) (once_listed greeting_option t.greeting (λ v. refl))
  page_once journal_option = subst (Once journal_option) (sym are.2) refl
  page_once sync_option = none_of_page sync_option (λ e. cc)
  page_once ledger_option = subst (Once ledger_option) (sym are.7) (once_listed ledger_option t.ledger (λ v. refl))
  page_once early_option = none_of_page early_option (λ e. cc)
  page_once lint_option = none_of_page lint_option (λ e. cc)
  page_once against_option = none_of_page against_option (λ e. cc)
  page_once after_option = none_of_page after_option (λ e. cc)
  page_once week_option = none_of_page week_option (λ e. cc)
  page_once staff_option = subst (Once staff_option) (sym are.6) (once_listed staff_option t.staff (λ v. refl))
  page_once long_option = none_of_page long_option (λ e. cc)
  page_once log_option = none_of_page log_option (λ e. cc)
  page_once partition_option = none_of_page partition_option (λ e. cc)
  page_once of_option = none_of_page of_option (λ e. cc)
  page_once replicas_option = none_of_page replicas_option (λ e. cc)

  page_taken : slice_index t.fares 0 ≢ 45 → slice_index t.zone 0 ≢ 45 → AreTaken page_grammar parts
  page_taken f z = record {
    are = are.0;
    fits = subst (Fits page_grammar.places) (sym are.1) (refl, (refl, tt));
    hyphens = subst HaveNoHyphens (sym are.1) (f, (z, tt));
    once = page_once;
  }

  page_is : page_asked (all_of parts) ≡ page (page_of_texts t)
  page_is = rw (are.1, are.2, are.3, are.4, are.5, are.6, are.7, first_listed t.control, first_listed t.greeting, first_listed t.staff, first_listed t.ledger) refl

pub asks_page : (ws : List Text) (name : Text) (t : PageTexts) (parts : List Part) → ws ≡ name ∷ codes "page" ∷ words_of_parts parts → ArePageParts t parts → StandApart parts
    → slice_index t.fares 0 ≢ 45 → slice_index t.zone 0 ≢ 45 → ArePorts t → may_show (page_of_texts t) ≡ true → asked ws ≡ page (page_of_texts t)
asks_page ws name t parts is are may f z fits shows = ap asked is
    ∙ (ap (λ (x : Said). allowed (page_asked x)) (parts_taken page_grammar parts (page_taken t parts are fits f z) may)
    ∙ (ap allowed (page_is t parts are fits) ∙ (rw shows refl)))

many_values : (vs : List Text) → HaveNoHyphens vs → many_given vs ≡ values vs
many_values [] h = refl
many_values (v ∷ vs) h = rw (no_hyphen v h.0) (ap (with_value v) (many_values vs h.1))

pub asks_replay : (ws : List Text) (name fares zone file : Text) (files : List Text) → ws ≡ name ∷ codes "replay" ∷ fares ∷ zone ∷ file ∷ files
    → slice_index fares 0 ≢ 45 → slice_index zone 0 ≢ 45 → HaveNoHyphens (file ∷ files) → asked ws ≡ replay fares zone (file ∷ files)
asks_replay ws name fares zone file files is f z h = ap asked is
    ∙ ap (λ (g : Given). allowed (replay_asked g)) (many_values (fares ∷ zone ∷ file ∷ files) (f, (z, h)))

module _ (t : ServeTexts) (parts : List Part) (are : ArePartsOf t parts) (fits : AreInRange t) where
  none_of_serve : (k : Setting) → (IsOption serve_grammar k → ⊥) → Once k (values_of k parts)
  none_of_serve k none = subst (Once k) (sym (no_values serve_grammar k none parts are.0)) tt

  serve_once : (k : Setting) → Once k (values_of k parts)
  serve_once port_option = subst (Once port_option) (sym are.2.0) fits.0
  serve_once lanes_option = subst (Once lanes_option) (sym are.2.1) fits.1
  serve_once shards_option = subst (Once shards_option) (sym are.2.2) fits.2
  serve_once sessions_option = subst (Once sessions_option) (sym are.3.0) (once_number sessions_option t.sessions fits.3)
  serve_once close_option = subst (Once close_option) (sym are.3.1) (once_listed close_option t.close (λ v. refl))
  serve_once control_option = subst (Once control_option) (sym are.3.2) (once_number control_option t.control fits.4)
  serve_once ahead_option = subst (Once ahead_option) (sym are.3.3) (once_number ahead_option t.ahead fits.5)
  serve_once refused_option = subst (Once refused_option) (sym are.3.4) (once_listed refused_option t.refused (λ v. refl))
  serve_once greeting_option = subst (Once greeting_option) (sym are.3.5) (once_listed greeting_option t.greeting (λ v. refl))
  serve_once journal_option = subst (Once journal_option) (sym are.4) (once_listed journal_option t.journal (λ v. refl))
  serve_once sync_option = none_of_serve sync_option (λ e. cc)
  serve_once lint_option = none_of_serve lint_option (λ e. cc)
  serve_once against_option = none_of_serve against_option (λ e. cc)
  serve_once after_option = none_of_serve after_option (λ e. cc)
  serve_once week_option = none_of_serve week_option (λ e. cc)
  serve_once staff_option = none_of_serve staff_option (λ e. cc)
  serve_once long_option = none_of_serve long_option (λ e. cc)
  serve_once log_option = none_of_serve log_option (λ e. cc)
  serve_once partition_option = none_of_serve partition_option (λ e. cc)
  serve_once of_option = none_of_serve of_option (λ e. cc)
  serve_once replicas_option = none_of_serve replicas_option (λ e. cc)
  serve_once ledger_option = subst (Once ledger_option) (sym are.5) (once_listed ledger_option t.ledger (λ v. refl))
  serve_once early_option = subst (Once early_option) (sym are.6) (once_flags early_option refl t.early)

  serve_taken : slice_index t.fares 0 ≢ 45 → slice_index t.zone 0 ≢ 45 → AreTaken serve_grammar parts
  serve_taken f z = record {
    are = are.0;
    fits = subst (Fits serve_grammar.places) (sym are.1) (refl, (refl, tt));
    hyphens = subst HaveNoHyphens (sym are.1) (f, (z, tt));
    once = serve_once;
  }

  serve_is : serve_asked (all_of parts) ≡ serve (numbers_of t)
  serve_is = rw (
    are.1,
    are.2.0,
    are.2.1,
    are.2.2,
    are.3.0,
    are.3.1,
    are.3.2,
    are.3.3,
    are.3.4,
    are.3.5,
    are.4,
    are.5,
    are.6,
    first_listed t.sessions,
    first_listed t.close,
    first_listed t.control,
    first_listed t.ahead,
    first_listed t.refused,
    first_listed t.greeting,
    first_listed t.journal,
    first_listed t.ledger,
    given_flags t.early,
  ) refl

pub asks_serve : (ws : List Text) (name : Text) (t : ServeTexts) (parts : List Part) → ws ≡ name ∷ codes "serve" ∷ words_of_parts parts → ArePartsOf t parts → StandApart parts
    → slice_index t.fares 0 ≢ 45 → slice_index t.zone 0 ≢ 45 → AreInRange t → is_whole (numbers_of t) ≡ true → asked ws ≡ serve (numbers_of t)
asks_serve ws name t parts is are may f z fits whole = ap asked is ∙ (ap (λ (x : Said). allowed (serve_asked x)) (parts_taken serve_grammar parts (serve_taken t parts are fits f z) may)
    ∙ (ap allowed (serve_is t parts are fits) ∙ (rw whole refl)))

module _ (a : Audit) (parts : List Part) (are : AreAuditParts a parts) where
  none_of_audit : (k : Setting) → (IsOption audit_grammar k → ⊥) → Once k (values_of k parts)
  none_of_audit k none = subst (Once k) (sym (no_values audit_grammar k none parts are.0)) tt

  audit_once : (k : Setting) → Once k (values_of k parts)
  audit_once port_option = none_of_audit port_option (λ e. cc)
  audit_once lanes_option = none_of_audit lanes_option (λ e. cc)
  audit_once shards_option = none_of_audit shards_option (λ e. cc)
  audit_once sessions_option = none_of_audit sessions_option (λ e. cc)
  audit_once close_option = none_of_audit close_option (λ e. cc)
  audit_once control_option = none_of_audit control_option (λ e. cc)
  audit_once ahead_option = none_of_audit ahead_option (λ e. cc)
  audit_once refused_option = none_of_audit refused_option (λ e. cc)
  audit_once greeting_option = none_of_audit greeting_option (λ e. cc)
  audit_once journal_option = subst (Once journal_option) (sym are.2) refl
  audit_once sync_option = none_of_audit sync_option (λ e. cc)
  audit_once ledger_option = subst (Once ledger_option) (sym are.3) (once_listed ledger_option a.ledger (λ v. refl))
  audit_once early_option = none_of_audit early_option (λ e. cc)
  audit_once lint_option = none_of_audit lint_option (λ e. cc)
  audit_once against_option = none_of_audit against_option (λ e. cc)
  audit_once after_option = none_of_audit after_option (λ e. cc)
  audit_once week_option = none_of_audit week_option (λ e. cc)
  audit_once staff_option = none_of_audit staff_option (λ e. cc)
  audit_once long_option = none_of_audit long_option (λ e. cc)
  audit_once log_option = none_of_audit log_option (λ e. cc)
  audit_once partition_option = none_of_audit partition_option (λ e. cc)
  audit_once of_option = none_of_audit of_option (λ e. cc)
  audit_once replicas_option = none_of_audit replicas_option (λ e. cc)

  audit_taken : slice_index a.fares 0 ≢ 45 → slice_index a.zone 0 ≢ 45 → AreTaken audit_grammar parts
  audit_taken f z = record {
    are = are.0;
    fits = subst (Fits audit_grammar.places) (sym are.1) (refl, (refl, tt));
    hyphens = subst HaveNoHyphens (sym are.1) (f, (z, tt));
    once = audit_once;
  }

  audit_is : audit_asked (all_of parts) ≡ audit a
  audit_is = rw (are.1, are.2, are.3, first_listed a.ledger) refl

pub asks_audit : (ws : List Text) (name : Text) (a : Audit) (parts : List Part) → ws ≡ name ∷ codes "audit" ∷ words_of_parts parts → AreAuditParts a parts → StandApart parts
    → slice_index a.fares 0 ≢ 45 → slice_index a.zone 0 ≢ 45 → asked ws ≡ audit a
asks_audit ws name a parts is are may f z = ap asked is
    ∙ (ap (λ (x : Said). allowed (audit_asked x)) (parts_taken audit_grammar parts (audit_taken a parts are f z) may) ∙ ap allowed (audit_is a parts are))

pub asks_rebuild : (ws : List Text) (name fares ledger : Text) → ws ≡ name ∷ codes "rebuild" ∷ fares ∷ ledger ∷ []
    → slice_index fares 0 ≢ 45 → slice_index ledger 0 ≢ 45 → asked ws ≡ rebuild fares ledger
asks_rebuild ws name fares ledger is f l =
    let parts : List Part = say.plain fares ∷ say.plain ledger ∷ [] in
    let taken : AreTaken rebuild_grammar parts = record { are = (tt, (tt, tt)); fits = (refl, (refl, tt)); hyphens = (f, (l, tt)); once = λ k. tt } in
    ap asked is ∙ ap (λ (x : Said). allowed (rebuild_asked x)) (parts_taken rebuild_grammar parts taken tt)

module _ (t : FollowTexts) (parts : List Part) (are : AreFollowParts t parts) (fits : AreFollowNumbers t) where
  none_of_follow : (k : Setting) → (IsOption follow_grammar k → ⊥) → Once k (values_of k parts)
  none_of_follow k none = subst (Once k) (sym (no_values follow_grammar k none parts are.0)) tt

  follow_once : (k : Setting) → Once k (values_of k parts)
  follow_once port_option = none_of_follow port_option (λ e. cc)
  follow_once lanes_option = none_of_follow lanes_option (λ e. cc)
  follow_once shards_option = none_of_follow shards_option (λ e. cc)
  follow_once sessions_option = none_of_follow sessions_option (λ e. cc)
  follow_once close_option = none_of_follow close_option (λ e. cc)
  follow_once control_option = none_of_follow control_option (λ e. cc)
  follow_once ahead_option = none_of_follow ahead_option (λ e. cc)
  follow_once refused_option = none_of_follow refused_option (λ e. cc)
  follow_once greeting_option = none_of_follow greeting_option (λ e. cc)
  follow_once journal_option = none_of_follow journal_option (λ e. cc)
  follow_once sync_option = none_of_follow sync_option (λ e. cc)
  follow_once ledger_option = subst (Once ledger_option) (sym are.5) refl
  follow_once early_option = none_of_follow early_option (λ e. cc)
  follow_once lint_option = none_of_follow lint_option (λ e. cc)
  follow_once against_option = none_of_follow against_option (λ e. cc)
  follow_once after_option = none_of_follow after_option (λ e. cc)
  follow_once week_option = none_of_follow week_option (λ e. cc)
  follow_once staff_option = none_of_follow staff_option (λ e. cc)
  follow_once long_option = none_of_follow long_option (λ e. cc)
  follow_once log_option = subst (Once log_option) (sym are.2) refl
  follow_once partition_option = subst (Once partition_option) (sym are.3) fits.0
  follow_once of_option = subst (Once of_option) (sym are.4) fits.1
  follow_once replicas_option = none_of_follow replicas_option (λ e. cc)

  follow_taken : slice_index t.fares 0 ≢ 45 → slice_index t.zone 0 ≢ 45 → AreTaken follow_grammar parts
  follow_taken f z = record {
    are = are.0;
    fits = subst (Fits follow_grammar.places) (sym are.1) (refl, (refl, tt));
    hyphens = subst HaveNoHyphens (sym are.1) (f, (z, tt));
    once = follow_once;
  }

  follow_is : follow_asked (all_of parts) ≡ follow (follow_of_texts t)
  follow_is = rw (are.1, are.2, are.3, are.4, are.5) refl

pub asks_follow : (ws : List Text) (name : Text) (t : FollowTexts) (parts : List Part) → ws ≡ name ∷ codes "follow" ∷ words_of_parts parts → AreFollowParts t parts → StandApart parts
    → slice_index t.fares 0 ≢ 45 → slice_index t.zone 0 ≢ 45 → AreFollowNumbers t → may_follow (follow_of_texts t) ≡ true → asked ws ≡ follow (follow_of_texts t)
asks_follow ws name t parts is are may f z fits follows = ap asked is
    ∙ (ap (λ (x : Said). allowed (follow_asked x)) (parts_taken follow_grammar parts (follow_taken t parts are fits f z) may)
    ∙ (ap allowed (follow_is t parts are fits) ∙ (rw follows refl)))

make_has_none : slice_index (codes "make") 0 ≢ 45
make_has_none e =
    let byte : 109 ≡ 45 = e in
    absurd (omega (arith, byte))

check_has_none : slice_index (codes "check") 0 ≢ 45
check_has_none e =
    let byte : 99 ≡ 45 = e in
    absurd (omega (arith, byte))

-- a word that names an action has no hyphen before it
action_has_none : (word : Text) (replicas : Option ℕ) → is_some (action_of word replicas) ≡ true → slice_index word 0 ≢ 45
action_has_none word replicas is = go (bytes_eq word (codes "make")) refl (bytes_eq word (codes "check")) refl
  where
    go : (m : Bool) → bytes_eq word (codes "make") ≡ m → (c : Bool) → bytes_eq word (codes "check") ≡ c → slice_index word 0 ≢ 45
    go true m c k = subst (λ (w : Text). slice_index w 0 ≢ 45) (sym (same_bytes word (codes "make") m)) make_has_none
    go false m true k = subst (λ (w : Text). slice_index w 0 ≢ 45) (sym (same_bytes word (codes "check") k)) check_has_none
    go false m false k =
        let none : false ≡ true = rw (m, k) at is in absurd (true≢false (sym none))

module _ (t : LogTexts) (parts : List Part) (are : AreLogParts t parts) (fits : AreLogNumbers t) where
  none_of_log : (k : Setting) → (IsOption log_grammar k → ⊥) → Once k (values_of k parts)
  none_of_log k none = subst (Once k) (sym (no_values log_grammar k none parts are.0)) tt

  log_once : (k : Setting) → Once k (values_of k parts)
  log_once port_option = none_of_log port_option (λ e. cc)
  log_once lanes_option = none_of_log lanes_option (λ e. cc)
  log_once shards_option = none_of_log shards_option (λ e. cc)
  log_once sessions_option = none_of_log sessions_option (λ e. cc)
  log_once close_option = none_of_log close_option (λ e. cc)
  log_once control_option = none_of_log control_option (λ e. cc)
  log_once ahead_option = none_of_log ahead_option (λ e. cc)
  log_once refused_option = none_of_log refused_option (λ e. cc)
  log_once greeting_option = none_of_log greeting_option (λ e. cc)
  log_once journal_option = none_of_log journal_option (λ e. cc)
  log_once sync_option = none_of_log sync_option (λ e. cc)
  log_once ledger_option = none_of_log ledger_option (λ e. cc)
  log_once early_option = none_of_log early_option (λ e. cc)
  log_once lint_option = none_of_log lint_option (λ e. cc)
  log_once against_option = none_of_log against_option (λ e. cc)
  log_once after_option = none_of_log after_option (λ e. cc)
  log_once week_option = none_of_log week_option (λ e. cc)
  log_once staff_option = none_of_log staff_option (λ e. cc)
  log_once long_option = none_of_log long_option (λ e. cc)
  log_once log_option = subst (Once log_option) (sym are.2) refl
  log_once partition_option = none_of_log partition_option (λ e. cc)
  log_once of_option = subst (Once of_option) (sym are.3) fits.0
  log_once replicas_option = subst (Once replicas_option) (sym are.4) (once_number replicas_option t.replicas fits.1)

  log_taken : slice_index t.action 0 ≢ 45 → slice_index t.fares 0 ≢ 45 → slice_index t.zone 0 ≢ 45 → AreTaken log_grammar parts
  log_taken x f z = record {
    are = are.0;
    fits = subst (Fits log_grammar.places) (sym are.1) (refl, (refl, (refl, tt)));
    hyphens = subst HaveNoHyphens (sym are.1) (x, (f, (z, tt)));
    once = log_once;
  }

  log_is : log_asked (all_of parts) ≡ log (log_of_texts t)
  log_is = rw (are.1, are.2, are.3, are.4, first_listed t.replicas) refl

pub asks_log : (ws : List Text) (name : Text) (t : LogTexts) (parts : List Part) → ws ≡ name ∷ codes "log" ∷ words_of_parts parts → AreLogParts t parts → StandApart parts
    → slice_index t.fares 0 ≢ 45 → slice_index t.zone 0 ≢ 45 → AreLogNumbers t → may_log (log_of_texts t) ≡ true → asked ws ≡ log (log_of_texts t)
asks_log ws name t parts is are may f z fits allows =
    let acts = (both (is_some (action_of t.action (option_map number_of t.replicas))) (is_some (node_port t.log)) allows).0 in
    let x = action_has_none t.action (option_map number_of t.replicas) acts in
    ap asked is
    ∙ (ap (λ (s : Said). allowed (log_asked s)) (parts_taken log_grammar parts (log_taken t parts are fits x f z) may)
    ∙ (ap allowed (log_is t parts are fits) ∙ (rw allows refl)))
