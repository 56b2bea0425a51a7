-- What `clap` makes of the words of the process.
use Rattle.std.proofs.Common.{◌≡◌, ◌∙◌, ◌++◌, codes, true, false, refl, sym, ap, ap₂, subst, List, [], ◌∷◌, Option, Some, None, is_some, append-nil, append_assoc}
use Rattle.std.specs.Prelude.{fold}
use Rattle.clap.specs.Walk.{Names, Row, Text, Walk, idle, finished, settled, subcommand_met, walked}
use Rattle.clap.specs.Simple.{App, Shape, built, built_leaf, entered, help_shape, new_shape, subcommand_of}
use Rattle.clap.specs.Kinds.{Kinds, or_else}
use Rattle.clap.specs.Faults.{check_fault, defaults_fault, entered_fault, fault_of, flags_fault, settle_fault, turn_fault, walk_fault}
use Rattle.clap.specs.declared.error.kind.ErrorKind.TheVariants.{DisplayHelp, DisplayVersion, InvalidSubcommand, UnknownArgument}
use Rattle.pay_words.specs.Asked.{Asked, Word, words_ask, check_asked, many_given, word_kind, option_asked, program_asked, audit_asked, explain_asked, follow_asked, log_asked, page_asked, rebuild_asked, replay_asked, run_asked, serve_asked, statement_asked}
use Rattle.pay_words.specs.Asked as words
use Rattle.pay_words.specs.Options.{all_said}
use Rattle.pay_words.specs.Audit.{audit_grammar}
use Rattle.pay_words.specs.Check.{check_grammar}
use Rattle.pay_words.specs.Explain.{explain_grammar}
use Rattle.pay_words.specs.Follow.{follow_grammar}
use Rattle.pay_words.specs.Log.{log_grammar}
use Rattle.pay_words.specs.Page.{page_grammar}
use Rattle.pay_words.specs.Rebuild.{rebuild_grammar}
use Rattle.pay_words.specs.Run.{run_grammar}
use Rattle.pay_words.specs.Serve.{serve_grammar}
use Rattle.pay_words.specs.Statement.{statement_grammar}
use Rattle.pay_words.specs.CommandLine.{farebox_app}
use Rattle.pay_words.proofs.Programs.{by_program}
use Rattle.pay_words.proofs.WordKinds.{LongOptions, Reads, Refuses, ShortOptions, help_filled, reads, version_filled}
use Rattle.pay_words.proofs.WordLevels.{Level, place, refuses_first, turn_dashes, turn_refuses, turn_shows, turn_value, walked_dashes, rows_from}
use Rattle.pay_words.proofs.WordsOfProgram.{Comes}
use Rattle.pay_words.proofs.WordsAfterAudit.{audit_ends, audit_shape}
use Rattle.pay_words.proofs.WordsAfterCheck.{check_ends, check_shape}
use Rattle.pay_words.proofs.WordsAfterExplain.{explain_ends, explain_shape}
use Rattle.pay_words.proofs.WordsAfterFollow.{follow_ends, follow_shape}
use Rattle.pay_words.proofs.WordsAfterLog.{log_ends, log_shape}
use Rattle.pay_words.proofs.WordsAfterPage.{page_ends, page_shape}
use Rattle.pay_words.proofs.WordsAfterRebuild.{rebuild_ends, rebuild_shape}
use Rattle.pay_words.proofs.WordsAfterReplay.{replay_ends, replay_shape}
use Rattle.pay_words.proofs.WordsAfterRun.{run_ends, run_shape}
use Rattle.pay_words.proofs.WordsAfterServe.{serve_ends, serve_shape}
use Rattle.pay_words.proofs.WordsAfterStatement.{statement_ends, statement_shape}

abbrev top_shape : Shape
top_shape = record (new_shape (codes "farebox")) { rules = help_filled ∷ version_filled ∷ []; is_leaf = false; has_version = true; subcommand_required = true; is_built = true }

abbrev help_built : Shape
help_built = built_leaf (record help_shape { disable_help_subcommand = true })

abbrev farebox_built : App
farebox_built = record { top = top_shape; subs = run_shape ∷ check_shape ∷ statement_shape ∷ explain_shape ∷ page_shape ∷ replay_shape ∷ serve_shape ∷ audit_shape ∷ rebuild_shape ∷ follow_shape ∷ log_shape ∷ help_built ∷ [] }

built_farebox : built farebox_app ≡ farebox_built
built_farebox = refl

abbrev names : Names
names = (codes "run", []) ∷ (codes "check", []) ∷ (codes "statement", []) ∷ (codes "explain", []) ∷ (codes "page", []) ∷ (codes "replay", []) ∷ (codes "serve", []) ∷ (codes "audit", []) ∷ (codes "rebuild", []) ∷ (codes "follow", []) ∷ (codes "log", []) ∷ (codes "help", []) ∷ []

top_long : LongOptions top_shape.rules true
top_long name = refl

top_short : ShortOptions top_shape.rules true
top_short x = refl

-- what the words from a place on come to, by the kinds of the walk and its end
abbrev end_kinds : Kinds → Walk → Kinds
end_kinds ks end =
    let has = is_some (entered farebox_built end.stopped) in
    or_else ks
    (or_else (entered_fault farebox_built end.stopped) (or_else (settle_fault top_shape.rules false end.held)
    (or_else (defaults_fault (settled top_shape.rules end.held).rows top_shape.rules)
    (check_fault top_shape (finished top_shape.rules end.held) has))))

abbrev end_of : Walk → List Text → Walk
end_of w words = fold (walked top_shape.rules names) w words

abbrev whole : Walk → List Text → Kinds
whole w words = end_kinds (walk_fault top_shape names w words) (end_of w words)

abbrev start : Walk
start = place [] None 1 false

fault_is : (name : Text) (words : List Text) → fault_of farebox_app (name ∷ words) ≡ whole start words
fault_is name words = refl

subcommand_is : (name : Text) (words : List Text) → subcommand_of farebox_app (name ∷ words) ≡ entered farebox_built (end_of start words).stopped
subcommand_is name words = refl

-- ---- the words of each program

-- the walk has met the name of a program, and these words after it
abbrev met : Text → List Text → Walk
met program after = record { held = start.held; waiting = idle; position = 1; is_trailing = false; stopped = Some (program, after) }

met_words : (program : Text) (after rest : List Text) → end_of (met program after) rest ≡ met program (after ++ rest)
unfolding walked
met_words program after [] = ap (met program) (sym (append-nil after))
met_words program after (word ∷ rest) = met_words program (after ++ word ∷ []) rest ∙ ap (met program) (append_assoc after (word ∷ []) rest)

no_kinds : (program : Text) (after rest : List Text) → walk_fault top_shape names (met program after) rest ≡ []
unfolding walked walk_fault
no_kinds program after [] = refl
no_kinds program after (word ∷ rest) = no_kinds program (after ++ word ∷ []) rest

or_nothing : (a : Kinds) → or_else a [] ≡ a
or_nothing [] = refl
or_nothing (k ∷ ks) = refl

-- what the words after the name come to, and what all of them do
abbrev below : Shape → List Text → Kinds
below s rest = Level s [] (place [] None 1 false) rest false []

abbrev rows_below : Shape → List Text → List Row
rows_below s rest = rows_from s [] (place [] None 1 false) rest

met_run : (rest : List Text) → whole start (codes "run" ∷ rest) ≡ below run_shape rest
unfolding walked walk_fault defaults_fault
met_run rest = ap₂ end_kinds (no_kinds (codes "run") [] rest) (met_words (codes "run") [] rest) ∙ or_nothing (below run_shape rest)

run_entered : (rest : List Text) → entered farebox_built (end_of start (codes "run" ∷ rest)).stopped ≡ Some (codes "run", rows_below run_shape rest)
unfolding walked
run_entered rest = ap (λ (w : Walk). entered farebox_built w.stopped) (met_words (codes "run") [] rest)

met_check : (rest : List Text) → whole start (codes "check" ∷ rest) ≡ below check_shape rest
unfolding walked walk_fault defaults_fault
met_check rest = ap₂ end_kinds (no_kinds (codes "check") [] rest) (met_words (codes "check") [] rest) ∙ or_nothing (below check_shape rest)

check_entered : (rest : List Text) → entered farebox_built (end_of start (codes "check" ∷ rest)).stopped ≡ Some (codes "check", rows_below check_shape rest)
unfolding walked
check_entered rest = ap (λ (w : Walk). entered farebox_built w.stopped) (met_words (codes "check") [] rest)

met_statement : (rest : List Text) → whole start (codes "statement" ∷ rest) ≡ below statement_shape rest
unfolding walked walk_fault defaults_fault
met_statement rest = ap₂ end_kinds (no_kinds (codes "statement") [] rest) (met_words (codes "statement") [] rest) ∙ or_nothing (below statement_shape rest)

statement_entered : (rest : List Text) → entered farebox_built (end_of start (codes "statement" ∷ rest)).stopped ≡ Some (codes "statement", rows_below statement_shape rest)
unfolding walked
statement_entered rest = ap (λ (w : Walk). entered farebox_built w.stopped) (met_words (codes "statement") [] rest)

met_explain : (rest : List Text) → whole start (codes "explain" ∷ rest) ≡ below explain_shape rest
unfolding walked walk_fault defaults_fault
met_explain rest = ap₂ end_kinds (no_kinds (codes "explain") [] rest) (met_words (codes "explain") [] rest) ∙ or_nothing (below explain_shape rest)

explain_entered : (rest : List Text) → entered farebox_built (end_of start (codes "explain" ∷ rest)).stopped ≡ Some (codes "explain", rows_below explain_shape rest)
unfolding walked
explain_entered rest = ap (λ (w : Walk). entered farebox_built w.stopped) (met_words (codes "explain") [] rest)

met_page : (rest : List Text) → whole start (codes "page" ∷ rest) ≡ below page_shape rest
unfolding walked walk_fault defaults_fault
met_page rest = ap₂ end_kinds (no_kinds (codes "page") [] rest) (met_words (codes "page") [] rest) ∙ or_nothing (below page_shape rest)

page_entered : (rest : List Text) → entered farebox_built (end_of start (codes "page" ∷ rest)).stopped ≡ Some (codes "page", rows_below page_shape rest)
unfolding walked
page_entered rest = ap (λ (w : Walk). entered farebox_built w.stopped) (met_words (codes "page") [] rest)

met_replay : (rest : List Text) → whole start (codes "replay" ∷ rest) ≡ below replay_shape rest
unfolding walked walk_fault defaults_fault
met_replay rest = ap₂ end_kinds (no_kinds (codes "replay") [] rest) (met_words (codes "replay") [] rest) ∙ or_nothing (below replay_shape rest)

replay_entered : (rest : List Text) → entered farebox_built (end_of start (codes "replay" ∷ rest)).stopped ≡ Some (codes "replay", rows_below replay_shape rest)
unfolding walked
replay_entered rest = ap (λ (w : Walk). entered farebox_built w.stopped) (met_words (codes "replay") [] rest)

met_serve : (rest : List Text) → whole start (codes "serve" ∷ rest) ≡ below serve_shape rest
unfolding walked walk_fault defaults_fault
met_serve rest = ap₂ end_kinds (no_kinds (codes "serve") [] rest) (met_words (codes "serve") [] rest) ∙ or_nothing (below serve_shape rest)

serve_entered : (rest : List Text) → entered farebox_built (end_of start (codes "serve" ∷ rest)).stopped ≡ Some (codes "serve", rows_below serve_shape rest)
unfolding walked
serve_entered rest = ap (λ (w : Walk). entered farebox_built w.stopped) (met_words (codes "serve") [] rest)

met_audit : (rest : List Text) → whole start (codes "audit" ∷ rest) ≡ below audit_shape rest
unfolding walked walk_fault defaults_fault
met_audit rest = ap₂ end_kinds (no_kinds (codes "audit") [] rest) (met_words (codes "audit") [] rest) ∙ or_nothing (below audit_shape rest)

audit_entered : (rest : List Text) → entered farebox_built (end_of start (codes "audit" ∷ rest)).stopped ≡ Some (codes "audit", rows_below audit_shape rest)
unfolding walked
audit_entered rest = ap (λ (w : Walk). entered farebox_built w.stopped) (met_words (codes "audit") [] rest)

met_rebuild : (rest : List Text) → whole start (codes "rebuild" ∷ rest) ≡ below rebuild_shape rest
unfolding walked walk_fault defaults_fault
met_rebuild rest = ap₂ end_kinds (no_kinds (codes "rebuild") [] rest) (met_words (codes "rebuild") [] rest) ∙ or_nothing (below rebuild_shape rest)

rebuild_entered : (rest : List Text) → entered farebox_built (end_of start (codes "rebuild" ∷ rest)).stopped ≡ Some (codes "rebuild", rows_below rebuild_shape rest)
unfolding walked
rebuild_entered rest = ap (λ (w : Walk). entered farebox_built w.stopped) (met_words (codes "rebuild") [] rest)

met_follow : (rest : List Text) → whole start (codes "follow" ∷ rest) ≡ below follow_shape rest
unfolding walked walk_fault defaults_fault
met_follow rest = ap₂ end_kinds (no_kinds (codes "follow") [] rest) (met_words (codes "follow") [] rest) ∙ or_nothing (below follow_shape rest)

follow_entered : (rest : List Text) → entered farebox_built (end_of start (codes "follow" ∷ rest)).stopped ≡ Some (codes "follow", rows_below follow_shape rest)
unfolding walked
follow_entered rest = ap (λ (w : Walk). entered farebox_built w.stopped) (met_words (codes "follow") [] rest)

met_log : (rest : List Text) → whole start (codes "log" ∷ rest) ≡ below log_shape rest
unfolding walked walk_fault defaults_fault
met_log rest = ap₂ end_kinds (no_kinds (codes "log") [] rest) (met_words (codes "log") [] rest) ∙ or_nothing (below log_shape rest)

log_entered : (rest : List Text) → entered farebox_built (end_of start (codes "log" ∷ rest)).stopped ≡ Some (codes "log", rows_below log_shape rest)
unfolding walked
log_entered rest = ap (λ (w : Walk). entered farebox_built w.stopped) (met_words (codes "log") [] rest)

lifted : (x : Asked) (ks all : Kinds) (sub entry : Option (Text × List Row)) → all ≡ ks → entry ≡ sub → Comes x ks sub → Comes x all entry
lifted x ks all sub entry same is h =
    subst (λ (k : Kinds). Comes x k entry) (sym same) (subst (λ (e : Option (Text × List Row)). Comes x ks e) (sym is) h)

run_comes : (name : Text) (rest : List Text) → Comes (run_asked (all_said run_grammar rest)) (fault_of farebox_app (name ∷ codes "run" ∷ rest)) (subcommand_of farebox_app (name ∷ codes "run" ∷ rest))
run_comes name rest = lifted (run_asked (all_said run_grammar rest)) (below run_shape rest) _ (Some (codes "run", rows_below run_shape rest)) _
    (fault_is name (codes "run" ∷ rest) ∙ met_run rest) (subcommand_is name (codes "run" ∷ rest) ∙ run_entered rest) (run_ends rest)

check_comes : (name : Text) (rest : List Text) → Comes (check_asked (all_said check_grammar rest)) (fault_of farebox_app (name ∷ codes "check" ∷ rest)) (subcommand_of farebox_app (name ∷ codes "check" ∷ rest))
check_comes name rest = lifted (check_asked (all_said check_grammar rest)) (below check_shape rest) _ (Some (codes "check", rows_below check_shape rest)) _
    (fault_is name (codes "check" ∷ rest) ∙ met_check rest) (subcommand_is name (codes "check" ∷ rest) ∙ check_entered rest) (check_ends rest)

statement_comes : (name : Text) (rest : List Text)
    → Comes (statement_asked (all_said statement_grammar rest)) (fault_of farebox_app (name ∷ codes "statement" ∷ rest)) (subcommand_of farebox_app (name ∷ codes "statement" ∷ rest))
statement_comes name rest = lifted (statement_asked (all_said statement_grammar rest)) (below statement_shape rest) _ (Some (codes "statement", rows_below statement_shape rest)) _
    (fault_is name (codes "statement" ∷ rest) ∙ met_statement rest) (subcommand_is name (codes "statement" ∷ rest) ∙ statement_entered rest) (statement_ends rest)

explain_comes : (name : Text) (rest : List Text)
    → Comes (explain_asked (all_said explain_grammar rest)) (fault_of farebox_app (name ∷ codes "explain" ∷ rest)) (subcommand_of farebox_app (name ∷ codes "explain" ∷ rest))
explain_comes name rest = lifted (explain_asked (all_said explain_grammar rest)) (below explain_shape rest) _ (Some (codes "explain", rows_below explain_shape rest)) _
    (fault_is name (codes "explain" ∷ rest) ∙ met_explain rest) (subcommand_is name (codes "explain" ∷ rest) ∙ explain_entered rest) (explain_ends rest)

page_comes : (name : Text) (rest : List Text) → Comes (page_asked (all_said page_grammar rest)) (fault_of farebox_app (name ∷ codes "page" ∷ rest)) (subcommand_of farebox_app (name ∷ codes "page" ∷ rest))
page_comes name rest = lifted (page_asked (all_said page_grammar rest)) (below page_shape rest) _ (Some (codes "page", rows_below page_shape rest)) _
    (fault_is name (codes "page" ∷ rest) ∙ met_page rest) (subcommand_is name (codes "page" ∷ rest) ∙ page_entered rest) (page_ends rest)

replay_comes : (name : Text) (rest : List Text) → Comes (replay_asked (many_given rest)) (fault_of farebox_app (name ∷ codes "replay" ∷ rest)) (subcommand_of farebox_app (name ∷ codes "replay" ∷ rest))
replay_comes name rest = lifted (replay_asked (many_given rest)) (below replay_shape rest) _ (Some (codes "replay", rows_below replay_shape rest)) _
    (fault_is name (codes "replay" ∷ rest) ∙ met_replay rest) (subcommand_is name (codes "replay" ∷ rest) ∙ replay_entered rest) (replay_ends rest)

serve_comes : (name : Text) (rest : List Text) → Comes (serve_asked (all_said serve_grammar rest)) (fault_of farebox_app (name ∷ codes "serve" ∷ rest)) (subcommand_of farebox_app (name ∷ codes "serve" ∷ rest))
serve_comes name rest = lifted (serve_asked (all_said serve_grammar rest)) (below serve_shape rest) _ (Some (codes "serve", rows_below serve_shape rest)) _
    (fault_is name (codes "serve" ∷ rest) ∙ met_serve rest) (subcommand_is name (codes "serve" ∷ rest) ∙ serve_entered rest) (serve_ends rest)

audit_comes : (name : Text) (rest : List Text) → Comes (audit_asked (all_said audit_grammar rest)) (fault_of farebox_app (name ∷ codes "audit" ∷ rest)) (subcommand_of farebox_app (name ∷ codes "audit" ∷ rest))
audit_comes name rest = lifted (audit_asked (all_said audit_grammar rest)) (below audit_shape rest) _ (Some (codes "audit", rows_below audit_shape rest)) _
    (fault_is name (codes "audit" ∷ rest) ∙ met_audit rest) (subcommand_is name (codes "audit" ∷ rest) ∙ audit_entered rest) (audit_ends rest)

rebuild_comes : (name : Text) (rest : List Text) → Comes (rebuild_asked (all_said rebuild_grammar rest)) (fault_of farebox_app (name ∷ codes "rebuild" ∷ rest)) (subcommand_of farebox_app (name ∷ codes "rebuild" ∷ rest))
rebuild_comes name rest = lifted (rebuild_asked (all_said rebuild_grammar rest)) (below rebuild_shape rest) _ (Some (codes "rebuild", rows_below rebuild_shape rest)) _
    (fault_is name (codes "rebuild" ∷ rest) ∙ met_rebuild rest) (subcommand_is name (codes "rebuild" ∷ rest) ∙ rebuild_entered rest) (rebuild_ends rest)

follow_comes : (name : Text) (rest : List Text) → Comes (follow_asked (all_said follow_grammar rest)) (fault_of farebox_app (name ∷ codes "follow" ∷ rest)) (subcommand_of farebox_app (name ∷ codes "follow" ∷ rest))
follow_comes name rest = lifted (follow_asked (all_said follow_grammar rest)) (below follow_shape rest) _ (Some (codes "follow", rows_below follow_shape rest)) _
    (fault_is name (codes "follow" ∷ rest) ∙ met_follow rest) (subcommand_is name (codes "follow" ∷ rest) ∙ follow_entered rest) (follow_ends rest)

log_comes : (name : Text) (rest : List Text) → Comes (log_asked (all_said log_grammar rest)) (fault_of farebox_app (name ∷ codes "log" ∷ rest)) (subcommand_of farebox_app (name ∷ codes "log" ∷ rest))
log_comes name rest = lifted (log_asked (all_said log_grammar rest)) (below log_shape rest) _ (Some (codes "log", rows_below log_shape rest)) _
    (fault_is name (codes "log" ∷ rest) ∙ met_log rest) (subcommand_is name (codes "log" ∷ rest) ∙ log_entered rest) (log_ends rest)

-- ---- any other word

-- after `--` no program is named
nothing_named : (rest : List Text) → Refuses (end_kinds (walk_fault top_shape names (place [] None 1 true) rest) (end_of (place [] None 1 true) rest))
unfolding walked walk_fault defaults_fault
nothing_named [] = refl
nothing_named (word ∷ rest) = refl

module _ (name word : Text) (rest : List Text) (unmet : subcommand_met names idle word ≡ None) where
  abbrev TopReads : Word → Type 0
  TopReads k = Reads top_shape.rules true top_long top_short [] [] None k word

  abbrev after : Walk
  after = walked top_shape.rules names start word

  -- a word that fails makes the whole fail
  step_kinds : whole start (word ∷ rest) ≡ end_kinds (or_else (turn_fault top_shape names start word) (walk_fault top_shape names after rest)) (end_of after rest)
  unfolding walk_fault
  step_kinds = refl

  first_kinds : Kinds → Walk → Kinds
  first_kinds t v = end_kinds (or_else t (walk_fault top_shape names v rest)) (end_of v rest)

  option_comes : (k : Word) → TopReads k → Comes (option_asked k) (whole start (word ∷ rest)) (subcommand_of farebox_app (name ∷ word ∷ rest))
  unfolding first_kinds
  option_comes words.call_for_help r =
      step_kinds ∙ ap (λ (t : Kinds). first_kinds t after) (turn_shows top_shape.rules true top_long top_short [] top_shape names [] None 1 word unmet DisplayHelp r.0 r.1)
  option_comes words.call_for_version r =
      step_kinds ∙ ap (λ (t : Kinds). first_kinds t after) (turn_shows top_shape.rules true top_long top_short [] top_shape names [] None 1 word unmet DisplayVersion r.0 r.1)
  option_comes words.option r =
      let declined = turn_refuses top_shape.rules true top_long top_short [] top_shape names [] None 1 word unmet r in
      let t : Kinds = turn_fault top_shape names start word in
      subst Refuses (sym step_kinds) (refuses_first (or_else t (walk_fault top_shape names after rest)) _ (refuses_first t (walk_fault top_shape names after rest) declined))
  option_comes words.value r =
      let stray : turn_fault top_shape names start word ≡ UnknownArgument ∷ InvalidSubcommand ∷ [] =
      turn_value top_shape.rules true top_long top_short [] top_shape names [] None 1 word unmet r in
      subst Refuses (sym (step_kinds ∙ ap (λ (t : Kinds). first_kinds t after) stray)) refl
  option_comes words.dashes r =
      let passes = turn_dashes top_shape.rules true top_long top_short [] top_shape names [] None 1 word unmet r in
      let next = walked_dashes top_shape.rules true top_long top_short [] top_shape names [] None 1 word unmet r in
      subst Refuses (sym (step_kinds ∙ ap₂ first_kinds passes next)) (nothing_named rest)

pub comes : (ws : List Text) → Comes (words_ask ws) (fault_of farebox_app ws) (subcommand_of farebox_app ws)
unfolding walk_fault flags_fault walked defaults_fault
comes [] = refl
comes (name ∷ []) = refl
comes (name ∷ word ∷ rest) = by_program (λ (w : Text). Comes (program_asked w rest) (fault_of farebox_app (name ∷ w ∷ rest)) (subcommand_of farebox_app (name ∷ w ∷ rest)))
    word (run_comes name rest) (check_comes name rest) (statement_comes name rest) (explain_comes name rest) (page_comes name rest) (replay_comes name rest) (serve_comes name rest) (audit_comes name rest) (rebuild_comes name rest) (follow_comes name rest) (log_comes name rest) refl (λ none.
    let unmet : subcommand_met names idle word ≡ None = rw (none.0, none.1, none.2, none.3, none.4, none.5, none.6, none.7, none.8, none.9, none.10, none.11) refl in
    let asks : program_asked word rest ≡ option_asked (word_kind word) = rw (none.0, none.1, none.2, none.3, none.4, none.5, none.6, none.7, none.8, none.9, none.10, none.11) refl in
    subst (λ (x : Asked). Comes x (fault_of farebox_app (name ∷ word ∷ rest)) (subcommand_of farebox_app (name ∷ word ∷ rest))) (sym asks)
    (option_comes name word rest unmet (word_kind word) (reads top_shape.rules true top_long top_short [] [] None refl word)))
