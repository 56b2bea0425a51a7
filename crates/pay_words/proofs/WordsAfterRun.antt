-- What `clap` makes of the words after `run`.
use Rattle.std.proofs.Common.{◌≡◌, ◌∙◌, ◌+◌, codes, false, refl, sym, ap, subst, List, [], ◌∷◌, ◌++◌, Some, None}
use Rattle.std.specs.Prelude.{fold, min, option_map}
use Rattle.std.specs.Str.{bytes_eq}
use Rattle.clap.specs.Lexer.{usize_max}
use Rattle.clap.specs.Walk.{Row, Rule, Text, arg_by_index, idle, one_of, with_default}
use Rattle.clap.specs.Simple.{Shape}
use Rattle.clap.specs.Kinds.{Kinds}
use Rattle.clap.specs.Faults.{check_fault}
use Rattle.pay_words.specs.Asked.{run_asked, run_of}
use Rattle.pay_words.specs.CommandLine.{flag_text}
use Rattle.pay_words.specs.Options.{Part, Place, Said, Setting, all_of, all_said, help_wanted, name_of, not_taken, place_after, plain_words, values_of}
use Rattle.pay_words.specs.Options.{fares_place, zone_place, journal_option, sync_option, ledger_option, early_option}
use Rattle.pay_words.specs.Run.{is_given, run_grammar}
use Rattle.pay_words.proofs.OptionEnds.{IsFinal, flag_final, places_final, row_one, under_final, under_first}
use Rattle.pay_words.proofs.OptionRows.{no_default_faults, no_defaults}
use Rattle.pay_words.proofs.OptionRules.{IsBuilt, is_needed, position_of, rule_at, rule_by_long, rules_for, setting_rule}
use Rattle.pay_words.proofs.WordLevels.{Level, rows_from}
use Rattle.pay_words.proofs.WordSteps.{stand}
use Rattle.pay_words.proofs.WordsAfterOptions as options
use Rattle.pay_words.proofs.WordsAfterOptions.{AreApart, Holds, Places, Under, ends}
use Rattle.pay_words.proofs.WordsOfProgram.{Comes, program_shape}

abbrev pub run_rules : List Rule
run_rules = rule_at fares_place ∷ rule_at zone_place ∷ rules_for is_needed (journal_option ∷ sync_option ∷ ledger_option ∷ early_option ∷ [])

abbrev pub run_shape : Shape
run_shape = program_shape (codes "run") run_rules

pub run_apart : AreApart run_grammar.places
run_apart = (((refl, refl), tt), (tt, tt))

run_index : (vs : List Text) → arg_by_index run_rules (position_of vs) ≡ option_map rule_at (place_after run_grammar.places vs)
run_index [] = refl
run_index (a ∷ []) = refl
run_index (a ∷ b ∷ []) = refl
run_index (a ∷ b ∷ c ∷ []) = refl
run_index (a ∷ b ∷ c ∷ d ∷ more) = refl

run_next : (vs : List Text) (p : Place) (word : Text) → place_after run_grammar.places vs ≡ Some p → min (position_of vs + 1) usize_max ≡ position_of (vs ++ word ∷ [])
run_next [] p word is = refl
run_next (a ∷ []) p word is = refl
run_next (a ∷ b ∷ more) p word is = cc

pub run_built : IsBuilt run_grammar run_rules
run_built = record {
  needs = is_needed;
  by_long = λ name. rule_by_long is_needed run_grammar.options name;
  by_short = λ x. refl;
  by_name = (refl, (refl, (refl, (refl, tt))));
  by_place = (refl, (refl, tt));
  by_index = run_index;
  next = run_next;
  defaults = λ rows. no_default_faults run_rules rows (refl, (refl, (refl, (refl, (refl, (refl, (refl, tt)))))));
}

-- ---- the end of the words

run_ended : (rows : List Row) → fold with_default rows run_rules ≡ with_default (with_default rows (setting_rule false sync_option)) (setting_rule false early_option)
run_ended rows =
    ap (λ (r : List Row). fold with_default r (rules_for is_needed (sync_option ∷ ledger_option ∷ early_option ∷ []))) (no_defaults (rule_at fares_place ∷ rule_at zone_place ∷ setting_rule false journal_option ∷ []) rows (refl, (refl, (refl, tt))))
    ∙ (ap (λ (r : List Row). fold with_default r (rules_for is_needed (early_option ∷ []))) (no_defaults (setting_rule false ledger_option ∷ []) (with_default rows (setting_rule false sync_option)) (refl, tt))
    ∙ no_defaults (rules_for is_needed []) (with_default (with_default rows (setting_rule false sync_option)) (setting_rule false early_option)) (refl, tt))

-- what is asked for by all that was given, and what `clap` says of it
finish : (vs js ss ls es : List Text) (rows : List Row) → Places run_grammar.places vs rows → Under rows journal_option js → Under rows ledger_option ls
    → one_of (codes "sync") rows ≡ Some (flag_text (is_given ss)) → one_of (codes "early") rows ≡ Some (flag_text (is_given es))
    → Comes (run_of vs js ss ls es) (check_fault run_shape rows false) (Some (codes "run", rows))
finish [] js ss ls es rows h j l s e = rw h.0 refl
finish (a ∷ []) js ss ls es rows h j l s e = rw (h.0, h.2.0) refl
finish (a ∷ b ∷ c ∷ more) js ss ls es rows h j l s e = absurd h.2.2
finish (a ∷ b ∷ []) js ss ls es rows h j l s e = (
  rw (h.0, h.2.0) refl,
  (
    rows,
    refl,
    (rw h.0 refl, rw h.2.0 refl, under_first rows journal_option js j, s, under_first rows ledger_option ls l, e),
  ),
)

-- the rows with what the flags come to
module _ (parts : List Part) (had : List Row) (h : Holds run_grammar parts (plain_words parts) had) where
  abbrev synced : List Row
  synced = with_default had (setting_rule false sync_option)

  abbrev all_rows : List Row
  all_rows = with_default synced (setting_rule false early_option)

  sync_final : IsFinal sync_option had (values_of sync_option parts) synced
  sync_final = flag_final sync_option refl had (values_of sync_option parts) (h.2 sync_option)

  early_final : IsFinal early_option synced (values_of early_option parts) all_rows
  early_final = flag_final early_option refl synced (values_of early_option parts)
      (under_final sync_option had synced (values_of sync_option parts) sync_final early_option refl (values_of early_option parts) (h.2 early_option))

  run_places : Places run_grammar.places (plain_words parts) all_rows
  run_places = places_final early_option synced all_rows (values_of early_option parts) early_final run_grammar.places (plain_words parts)
      (places_final sync_option had synced (values_of sync_option parts) sync_final run_grammar.places (plain_words parts) h.1)

  run_under : (k : Setting) → bytes_eq (name_of sync_option) (name_of k) ≡ false → bytes_eq (name_of early_option) (name_of k) ≡ false → Under all_rows k (values_of k parts)
  run_under k no_sync no_early = under_final early_option synced all_rows (values_of early_option parts) early_final k no_early (values_of k parts)
      (under_final sync_option had synced (values_of sync_option parts) sync_final k no_sync (values_of k parts) (h.2 k))

  finished_run : Comes (run_asked (all_of parts)) (check_fault run_shape all_rows false) (Some (codes "run", all_rows))
  finished_run = finish (plain_words parts) (values_of journal_option parts) (values_of sync_option parts) (values_of ledger_option parts) (values_of early_option parts) all_rows
      run_places (run_under journal_option refl refl) (run_under ledger_option refl refl) (ap row_one (early_final.0 (codes "sync") refl) ∙ sync_final.1) early_final.1

-- what the words of `run` come to
pub run_ends : (rest : List Text) → Comes (run_asked (all_said run_grammar rest)) (Level run_shape [] (stand [] None idle 1 false) rest false [])
    (Some (codes "run", rows_from run_shape [] (stand [] None idle 1 false) rest))
run_ends rest = go (all_said run_grammar rest) (Level run_shape [] (stand [] None idle 1 false) rest false []) (rows_from run_shape [] (stand [] None idle 1 false) rest)
    (ends run_grammar (codes "run") run_rules run_built run_apart rest)
  where
    go : (x : Said) (ks : Kinds) (rows : List Row) → options.Comes run_grammar (codes "run") run_rules run_built run_apart x ks rows → Comes (run_asked x) ks (Some (codes "run", rows))
    go (all_of parts) ks rows h =
        let ended = run_ended h.0 in
        subst (λ (k : Kinds). Comes (run_asked (all_of parts)) k (Some (codes "run", rows))) (sym (h.2 ∙ ap (λ (r : List Row). check_fault run_shape r false) ended))
        (subst (λ (r : List Row). Comes (run_asked (all_of parts)) (check_fault run_shape (all_rows parts h.0 h.1) false) (Some (codes "run", r))) (sym (h.3 ∙ ended)) (finished_run parts h.0 h.1))
    go help_wanted ks rows h = h
    go not_taken ks rows h = h
