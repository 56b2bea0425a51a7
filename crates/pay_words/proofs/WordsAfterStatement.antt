-- What `clap` makes of the words after `statement`.
use Rattle.std.proofs.Common.{◌≡◌, ◌∙◌, ◌+◌, codes, false, refl, sym, ap, subst, List, [], ◌∷◌, ◌++◌, Some, None}
use Rattle.std.specs.Prelude.{fold, min, option_map}
use Rattle.std.specs.Str.{bytes_eq}
use Rattle.clap.specs.Lexer.{usize_max}
use Rattle.clap.specs.Walk.{Row, Rule, Text, arg_by_index, idle, one_of, with_default}
use Rattle.clap.specs.Simple.{Shape}
use Rattle.clap.specs.Kinds.{Kinds}
use Rattle.clap.specs.Faults.{check_fault}
use Rattle.pay_words.specs.Asked.{statement_asked, statement_of}
use Rattle.pay_words.specs.CommandLine.{flag_text}
use Rattle.pay_words.specs.Statement.{statement_grammar}
use Rattle.pay_words.specs.Options.{Part, Place, Said, Setting, all_of, all_said, help_wanted, name_of, not_taken, place_after, plain_words, values_of}
use Rattle.pay_words.specs.Options.{fares_place, zone_place, account_place, day_place, journal_option, ledger_option, long_option}
use Rattle.pay_words.specs.Run.{first_given, is_given}
use Rattle.pay_words.proofs.OptionEnds.{IsFinal, flag_final, places_final, under_final, under_first}
use Rattle.pay_words.proofs.OptionRows.{no_default_faults, no_defaults}
use Rattle.pay_words.proofs.OptionRules.{IsBuilt, is_needed, position_of, rule_at, rule_by_long, rules_for, setting_rule}
use Rattle.pay_words.proofs.WordLevels.{Level, rows_from}
use Rattle.pay_words.proofs.WordSteps.{stand}
use Rattle.pay_words.proofs.WordsAfterOptions as options
use Rattle.pay_words.proofs.WordsAfterOptions.{AreApart, Holds, Places, Under, ends}
use Rattle.pay_words.proofs.WordsOfProgram.{Comes, program_shape}

abbrev pub statement_rules : List Rule
statement_rules = rule_at fares_place ∷ rule_at zone_place ∷ rule_at account_place ∷ rule_at day_place ∷ rules_for is_needed (journal_option ∷ ledger_option ∷ long_option ∷ [])

abbrev pub statement_shape : Shape
statement_shape = program_shape (codes "statement") statement_rules

pub statement_apart : AreApart statement_grammar.places
statement_apart = (((refl, refl), ((refl, refl), ((refl, refl), tt))), (((refl, refl), ((refl, refl), tt)), (((refl, refl), tt), (tt, tt))))

statement_index : (vs : List Text) → arg_by_index statement_rules (position_of vs) ≡ option_map rule_at (place_after statement_grammar.places vs)
statement_index [] = refl
statement_index (a ∷ []) = refl
statement_index (a ∷ b ∷ []) = refl
statement_index (a ∷ b ∷ c ∷ []) = refl
statement_index (a ∷ b ∷ c ∷ d ∷ more) = refl

statement_next : (vs : List Text) (p : Place) (word : Text) → place_after statement_grammar.places vs ≡ Some p → min (position_of vs + 1) usize_max ≡ position_of (vs ++ word ∷ [])
statement_next [] p word is = refl
statement_next (a ∷ []) p word is = refl
statement_next (a ∷ b ∷ []) p word is = refl
statement_next (a ∷ b ∷ c ∷ []) p word is = refl
statement_next (a ∷ b ∷ c ∷ d ∷ more) p word is = cc

pub statement_built : IsBuilt statement_grammar statement_rules
statement_built = record {
  needs = is_needed;
  by_long = λ name. rule_by_long is_needed statement_grammar.options name;
  by_short = λ x. refl;
  by_name = (refl, (refl, (refl, tt)));
  by_place = (refl, (refl, (refl, (refl, tt))));
  by_index = statement_index;
  next = statement_next;
  defaults = λ rows. no_default_faults statement_rules rows (refl, (refl, (refl, (refl, (refl, (refl, (refl, (refl, tt))))))));
}

-- ---- the end of the words

-- what is asked for by all that was given, and what `clap` says of it
finish : (vs js ls ws : List Text) (rows : List Row) → Places statement_grammar.places vs rows → Under rows journal_option js → Under rows ledger_option ls
    → one_of (codes "long") rows ≡ Some (flag_text (is_given ws)) → Comes (statement_of vs js ls ws) (check_fault statement_shape rows false) (Some (codes "statement", rows))
finish [] js ls ws rows h j l w = rw h.0 refl
finish (a ∷ []) js ls ws rows h j l w = rw (h.0, h.2.0) refl
finish (a ∷ b ∷ []) js ls ws rows h j l w = rw (h.0, h.2.0, h.2.2.0) refl
finish (a ∷ b ∷ n ∷ []) js ls ws rows h j l w = rw (h.0, h.2.0, h.2.2.0, h.2.2.2.0) refl
finish (a ∷ b ∷ n ∷ d ∷ e ∷ more) js ls ws rows h j l w = absurd h.2.2.2.2
finish (a ∷ b ∷ n ∷ d ∷ []) js ls ws rows h j l w = (
  rw (h.0, h.2.0, h.2.2.0, h.2.2.2.0) refl,
  (
    record { fares = a; zone = b; account = n; day = d; journal = first_given js; ledger = first_given ls; long = is_given ws },
    rows,
    refl,
    (rw h.0 refl, rw h.2.0 refl, rw h.2.2.0 refl, rw h.2.2.2.0 refl, under_first rows journal_option js j, under_first rows ledger_option ls l, w),
    h.2.2.1,
    refl,
  ),
)

statement_ended : (rows : List Row) → fold with_default rows statement_rules ≡ with_default rows (setting_rule false long_option)
statement_ended rows =
    ap (λ (r : List Row). fold with_default r (rules_for is_needed (long_option ∷ [])))
    (no_defaults (rule_at fares_place ∷ rule_at zone_place ∷ rule_at account_place ∷ rule_at day_place ∷ setting_rule false journal_option ∷ setting_rule false ledger_option ∷ []) rows
    (refl, (refl, (refl, (refl, (refl, (refl, tt)))))))
    ∙ no_defaults (rules_for is_needed []) (with_default rows (setting_rule false long_option)) (refl, tt)

-- the rows with what the flag comes to
module _ (parts : List Part) (had : List Row) (h : Holds statement_grammar parts (plain_words parts) had) where
  abbrev all_rows : List Row
  all_rows = with_default had (setting_rule false long_option)

  long_final : IsFinal long_option had (values_of long_option parts) all_rows
  long_final = flag_final long_option refl had (values_of long_option parts) (h.2 long_option)

  statement_under : (k : Setting) → bytes_eq (name_of long_option) (name_of k) ≡ false → Under all_rows k (values_of k parts)
  statement_under k other = under_final long_option had all_rows (values_of long_option parts) long_final k other (values_of k parts) (h.2 k)

  finished_statement : Comes (statement_asked (all_of parts)) (check_fault statement_shape all_rows false) (Some (codes "statement", all_rows))
  finished_statement = finish (plain_words parts) (values_of journal_option parts) (values_of ledger_option parts) (values_of long_option parts) all_rows
      (places_final long_option had all_rows (values_of long_option parts) long_final statement_grammar.places (plain_words parts) h.1)
      (statement_under journal_option refl) (statement_under ledger_option refl)
      long_final.1

-- what the words of `statement` come to
pub statement_ends : (rest : List Text) → Comes (statement_asked (all_said statement_grammar rest)) (Level statement_shape [] (stand [] None idle 1 false) rest false [])
    (Some (codes "statement", rows_from statement_shape [] (stand [] None idle 1 false) rest))
statement_ends rest = go (all_said statement_grammar rest) (Level statement_shape [] (stand [] None idle 1 false) rest false []) (rows_from statement_shape [] (stand [] None idle 1 false) rest)
    (ends statement_grammar (codes "statement") statement_rules statement_built statement_apart rest)
  where
    go : (x : Said) (ks : Kinds) (rows : List Row) → options.Comes statement_grammar (codes "statement") statement_rules statement_built statement_apart x ks rows
        → Comes (statement_asked x) ks (Some (codes "statement", rows))
    go (all_of parts) ks rows h =
        let ended = statement_ended h.0 in
        subst (λ (k : Kinds). Comes (statement_asked (all_of parts)) k (Some (codes "statement", rows))) (sym (h.2 ∙ ap (λ (r : List Row). check_fault statement_shape r false) ended))
        (subst (λ (r : List Row). Comes (statement_asked (all_of parts)) (check_fault statement_shape (all_rows parts h.0 h.1) false) (Some (codes "statement", r))) (sym (h.3 ∙ ended))
        (finished_statement parts h.0 h.1))
    go help_wanted ks rows h = h
    go not_taken ks rows h = h
