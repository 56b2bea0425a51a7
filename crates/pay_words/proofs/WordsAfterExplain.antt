-- What `clap` makes of the words after `explain`.
use Rattle.std.proofs.Common.{◌≡◌, ◌∙◌, ◌+◌, codes, true, false, refl, sym, ap, subst, List, [], ◌∷◌, ◌++◌, Some, None}
use Rattle.std.specs.Prelude.{fold, min, option_map}
use Rattle.std.specs.Str.{bytes_eq}
use Rattle.clap.specs.Lexer.{usize_max}
use Rattle.clap.specs.Walk.{Row, Rule, Text, arg_by_index, idle, one_of, with_default}
use Rattle.clap.specs.Simple.{Shape}
use Rattle.clap.specs.Kinds.{Kinds}
use Rattle.clap.specs.Faults.{check_fault}
use Rattle.pay_words.specs.Asked.{explain_asked, explain_of}
use Rattle.pay_words.specs.CommandLine.{flag_text}
use Rattle.pay_words.specs.Explain.{explain_grammar}
use Rattle.pay_words.specs.Options.{Part, Place, Said, Setting, all_of, all_said, help_wanted, name_of, not_taken, place_after, plain_words, values_of}
use Rattle.pay_words.specs.Options.{fares_place, zone_place, account_place, day_place, journal_option, ledger_option, week_option}
use Rattle.pay_words.specs.Run.{first_given, is_given}
use Rattle.pay_words.proofs.OptionEnds.{IsFinal, flag_final, places_final, under_final, under_first}
use Rattle.pay_words.proofs.OptionRows.{no_default_faults, no_defaults}
use Rattle.pay_words.proofs.OptionRules.{IsBuilt, Needs, position_of, rule_at, rule_by_long, rules_for, setting_rule}
use Rattle.pay_words.proofs.WordLevels.{Level, rows_from}
use Rattle.pay_words.proofs.WordSteps.{stand}
use Rattle.pay_words.proofs.WordsAfterOptions as options
use Rattle.pay_words.proofs.WordsAfterOptions.{AreApart, Holds, Places, Under, ends}
use Rattle.pay_words.proofs.WordsOfProgram.{Comes, program_shape}

-- a journal is needed here
abbrev explain_needs : Needs
explain_needs journal_option = true
explain_needs _ = false

abbrev pub explain_rules : List Rule
explain_rules = rule_at fares_place ∷ rule_at zone_place ∷ rule_at account_place ∷ rule_at day_place ∷ rules_for explain_needs (journal_option ∷ ledger_option ∷ week_option ∷ [])

abbrev pub explain_shape : Shape
explain_shape = program_shape (codes "explain") explain_rules

pub explain_apart : AreApart explain_grammar.places
explain_apart = (((refl, refl), ((refl, refl), ((refl, refl), tt))), (((refl, refl), ((refl, refl), tt)), (((refl, refl), tt), (tt, tt))))

explain_index : (vs : List Text) → arg_by_index explain_rules (position_of vs) ≡ option_map rule_at (place_after explain_grammar.places vs)
explain_index [] = refl
explain_index (a ∷ []) = refl
explain_index (a ∷ b ∷ []) = refl
explain_index (a ∷ b ∷ c ∷ []) = refl
explain_index (a ∷ b ∷ c ∷ d ∷ more) = refl

explain_next : (vs : List Text) (p : Place) (word : Text) → place_after explain_grammar.places vs ≡ Some p → min (position_of vs + 1) usize_max ≡ position_of (vs ++ word ∷ [])
explain_next [] p word is = refl
explain_next (a ∷ []) p word is = refl
explain_next (a ∷ b ∷ []) p word is = refl
explain_next (a ∷ b ∷ c ∷ []) p word is = refl
explain_next (a ∷ b ∷ c ∷ d ∷ more) p word is = cc

pub explain_built : IsBuilt explain_grammar explain_rules
explain_built = record {
  needs = explain_needs;
  by_long = λ name. rule_by_long explain_needs explain_grammar.options name;
  by_short = λ x. refl;
  by_name = (refl, (refl, (refl, tt)));
  by_place = (refl, (refl, (refl, (refl, tt))));
  by_index = explain_index;
  next = explain_next;
  defaults = λ rows. no_default_faults explain_rules rows (refl, (refl, (refl, (refl, (refl, (refl, (refl, (refl, tt))))))));
}

-- ---- the end of the words

-- what is asked for by all that was given, and what `clap` says of it
finish : (vs js ls ws : List Text) (rows : List Row) → Places explain_grammar.places vs rows → Under rows journal_option js → Under rows ledger_option ls
    → one_of (codes "week") rows ≡ Some (flag_text (is_given ws)) → Comes (explain_of vs js ls ws) (check_fault explain_shape rows false) (Some (codes "explain", rows))
finish [] js ls ws rows h j l w = rw h.0 refl
finish (a ∷ []) js ls ws rows h j l w = rw (h.0, h.2.0) refl
finish (a ∷ b ∷ []) js ls ws rows h j l w = rw (h.0, h.2.0, h.2.2.0) refl
finish (a ∷ b ∷ n ∷ []) js ls ws rows h j l w = rw (h.0, h.2.0, h.2.2.0, h.2.2.2.0) refl
finish (a ∷ b ∷ n ∷ d ∷ e ∷ more) js ls ws rows h j l w = absurd h.2.2.2.2
finish (a ∷ b ∷ n ∷ d ∷ []) [] ls ws rows h j l w = rw (h.0, h.2.0, h.2.2.0, h.2.2.2.0, j) refl
finish (a ∷ b ∷ n ∷ d ∷ []) (x ∷ y ∷ more) ls ws rows h j l w = absurd j
finish (a ∷ b ∷ n ∷ d ∷ []) (x ∷ []) ls ws rows h j l w = (
  rw (h.0, h.2.0, h.2.2.0, h.2.2.2.0, j.0) refl,
  (
    record { fares = a; zone = b; account = n; day = d; journal = x; ledger = first_given ls; week = is_given ws },
    rows,
    refl,
    (rw h.0 refl, rw h.2.0 refl, rw h.2.2.0 refl, rw h.2.2.2.0 refl, rw j.0 refl, under_first rows ledger_option ls l, w),
    h.2.2.1,
    refl,
  ),
)

explain_ended : (rows : List Row) → fold with_default rows explain_rules ≡ with_default rows (setting_rule false week_option)
explain_ended rows =
    ap (λ (r : List Row). fold with_default r (rules_for explain_needs (week_option ∷ [])))
    (no_defaults (rule_at fares_place ∷ rule_at zone_place ∷ rule_at account_place ∷ rule_at day_place ∷ setting_rule true journal_option ∷ setting_rule false ledger_option ∷ []) rows
    (refl, (refl, (refl, (refl, (refl, (refl, tt)))))))
    ∙ no_defaults (rules_for explain_needs []) (with_default rows (setting_rule false week_option)) (refl, tt)

-- the rows with what the flag comes to
module _ (parts : List Part) (had : List Row) (h : Holds explain_grammar parts (plain_words parts) had) where
  abbrev all_rows : List Row
  all_rows = with_default had (setting_rule false week_option)

  week_final : IsFinal week_option had (values_of week_option parts) all_rows
  week_final = flag_final week_option refl had (values_of week_option parts) (h.2 week_option)

  explain_under : (k : Setting) → bytes_eq (name_of week_option) (name_of k) ≡ false → Under all_rows k (values_of k parts)
  explain_under k other = under_final week_option had all_rows (values_of week_option parts) week_final k other (values_of k parts) (h.2 k)

  finished_explain : Comes (explain_asked (all_of parts)) (check_fault explain_shape all_rows false) (Some (codes "explain", all_rows))
  finished_explain = finish (plain_words parts) (values_of journal_option parts) (values_of ledger_option parts) (values_of week_option parts) all_rows
      (places_final week_option had all_rows (values_of week_option parts) week_final explain_grammar.places (plain_words parts) h.1)
      (explain_under journal_option refl) (explain_under ledger_option refl)
      week_final.1

-- what the words of `explain` come to
pub explain_ends : (rest : List Text) → Comes (explain_asked (all_said explain_grammar rest)) (Level explain_shape [] (stand [] None idle 1 false) rest false [])
    (Some (codes "explain", rows_from explain_shape [] (stand [] None idle 1 false) rest))
explain_ends rest = go (all_said explain_grammar rest) (Level explain_shape [] (stand [] None idle 1 false) rest false []) (rows_from explain_shape [] (stand [] None idle 1 false) rest)
    (ends explain_grammar (codes "explain") explain_rules explain_built explain_apart rest)
  where
    go : (x : Said) (ks : Kinds) (rows : List Row) → options.Comes explain_grammar (codes "explain") explain_rules explain_built explain_apart x ks rows
        → Comes (explain_asked x) ks (Some (codes "explain", rows))
    go (all_of parts) ks rows h =
        let ended = explain_ended h.0 in
        subst (λ (k : Kinds). Comes (explain_asked (all_of parts)) k (Some (codes "explain", rows))) (sym (h.2 ∙ ap (λ (r : List Row). check_fault explain_shape r false) ended))
        (subst (λ (r : List Row). Comes (explain_asked (all_of parts)) (check_fault explain_shape (all_rows parts h.0 h.1) false) (Some (codes "explain", r))) (sym (h.3 ∙ ended))
        (finished_explain parts h.0 h.1))
    go help_wanted ks rows h = h
    go not_taken ks rows h = h
