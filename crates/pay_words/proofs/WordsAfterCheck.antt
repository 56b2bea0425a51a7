-- What `clap` makes of the words after `check`.
use Rattle.std.proofs.Common.{◌≡◌, ◌∙◌, ◌+◌, codes, false, refl, sym, ap, subst, List, [], ◌∷◌, ◌++◌, Some, None}
use Rattle.std.specs.Prelude.{fold, min, option_map}
use Rattle.clap.specs.Lexer.{usize_max}
use Rattle.clap.specs.Walk.{Row, Rule, Text, arg_by_index, idle, with_default}
use Rattle.clap.specs.Simple.{Shape}
use Rattle.clap.specs.Kinds.{Kinds}
use Rattle.clap.specs.Faults.{check_fault}
use Rattle.pay_words.specs.Asked.{check_asked, check_of}
use Rattle.pay_words.specs.Check.{check_grammar}
use Rattle.pay_words.specs.Options.{Place, Said, all_of, all_said, help_wanted, not_taken, place_after, plain_words, values_of}
use Rattle.pay_words.specs.Options.{fares_place, lint_option, against_option, after_option}
use Rattle.pay_words.specs.Run.{first_given, is_given}
use Rattle.pay_words.proofs.OptionEnds.{IsFinal, flag_final, row_first, under_first}
use Rattle.pay_words.proofs.OptionRows.{no_default_faults, no_defaults}
use Rattle.pay_words.proofs.OptionRules.{IsBuilt, is_needed, position_of, rule_at, rule_by_long, rules_for, setting_rule}
use Rattle.pay_words.proofs.WordLevels.{Level, rows_from}
use Rattle.pay_words.proofs.WordSteps.{stand}
use Rattle.pay_words.proofs.WordsAfterOptions as options
use Rattle.pay_words.proofs.WordsAfterOptions.{AreApart, Places, Under, ends}
use Rattle.pay_words.proofs.WordsOfProgram.{Comes, program_shape}

abbrev pub check_rules : List Rule
check_rules = rule_at fares_place ∷ rules_for is_needed (lint_option ∷ against_option ∷ after_option ∷ [])

abbrev pub check_shape : Shape
check_shape = program_shape (codes "check") check_rules

pub check_apart : AreApart check_grammar.places
check_apart = (tt, tt)

check_index : (vs : List Text) → arg_by_index check_rules (position_of vs) ≡ option_map rule_at (place_after check_grammar.places vs)
check_index [] = refl
check_index (a ∷ []) = refl
check_index (a ∷ b ∷ []) = refl
check_index (a ∷ b ∷ c ∷ []) = refl
check_index (a ∷ b ∷ c ∷ d ∷ more) = refl

check_next : (vs : List Text) (p : Place) (word : Text) → place_after check_grammar.places vs ≡ Some p → min (position_of vs + 1) usize_max ≡ position_of (vs ++ word ∷ [])
check_next [] p word is = refl
check_next (a ∷ more) p word is = cc

pub check_built : IsBuilt check_grammar check_rules
check_built = record {
  needs = is_needed;
  by_long = λ name. rule_by_long is_needed check_grammar.options name;
  by_short = λ x. refl;
  by_name = (refl, (refl, (refl, tt)));
  by_place = (refl, tt);
  by_index = check_index;
  next = check_next;
  defaults = λ rows. no_default_faults check_rules rows (refl, (refl, (refl, (refl, (refl, tt)))));
}

-- ---- the end of the words

check_ended : (rows : List Row) → fold with_default rows check_rules ≡ with_default rows (setting_rule false lint_option)
check_ended rows =
    ap (λ (r : List Row). fold with_default r (rules_for is_needed (lint_option ∷ against_option ∷ after_option ∷ []))) (no_defaults (rule_at fares_place ∷ []) rows (refl, tt))
    ∙ no_defaults (rules_for is_needed (against_option ∷ after_option ∷ [])) (with_default rows (setting_rule false lint_option)) (refl, (refl, (refl, tt)))

-- what is asked for by all that was given, and what `clap` says of it
finish : (vs ls gs ds : List Text) (had rows : List Row) → Places check_grammar.places vs had → Under had against_option gs → Under had after_option ds
    → IsFinal lint_option had ls rows → Comes (check_of vs ls gs ds) (check_fault check_shape rows false) (Some (codes "check", rows))
finish [] ls gs ds had rows h g d f =
    let fares = f.0 (codes "FARES") refl ∙ h.0 in rw fares refl
finish (a ∷ b ∷ more) ls gs ds had rows h g d f = absurd h.2
finish (a ∷ []) ls gs ds had rows h g d f =
    let fares = f.0 (codes "FARES") refl ∙ h.0 in (
      rw fares refl,
      (
        record { fares = a; lints = is_given ls; against = first_given gs; after = first_given ds },
        rows,
        refl,
        (
          rw fares refl,
          f.1,
          ap row_first (f.0 (codes "against") refl) ∙ under_first had against_option gs g,
          ap row_first (f.0 (codes "after") refl) ∙ under_first had after_option ds d,
        ),
        refl,
      ),
    )

final : (had : List Row) (ls : List Text) → Under had lint_option ls → IsFinal lint_option had ls (fold with_default had check_rules)
final had ls h = subst (IsFinal lint_option had ls) (sym (check_ended had)) (flag_final lint_option refl had ls h)

-- what the words of `check` come to
pub check_ends : (rest : List Text) → Comes (check_asked (all_said check_grammar rest)) (Level check_shape [] (stand [] None idle 1 false) rest false [])
    (Some (codes "check", rows_from check_shape [] (stand [] None idle 1 false) rest))
check_ends rest = go (all_said check_grammar rest) (Level check_shape [] (stand [] None idle 1 false) rest false []) (rows_from check_shape [] (stand [] None idle 1 false) rest)
    (ends check_grammar (codes "check") check_rules check_built check_apart rest)
  where
    go : (x : Said) (ks : Kinds) (rows : List Row) → options.Comes check_grammar (codes "check") check_rules check_built check_apart x ks rows → Comes (check_asked x) ks (Some (codes "check", rows))
    go (all_of parts) ks rows h =
        subst (λ (k : Kinds). Comes (check_asked (all_of parts)) k (Some (codes "check", rows))) (sym h.2)
        (subst (λ (r : List Row). Comes (check_asked (all_of parts)) (check_fault check_shape (fold with_default h.0 check_rules) false) (Some (codes "check", r))) (sym h.3)
        (finish (plain_words parts) (values_of lint_option parts) (values_of against_option parts) (values_of after_option parts) h.0 (fold with_default h.0 check_rules)
        h.1.1 (h.1.2 against_option) (h.1.2 after_option) (final h.0 (values_of lint_option parts) (h.1.2 lint_option))))
    go help_wanted ks rows h = h
    go not_taken ks rows h = h
