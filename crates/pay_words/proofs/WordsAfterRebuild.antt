-- What `clap` makes of the words after `rebuild`.
use Rattle.std.proofs.Common.{◌≡◌, ◌∙◌, ◌+◌, codes, false, refl, sym, ap, subst, List, [], ◌∷◌, ◌++◌, Some, None}
use Rattle.std.specs.Prelude.{fold, min, option_map}
use Rattle.clap.specs.Lexer.{usize_max}
use Rattle.clap.specs.Walk.{Row, Rule, Text, arg_by_index, idle, with_default}
use Rattle.clap.specs.Simple.{Shape}
use Rattle.clap.specs.Kinds.{Kinds}
use Rattle.clap.specs.Faults.{check_fault}
use Rattle.pay_words.specs.Asked.{rebuild_asked, rebuild_of}
use Rattle.pay_words.specs.Options.{Place, Said, all_of, all_said, help_wanted, not_taken, place_after, plain_words}
use Rattle.pay_words.specs.Options.{fares_place, ledger_place}
use Rattle.pay_words.specs.Rebuild.{rebuild_grammar}
use Rattle.pay_words.proofs.OptionRows.{no_default_faults, no_defaults}
use Rattle.pay_words.proofs.OptionRules.{IsBuilt, is_needed, position_of, rule_at, rule_by_long, rules_for}
use Rattle.pay_words.proofs.WordLevels.{Level, rows_from}
use Rattle.pay_words.proofs.WordSteps.{stand}
use Rattle.pay_words.proofs.WordsAfterOptions as options
use Rattle.pay_words.proofs.WordsAfterOptions.{AreApart, Places, ends}
use Rattle.pay_words.proofs.WordsOfProgram.{Comes, program_shape}

abbrev pub rebuild_rules : List Rule
rebuild_rules = rule_at fares_place ∷ rule_at ledger_place ∷ rules_for is_needed []

abbrev pub rebuild_shape : Shape
rebuild_shape = program_shape (codes "rebuild") rebuild_rules

pub rebuild_apart : AreApart rebuild_grammar.places
rebuild_apart = (((refl, refl), tt), (tt, tt))

rebuild_index : (vs : List Text) → arg_by_index rebuild_rules (position_of vs) ≡ option_map rule_at (place_after rebuild_grammar.places vs)
rebuild_index [] = refl
rebuild_index (a ∷ []) = refl
rebuild_index (a ∷ b ∷ []) = refl
rebuild_index (a ∷ b ∷ c ∷ []) = refl
rebuild_index (a ∷ b ∷ c ∷ d ∷ more) = refl

rebuild_next : (vs : List Text) (p : Place) (word : Text) → place_after rebuild_grammar.places vs ≡ Some p → min (position_of vs + 1) usize_max ≡ position_of (vs ++ word ∷ [])
rebuild_next [] p word is = refl
rebuild_next (a ∷ []) p word is = refl
rebuild_next (a ∷ b ∷ more) p word is = cc

pub rebuild_built : IsBuilt rebuild_grammar rebuild_rules
rebuild_built = record {
  needs = is_needed;
  by_long = λ name. rule_by_long is_needed rebuild_grammar.options name;
  by_short = λ x. refl;
  by_name = tt;
  by_place = (refl, (refl, tt));
  by_index = rebuild_index;
  next = rebuild_next;
  defaults = λ rows. no_default_faults rebuild_rules rows (refl, (refl, (refl, tt)));
}

-- what is asked for by all that was given, and what `clap` says of it
finish : (vs : List Text) (rows : List Row) → Places rebuild_grammar.places vs rows
    → Comes (rebuild_of vs) (check_fault rebuild_shape rows false) (Some (codes "rebuild", rows))
finish [] rows h = rw h.0 refl
finish (a ∷ []) rows h = rw (h.0, h.2.0) refl
finish (a ∷ b ∷ c ∷ more) rows h = absurd h.2.2
finish (a ∷ b ∷ []) rows h = (rw (h.0, h.2.0) refl, (rows, refl, (rw h.0 refl, rw h.2.0 refl)))

rebuild_ended : (rows : List Row) → fold with_default rows rebuild_rules ≡ rows
rebuild_ended rows = no_defaults rebuild_rules rows (refl, (refl, (refl, tt)))

-- what the words of `rebuild` come to
pub rebuild_ends : (rest : List Text) → Comes (rebuild_asked (all_said rebuild_grammar rest)) (Level rebuild_shape [] (stand [] None idle 1 false) rest false [])
    (Some (codes "rebuild", rows_from rebuild_shape [] (stand [] None idle 1 false) rest))
rebuild_ends rest = go (all_said rebuild_grammar rest) (Level rebuild_shape [] (stand [] None idle 1 false) rest false []) (rows_from rebuild_shape [] (stand [] None idle 1 false) rest)
    (ends rebuild_grammar (codes "rebuild") rebuild_rules rebuild_built rebuild_apart rest)
  where
    go : (x : Said) (ks : Kinds) (rows : List Row) → options.Comes rebuild_grammar (codes "rebuild") rebuild_rules rebuild_built rebuild_apart x ks rows
        → Comes (rebuild_asked x) ks (Some (codes "rebuild", rows))
    go (all_of parts) ks rows h =
        let ended = rebuild_ended h.0 in
        subst (λ (k : Kinds). Comes (rebuild_asked (all_of parts)) k (Some (codes "rebuild", rows))) (sym (h.2 ∙ ap (λ (r : List Row). check_fault rebuild_shape r false) ended))
        (subst (λ (r : List Row). Comes (rebuild_asked (all_of parts)) (check_fault rebuild_shape h.0 false) (Some (codes "rebuild", r))) (sym (h.3 ∙ ended))
        (finish (plain_words parts) h.0 h.1.1))
    go help_wanted ks rows h = h
    go not_taken ks rows h = h
