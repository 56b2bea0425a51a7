-- What `clap` makes of the words after `audit`.
use Rattle.std.proofs.Common.{◌≡◌, ◌∙◌, ◌+◌, codes, true, false, refl, sym, ap, subst, List, [], ◌∷◌, ◌++◌, Some, None}
use Rattle.std.specs.Prelude.{fold, min, option_map}
use Rattle.clap.specs.Lexer.{usize_max}
use Rattle.clap.specs.Walk.{Row, Rule, Text, arg_by_index, idle, with_default}
use Rattle.clap.specs.Simple.{Shape}
use Rattle.clap.specs.Kinds.{Kinds}
use Rattle.clap.specs.Faults.{check_fault}
use Rattle.pay_words.specs.Asked.{audit_asked, audit_of}
use Rattle.pay_words.specs.Audit.{audit_grammar}
use Rattle.pay_words.specs.Options.{Place, Said, all_of, all_said, help_wanted, not_taken, place_after, plain_words, values_of}
use Rattle.pay_words.specs.Options.{fares_place, zone_place, journal_option, ledger_option}
use Rattle.pay_words.proofs.OptionEnds.{under_first}
use Rattle.pay_words.proofs.OptionRows.{no_default_faults, no_defaults}
use Rattle.pay_words.proofs.OptionRules.{IsBuilt, Needs, position_of, rule_at, rule_by_long, rules_for}
use Rattle.pay_words.proofs.WordLevels.{Level, rows_from}
use Rattle.pay_words.proofs.WordSteps.{stand}
use Rattle.pay_words.proofs.WordsAfterOptions as options
use Rattle.pay_words.proofs.WordsAfterOptions.{AreApart, Places, Under, ends}
use Rattle.pay_words.proofs.WordsOfProgram.{Comes, program_shape}

-- a journal is needed here
abbrev audit_needs : Needs
audit_needs journal_option = true
audit_needs _ = false

abbrev pub audit_rules : List Rule
audit_rules = rule_at fares_place ∷ rule_at zone_place ∷ rules_for audit_needs (journal_option ∷ ledger_option ∷ [])

abbrev pub audit_shape : Shape
audit_shape = program_shape (codes "audit") audit_rules

pub audit_apart : AreApart audit_grammar.places
audit_apart = (((refl, refl), tt), (tt, tt))

audit_index : (vs : List Text) → arg_by_index audit_rules (position_of vs) ≡ option_map rule_at (place_after audit_grammar.places vs)
audit_index [] = refl
audit_index (a ∷ []) = refl
audit_index (a ∷ b ∷ []) = refl
audit_index (a ∷ b ∷ c ∷ []) = refl
audit_index (a ∷ b ∷ c ∷ d ∷ more) = refl

audit_next : (vs : List Text) (p : Place) (word : Text) → place_after audit_grammar.places vs ≡ Some p → min (position_of vs + 1) usize_max ≡ position_of (vs ++ word ∷ [])
audit_next [] p word is = refl
audit_next (a ∷ []) p word is = refl
audit_next (a ∷ b ∷ more) p word is = cc

pub audit_built : IsBuilt audit_grammar audit_rules
audit_built = record {
  needs = audit_needs;
  by_long = λ name. rule_by_long audit_needs audit_grammar.options name;
  by_short = λ x. refl;
  by_name = (refl, (refl, tt));
  by_place = (refl, (refl, tt));
  by_index = audit_index;
  next = audit_next;
  defaults = λ rows. no_default_faults audit_rules rows (refl, (refl, (refl, (refl, (refl, tt)))));
}

-- what is asked for by all that was given, and what `clap` says of it
finish : (vs js ls : List Text) (rows : List Row) → Places audit_grammar.places vs rows → Under rows journal_option js → Under rows ledger_option ls
    → Comes (audit_of vs js ls) (check_fault audit_shape rows false) (Some (codes "audit", rows))
finish [] js ls rows h j l = rw h.0 refl
finish (a ∷ []) js ls rows h j l = rw (h.0, h.2.0) refl
finish (a ∷ b ∷ c ∷ more) js ls rows h j l = absurd h.2.2
finish (a ∷ b ∷ []) [] ls rows h j l = rw (h.0, h.2.0, j) refl
finish (a ∷ b ∷ []) (w ∷ v ∷ more) ls rows h j l = absurd j
finish (a ∷ b ∷ []) (w ∷ []) ls rows h j l = (
  rw (h.0, h.2.0, j.0) refl,
  (rows, refl, (rw h.0 refl, rw h.2.0 refl, rw j.0 refl, under_first rows ledger_option ls l)),
)

audit_ended : (rows : List Row) → fold with_default rows audit_rules ≡ rows
audit_ended rows = no_defaults audit_rules rows (refl, (refl, (refl, (refl, (refl, tt)))))

-- what the words of `audit` come to
pub audit_ends : (rest : List Text) → Comes (audit_asked (all_said audit_grammar rest)) (Level audit_shape [] (stand [] None idle 1 false) rest false [])
    (Some (codes "audit", rows_from audit_shape [] (stand [] None idle 1 false) rest))
audit_ends rest = go (all_said audit_grammar rest) (Level audit_shape [] (stand [] None idle 1 false) rest false []) (rows_from audit_shape [] (stand [] None idle 1 false) rest)
    (ends audit_grammar (codes "audit") audit_rules audit_built audit_apart rest)
  where
    go : (x : Said) (ks : Kinds) (rows : List Row) → options.Comes audit_grammar (codes "audit") audit_rules audit_built audit_apart x ks rows
        → Comes (audit_asked x) ks (Some (codes "audit", rows))
    go (all_of parts) ks rows h =
        let ended = audit_ended h.0 in
        subst (λ (k : Kinds). Comes (audit_asked (all_of parts)) k (Some (codes "audit", rows))) (sym (h.2 ∙ ap (λ (r : List Row). check_fault audit_shape r false) ended))
        (subst (λ (r : List Row). Comes (audit_asked (all_of parts)) (check_fault audit_shape h.0 false) (Some (codes "audit", r))) (sym (h.3 ∙ ended))
        (finish (plain_words parts) (values_of journal_option parts) (values_of ledger_option parts) h.0 h.1.1 (h.1.2 journal_option) (h.1.2 ledger_option)))
    go help_wanted ks rows h = h
    go not_taken ks rows h = h
