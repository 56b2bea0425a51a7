-- What `clap` makes of the words after `log`.
use Rattle.std.proofs.Common.{◌≡◌, ◌∙◌, ◌+◌, codes, true, false, refl, sym, ap, subst, List, [], ◌∷◌, ◌++◌, Some, None}
use Rattle.std.specs.Prelude.{fold, min, option_map}
use Rattle.clap.specs.Lexer.{usize_max}
use Rattle.clap.specs.Walk.{Row, Rule, Text, arg_by_index, idle, with_default}
use Rattle.clap.specs.Simple.{Shape}
use Rattle.clap.specs.Kinds.{Kinds}
use Rattle.clap.specs.Faults.{check_fault}
use Rattle.pay_words.specs.Asked.{log_asked, log_of}
use Rattle.pay_words.specs.Log.{log_grammar}
use Rattle.pay_words.specs.Options.{Place, Said, all_of, all_said, help_wanted, not_taken, place_after, plain_words, values_of}
use Rattle.pay_words.specs.Options.{action_place, second_fares_place, third_zone_place, log_option, of_option, replicas_option}
use Rattle.pay_words.specs.Run.{first_given}
use Rattle.pay_words.proofs.OptionEnds.{under_one, under_reads}
use Rattle.pay_words.proofs.OptionRows.{no_default_faults, no_defaults}
use Rattle.pay_words.proofs.OptionRules.{IsBuilt, Needs, position_of, rule_at, rule_by_long, rules_for}
use Rattle.pay_words.proofs.WordLevels.{Level, rows_from}
use Rattle.pay_words.proofs.WordSteps.{stand}
use Rattle.pay_words.proofs.WordsAfterOptions as options
use Rattle.pay_words.proofs.WordsAfterOptions.{AreApart, Places, Under, ends}
use Rattle.pay_words.proofs.WordsOfProgram.{Comes, program_shape}

-- a node and a number of partitions are needed here
abbrev log_needs : Needs
log_needs log_option = true
log_needs of_option = true
log_needs _ = false

abbrev pub log_rules : List Rule
log_rules = rule_at action_place ∷ rule_at second_fares_place ∷ rule_at third_zone_place ∷ rules_for log_needs (log_option ∷ of_option ∷ replicas_option ∷ [])

abbrev pub log_shape : Shape
log_shape = program_shape (codes "log") log_rules

pub log_apart : AreApart log_grammar.places
log_apart = (((refl, refl), ((refl, refl), tt)), (((refl, refl), tt), (tt, tt)))

log_index : (vs : List Text) → arg_by_index log_rules (position_of vs) ≡ option_map rule_at (place_after log_grammar.places vs)
log_index [] = refl
log_index (a ∷ []) = refl
log_index (a ∷ b ∷ []) = refl
log_index (a ∷ b ∷ c ∷ []) = refl
log_index (a ∷ b ∷ c ∷ d ∷ more) = refl

log_next : (vs : List Text) (p : Place) (word : Text) → place_after log_grammar.places vs ≡ Some p → min (position_of vs + 1) usize_max ≡ position_of (vs ++ word ∷ [])
log_next [] p word is = refl
log_next (a ∷ []) p word is = refl
log_next (a ∷ b ∷ []) p word is = refl
log_next (a ∷ b ∷ c ∷ more) p word is = cc

pub log_built : IsBuilt log_grammar log_rules
log_built = record {
  needs = log_needs;
  by_long = λ name. rule_by_long log_needs log_grammar.options name;
  by_short = λ x. refl;
  by_name = (refl, (refl, (refl, tt)));
  by_place = (refl, (refl, (refl, tt)));
  by_index = log_index;
  next = log_next;
  defaults = λ rows. no_default_faults log_rules rows (refl, (refl, (refl, (refl, (refl, (refl, (refl, tt)))))));
}

-- what is asked for by all that was given, and what `clap` says of it
finish : (vs us ns rs : List Text) (rows : List Row) → Places log_grammar.places vs rows → Under rows log_option us → Under rows of_option ns
    → Under rows replicas_option rs → Comes (log_of vs us ns rs) (check_fault log_shape rows false) (Some (codes "log", rows))
finish [] us ns rs rows h u n r = rw h.0 refl
finish (x ∷ []) us ns rs rows h u n r = rw (h.0, h.2.0) refl
finish (x ∷ a ∷ []) us ns rs rows h u n r = rw (h.0, h.2.0, h.2.2.0) refl
finish (x ∷ a ∷ b ∷ c ∷ more) us ns rs rows h u n r = absurd h.2.2.2
finish (x ∷ a ∷ b ∷ []) [] ns rs rows h u n r = rw (h.0, h.2.0, h.2.2.0, u) refl
finish (x ∷ a ∷ b ∷ []) (uw ∷ v ∷ more) ns rs rows h u n r = absurd u
finish (x ∷ a ∷ b ∷ []) (uw ∷ []) [] rs rows h u n r = rw (h.0, h.2.0, h.2.2.0, u.0, n) refl
finish (x ∷ a ∷ b ∷ []) (uw ∷ []) (nw ∷ v ∷ more) rs rows h u n r = absurd n
finish (x ∷ a ∷ b ∷ []) (uw ∷ []) (nw ∷ []) rs rows h u n r = (
  rw (h.0, h.2.0, h.2.2.0, u.0, n.0) refl,
  (
    record { action = x; fares = a; zone = b; log = uw; of = nw; replicas = first_given rs },
    rows,
    refl,
    (rw h.0 refl, rw h.2.0 refl, rw h.2.2.0 refl, rw u.0 refl, rw n.0 refl, under_one rows replicas_option rs r),
    (n.1, under_reads rows replicas_option rs r),
    refl,
  ),
)

log_ended : (rows : List Row) → fold with_default rows log_rules ≡ rows
log_ended rows = no_defaults log_rules rows (refl, (refl, (refl, (refl, (refl, (refl, (refl, tt)))))))

-- what the words of `log` come to
pub log_ends : (rest : List Text) → Comes (log_asked (all_said log_grammar rest)) (Level log_shape [] (stand [] None idle 1 false) rest false [])
    (Some (codes "log", rows_from log_shape [] (stand [] None idle 1 false) rest))
log_ends rest = go (all_said log_grammar rest) (Level log_shape [] (stand [] None idle 1 false) rest false []) (rows_from log_shape [] (stand [] None idle 1 false) rest)
    (ends log_grammar (codes "log") log_rules log_built log_apart rest)
  where
    go : (x : Said) (ks : Kinds) (rows : List Row) → options.Comes log_grammar (codes "log") log_rules log_built log_apart x ks rows
        → Comes (log_asked x) ks (Some (codes "log", rows))
    go (all_of parts) ks rows h =
        let ended = log_ended h.0 in
        subst (λ (k : Kinds). Comes (log_asked (all_of parts)) k (Some (codes "log", rows))) (sym (h.2 ∙ ap (λ (r : List Row). check_fault log_shape r false) ended))
        (subst (λ (r : List Row). Comes (log_asked (all_of parts)) (check_fault log_shape h.0 false) (Some (codes "log", r))) (sym (h.3 ∙ ended))
        (finish (plain_words parts) (values_of log_option parts) (values_of of_option parts) (values_of replicas_option parts) h.0
        h.1.1 (h.1.2 log_option) (h.1.2 of_option) (h.1.2 replicas_option)))
    go help_wanted ks rows h = h
    go not_taken ks rows h = h
