-- What `clap` makes of the words after `follow`.
use Rattle.std.proofs.Common.{◌≡◌, ◌∙◌, ◌+◌, codes, true, false, refl, sym, ap, subst, List, [], ◌∷◌, ◌++◌, Some, None}
use Rattle.std.specs.Prelude.{fold, min, option_map}
use Rattle.clap.specs.Lexer.{usize_max}
use Rattle.clap.specs.Walk.{Row, Rule, Text, arg_by_index, idle, with_default}
use Rattle.clap.specs.Simple.{Shape}
use Rattle.clap.specs.Kinds.{Kinds}
use Rattle.clap.specs.Faults.{check_fault}
use Rattle.pay_words.specs.Asked.{follow_asked, follow_of}
use Rattle.pay_words.specs.Follow.{follow_grammar}
use Rattle.pay_words.specs.Options.{Place, Said, all_of, all_said, help_wanted, not_taken, place_after, plain_words, values_of}
use Rattle.pay_words.specs.Options.{fares_place, zone_place, log_option, partition_option, of_option, ledger_option}
use Rattle.pay_words.proofs.OptionRows.{no_default_faults, no_defaults}
use Rattle.pay_words.proofs.OptionRules.{IsBuilt, Needs, position_of, rule_at, rule_by_long, rules_for}
use Rattle.pay_words.proofs.WordLevels.{Level, rows_from}
use Rattle.pay_words.proofs.WordSteps.{stand}
use Rattle.pay_words.proofs.WordsAfterOptions as options
use Rattle.pay_words.proofs.WordsAfterOptions.{AreApart, Places, Under, ends}
use Rattle.pay_words.proofs.WordsOfProgram.{Comes, program_shape}

-- each option is needed here
abbrev follow_needs : Needs
follow_needs log_option = true
follow_needs partition_option = true
follow_needs of_option = true
follow_needs ledger_option = true
follow_needs _ = false

abbrev pub follow_rules : List Rule
follow_rules = rule_at fares_place ∷ rule_at zone_place ∷ rules_for follow_needs (log_option ∷ partition_option ∷ of_option ∷ ledger_option ∷ [])

abbrev pub follow_shape : Shape
follow_shape = program_shape (codes "follow") follow_rules

pub follow_apart : AreApart follow_grammar.places
follow_apart = (((refl, refl), tt), (tt, tt))

follow_index : (vs : List Text) → arg_by_index follow_rules (position_of vs) ≡ option_map rule_at (place_after follow_grammar.places vs)
follow_index [] = refl
follow_index (a ∷ []) = refl
follow_index (a ∷ b ∷ []) = refl
follow_index (a ∷ b ∷ c ∷ []) = refl
follow_index (a ∷ b ∷ c ∷ d ∷ more) = refl

follow_next : (vs : List Text) (p : Place) (word : Text) → place_after follow_grammar.places vs ≡ Some p → min (position_of vs + 1) usize_max ≡ position_of (vs ++ word ∷ [])
follow_next [] p word is = refl
follow_next (a ∷ []) p word is = refl
follow_next (a ∷ b ∷ more) p word is = cc

pub follow_built : IsBuilt follow_grammar follow_rules
follow_built = record {
  needs = follow_needs;
  by_long = λ name. rule_by_long follow_needs follow_grammar.options name;
  by_short = λ x. refl;
  by_name = (refl, (refl, (refl, (refl, tt))));
  by_place = (refl, (refl, tt));
  by_index = follow_index;
  next = follow_next;
  defaults = λ rows. no_default_faults follow_rules rows (refl, (refl, (refl, (refl, (refl, (refl, (refl, tt)))))));
}

-- what is asked for by all that was given, and what `clap` says of it
finish : (vs us ps ns ls : List Text) (rows : List Row) → Places follow_grammar.places vs rows → Under rows log_option us → Under rows partition_option ps
    → Under rows of_option ns → Under rows ledger_option ls → Comes (follow_of vs us ps ns ls) (check_fault follow_shape rows false) (Some (codes "follow", rows))
finish [] us ps ns ls rows h u p n l = rw h.0 refl
finish (a ∷ []) us ps ns ls rows h u p n l = rw (h.0, h.2.0) refl
finish (a ∷ b ∷ c ∷ more) us ps ns ls rows h u p n l = absurd h.2.2
finish (a ∷ b ∷ []) [] ps ns ls rows h u p n l = rw (h.0, h.2.0, u) refl
finish (a ∷ b ∷ []) (uw ∷ v ∷ more) ps ns ls rows h u p n l = absurd u
finish (a ∷ b ∷ []) (uw ∷ []) [] ns ls rows h u p n l = rw (h.0, h.2.0, u.0, p) refl
finish (a ∷ b ∷ []) (uw ∷ []) (pw ∷ v ∷ more) ns ls rows h u p n l = absurd p
finish (a ∷ b ∷ []) (uw ∷ []) (pw ∷ []) [] ls rows h u p n l = rw (h.0, h.2.0, u.0, p.0, n) refl
finish (a ∷ b ∷ []) (uw ∷ []) (pw ∷ []) (nw ∷ v ∷ more) ls rows h u p n l = absurd n
finish (a ∷ b ∷ []) (uw ∷ []) (pw ∷ []) (nw ∷ []) [] rows h u p n l = rw (h.0, h.2.0, u.0, p.0, n.0, l) refl
finish (a ∷ b ∷ []) (uw ∷ []) (pw ∷ []) (nw ∷ []) (lw ∷ v ∷ more) rows h u p n l = absurd l
finish (a ∷ b ∷ []) (uw ∷ []) (pw ∷ []) (nw ∷ []) (lw ∷ []) rows h u p n l = (
  rw (h.0, h.2.0, u.0, p.0, n.0, l.0) refl,
  (
    record { fares = a; zone = b; log = uw; partition = pw; of = nw; ledger = lw },
    rows,
    refl,
    (rw h.0 refl, rw h.2.0 refl, rw u.0 refl, rw p.0 refl, rw n.0 refl, rw l.0 refl),
    (p.1, n.1),
    refl,
  ),
)

follow_ended : (rows : List Row) → fold with_default rows follow_rules ≡ rows
follow_ended rows = no_defaults follow_rules rows (refl, (refl, (refl, (refl, (refl, (refl, (refl, tt)))))))

-- what the words of `follow` come to
pub follow_ends : (rest : List Text) → Comes (follow_asked (all_said follow_grammar rest)) (Level follow_shape [] (stand [] None idle 1 false) rest false [])
    (Some (codes "follow", rows_from follow_shape [] (stand [] None idle 1 false) rest))
follow_ends rest = go (all_said follow_grammar rest) (Level follow_shape [] (stand [] None idle 1 false) rest false []) (rows_from follow_shape [] (stand [] None idle 1 false) rest)
    (ends follow_grammar (codes "follow") follow_rules follow_built follow_apart rest)
  where
    go : (x : Said) (ks : Kinds) (rows : List Row) → options.Comes follow_grammar (codes "follow") follow_rules follow_built follow_apart x ks rows
        → Comes (follow_asked x) ks (Some (codes "follow", rows))
    go (all_of parts) ks rows h =
        let ended = follow_ended h.0 in
        subst (λ (k : Kinds). Comes (follow_asked (all_of parts)) k (Some (codes "follow", rows))) (sym (h.2 ∙ ap (λ (r : List Row). check_fault follow_shape r false) ended))
        (subst (λ (r : List Row). Comes (follow_asked (all_of parts)) (check_fault follow_shape h.0 false) (Some (codes "follow", r))) (sym (h.3 ∙ ended))
        (finish (plain_words parts) (values_of log_option parts) (values_of partition_option parts) (values_of of_option parts) (values_of ledger_option parts) h.0
        h.1.1 (h.1.2 log_option) (h.1.2 partition_option) (h.1.2 of_option) (h.1.2 ledger_option)))
    go help_wanted ks rows h = h
    go not_taken ks rows h = h
