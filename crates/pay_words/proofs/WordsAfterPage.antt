-- What `clap` makes of the words after `page`.
use Rattle.std.proofs.Common.{◌≡◌, ◌∙◌, ◌+◌, codes, true, false, refl, sym, ap, subst, List, [], ◌∷◌, ◌++◌, Some, None}
use Rattle.std.specs.Prelude.{fold, min, option_map}
use Rattle.clap.specs.Lexer.{usize_max}
use Rattle.clap.specs.Walk.{Row, Rule, Text, arg_by_index, idle, with_default}
use Rattle.clap.specs.Simple.{Shape}
use Rattle.clap.specs.Kinds.{Kinds}
use Rattle.clap.specs.Faults.{check_fault}
use Rattle.pay_words.specs.Asked.{page_asked, page_of}
use Rattle.pay_words.specs.Options.{Place, Said, all_of, all_said, help_wanted, not_taken, place_after, plain_words, values_of}
use Rattle.pay_words.specs.Options.{fares_place, zone_place, journal_option, port_option, control_option, greeting_option, staff_option, ledger_option}
use Rattle.pay_words.specs.Page.{page_grammar}
use Rattle.pay_words.specs.Run.{first_given}
use Rattle.pay_words.proofs.OptionEnds.{under_first, under_one, under_reads}
use Rattle.pay_words.proofs.OptionRows.{no_default_faults, no_defaults}
use Rattle.pay_words.proofs.OptionRules.{IsBuilt, Needs, position_of, rule_at, rule_by_long, rules_for}
use Rattle.pay_words.proofs.WordLevels.{Level, rows_from}
use Rattle.pay_words.proofs.WordSteps.{stand}
use Rattle.pay_words.proofs.WordsAfterOptions as options
use Rattle.pay_words.proofs.WordsAfterOptions.{AreApart, Places, Under, ends}
use Rattle.pay_words.proofs.WordsOfProgram.{Comes, program_shape}

-- a journal and a port are needed here
abbrev page_needs : Needs
page_needs journal_option = true
page_needs port_option = true
page_needs _ = false

abbrev pub page_rules : List Rule
page_rules = rule_at fares_place ∷ rule_at zone_place ∷ rules_for page_needs (journal_option ∷ port_option ∷ control_option ∷ greeting_option ∷ staff_option ∷ ledger_option ∷ [])

abbrev pub page_shape : Shape
page_shape = program_shape (codes "page") page_rules

pub page_apart : AreApart page_grammar.places
page_apart = (((refl, refl), tt), (tt, tt))

page_index : (vs : List Text) → arg_by_index page_rules (position_of vs) ≡ option_map rule_at (place_after page_grammar.places vs)
page_index [] = refl
page_index (a ∷ []) = refl
page_index (a ∷ b ∷ []) = refl
page_index (a ∷ b ∷ c ∷ []) = refl
page_index (a ∷ b ∷ c ∷ d ∷ more) = refl

page_next : (vs : List Text) (p : Place) (word : Text) → place_after page_grammar.places vs ≡ Some p → min (position_of vs + 1) usize_max ≡ position_of (vs ++ word ∷ [])
page_next [] p word is = refl
page_next (a ∷ []) p word is = refl
page_next (a ∷ b ∷ more) p word is = cc

pub page_built : IsBuilt page_grammar page_rules
page_built = record {
  needs = page_needs;
  by_long = λ name. rule_by_long page_needs page_grammar.options name;
  by_short = λ x. refl;
  by_name = (refl, (refl, (refl, (refl, (refl, (refl, tt))))));
  by_place = (refl, (refl, tt));
  by_index = page_index;
  next = page_next;
  defaults = λ rows. no_default_faults page_rules rows (refl, (refl, (refl, (refl, (refl, (refl, (refl, (refl, (refl, tt)))))))));
}

-- what is asked for by all that was given, and what `clap` says of it
finish : (vs js ps cs gs ss ls : List Text) (rows : List Row) → Places page_grammar.places vs rows → Under rows journal_option js → Under rows port_option ps
    → Under rows control_option cs → Under rows greeting_option gs → Under rows staff_option ss → Under rows ledger_option ls
    → Comes (page_of vs js ps cs gs ss ls) (check_fault page_shape rows false) (Some (codes "page", rows))
finish [] js ps cs gs ss ls rows h j p c g s l = rw h.0 refl
finish (a ∷ []) js ps cs gs ss ls rows h j p c g s l = rw (h.0, h.2.0) refl
finish (a ∷ b ∷ x ∷ more) js ps cs gs ss ls rows h j p c g s l = absurd h.2.2
finish (a ∷ b ∷ []) [] ps cs gs ss ls rows h j p c g s l = rw (h.0, h.2.0, j) refl
finish (a ∷ b ∷ []) (w ∷ v ∷ more) ps cs gs ss ls rows h j p c g s l = absurd j
finish (a ∷ b ∷ []) (w ∷ []) [] cs gs ss ls rows h j p c g s l = rw (h.0, h.2.0, j.0, p) refl
finish (a ∷ b ∷ []) (w ∷ []) (n ∷ v ∷ more) cs gs ss ls rows h j p c g s l = absurd p
finish (a ∷ b ∷ []) (w ∷ []) (n ∷ []) cs gs ss ls rows h j p c g s l = (
  rw (h.0, h.2.0, j.0, p.0) refl,
  (
    record { fares = a; zone = b; journal = w; port = n; control = first_given cs; greeting = first_given gs; staff = first_given ss; ledger = first_given ls },
    rows,
    refl,
    (rw h.0 refl, rw h.2.0 refl, rw j.0 refl, rw p.0 refl, under_one rows control_option cs c, under_first rows greeting_option gs g, under_first rows staff_option ss s, under_first rows ledger_option ls l),
    (p.1, under_reads rows control_option cs c),
    refl,
  ),
)

page_ended : (rows : List Row) → fold with_default rows page_rules ≡ rows
page_ended rows = no_defaults page_rules rows (refl, (refl, (refl, (refl, (refl, (refl, (refl, (refl, (refl, tt)))))))))

-- what the words of `page` come to
pub page_ends : (rest : List Text) → Comes (page_asked (all_said page_grammar rest)) (Level page_shape [] (stand [] None idle 1 false) rest false [])
    (Some (codes "page", rows_from page_shape [] (stand [] None idle 1 false) rest))
page_ends rest = go (all_said page_grammar rest) (Level page_shape [] (stand [] None idle 1 false) rest false []) (rows_from page_shape [] (stand [] None idle 1 false) rest)
    (ends page_grammar (codes "page") page_rules page_built page_apart rest)
  where
    go : (x : Said) (ks : Kinds) (rows : List Row) → options.Comes page_grammar (codes "page") page_rules page_built page_apart x ks rows
        → Comes (page_asked x) ks (Some (codes "page", rows))
    go (all_of parts) ks rows h =
        let ended = page_ended h.0 in
        subst (λ (k : Kinds). Comes (page_asked (all_of parts)) k (Some (codes "page", rows))) (sym (h.2 ∙ ap (λ (r : List Row). check_fault page_shape r false) ended))
        (subst (λ (r : List Row). Comes (page_asked (all_of parts)) (check_fault page_shape h.0 false) (Some (codes "page", r))) (sym (h.3 ∙ ended))
        (finish (plain_words parts) (values_of journal_option parts) (values_of port_option parts) (values_of control_option parts) (values_of greeting_option parts) (values_of staff_option parts) (values_of ledger_option parts) h.0
        h.1.1 (h.1.2 journal_option) (h.1.2 port_option) (h.1.2 control_option) (h.1.2 greeting_option) (h.1.2 staff_option) (h.1.2 ledger_option)))
    go help_wanted ks rows h = h
    go not_taken ks rows h = h
