-- What `clap` makes of the words after `serve`.
use Rattle.std.proofs.Common.{◌≡◌, ◌∙◌, ◌+◌, codes, true, false, refl, sym, ap, subst, List, [], ◌∷◌, ◌++◌, Some, None}
use Rattle.std.specs.Prelude.{fold, min, option_map}
use Rattle.std.specs.Str.{bytes_eq}
use Rattle.clap.specs.Lexer.{usize_max}
use Rattle.clap.specs.Walk.{Row, Rule, Text, arg_by_index, idle, one_of, with_default}
use Rattle.clap.specs.Simple.{Shape}
use Rattle.clap.specs.Kinds.{Kinds}
use Rattle.clap.specs.Faults.{check_fault}
use Rattle.pay_words.specs.Asked.{serve_asked, serve_of}
use Rattle.pay_words.specs.CommandLine.{flag_text}
use Rattle.pay_words.specs.Options.{Part, Place, Said, Setting, all_of, all_said, help_wanted, name_of, not_taken, place_after, plain_words, values_of}
use Rattle.pay_words.specs.Options.{fares_place, zone_place, port_option, lanes_option, shards_option, sessions_option, close_option, control_option, ahead_option, refused_option, greeting_option, journal_option, ledger_option, early_option}
use Rattle.pay_words.specs.Run.{first_given, is_given}
use Rattle.pay_words.specs.Serve.{serve_grammar}
use Rattle.pay_words.proofs.OptionEnds.{IsFinal, flag_final, places_final, under_final, under_first, under_one, under_reads}
use Rattle.pay_words.proofs.OptionRows.{no_default_faults, no_defaults}
use Rattle.pay_words.proofs.OptionRules.{IsBuilt, is_needed, position_of, rule_at, rule_by_long, rules_for, setting_rule}
use Rattle.pay_words.proofs.WordLevels.{Level, rows_from}
use Rattle.pay_words.proofs.WordSteps.{stand}
use Rattle.pay_words.proofs.WordsAfterOptions as options
use Rattle.pay_words.proofs.WordsAfterOptions.{AreApart, Holds, Places, Under, ends}
use Rattle.pay_words.proofs.WordsOfProgram.{Comes, program_shape}

abbrev pub serve_rules : List Rule
serve_rules = rule_at fares_place ∷ rule_at zone_place ∷ rules_for is_needed (port_option ∷ lanes_option ∷ shards_option ∷ sessions_option ∷ close_option ∷ control_option ∷ ahead_option ∷ refused_option ∷ greeting_option ∷ journal_option ∷ ledger_option ∷ early_option ∷ [])

abbrev pub serve_shape : Shape
serve_shape = program_shape (codes "serve") serve_rules

pub serve_apart : AreApart serve_grammar.places
serve_apart = (((refl, refl), tt), (tt, tt))

serve_index : (vs : List Text) → arg_by_index serve_rules (position_of vs) ≡ option_map rule_at (place_after serve_grammar.places vs)
serve_index [] = refl
serve_index (a ∷ []) = refl
serve_index (a ∷ b ∷ []) = refl
serve_index (a ∷ b ∷ c ∷ []) = refl
serve_index (a ∷ b ∷ c ∷ d ∷ more) = refl

serve_next : (vs : List Text) (p : Place) (word : Text) → place_after serve_grammar.places vs ≡ Some p → min (position_of vs + 1) usize_max ≡ position_of (vs ++ word ∷ [])
serve_next [] p word is = refl
serve_next (a ∷ []) p word is = refl
serve_next (a ∷ b ∷ more) p word is = cc

pub serve_built : IsBuilt serve_grammar serve_rules
serve_built = record {
  needs = is_needed;
  by_long = λ name. rule_by_long is_needed serve_grammar.options name;
  by_short = λ x. refl;
  by_name = (refl, (refl, (refl, (refl, (refl, (refl, (refl, (refl, (refl, (refl, (refl, (refl, tt))))))))))));
  by_place = (refl, (refl, tt));
  by_index = serve_index;
  next = serve_next;
  defaults = λ rows. no_default_faults serve_rules rows (refl, (refl, (refl, (refl, (refl, (refl, (refl, (refl, (refl, (refl, (refl, (refl, (refl, (refl, (refl, tt)))))))))))))));
}

-- what is asked for by all that was given, and what `clap` says of it
finish : (vs ps ls ns ks ds cs hs us ts js gs es : List Text) (rows : List Row) → Places serve_grammar.places vs rows → Under rows port_option ps → Under rows lanes_option ls
    → Under rows shards_option ns → Under rows sessions_option ks → Under rows close_option ds → Under rows control_option cs → Under rows ahead_option hs
    → Under rows refused_option us → Under rows greeting_option ts → Under rows journal_option js → Under rows ledger_option gs → one_of (codes "early") rows ≡ Some (flag_text (is_given es)) → Comes (serve_of vs ps ls ns ks ds cs hs us ts js gs es) (check_fault serve_shape rows false) (Some (codes "serve", rows))
finish [] ps ls ns ks ds cs hs us ts js gs es rows h p l n k d c a u t j g e = rw h.0 refl
finish (f ∷ []) ps ls ns ks ds cs hs us ts js gs es rows h p l n k d c a u t j g e = rw (h.0, h.2.0) refl
finish (f ∷ b ∷ z ∷ more) ps ls ns ks ds cs hs us ts js gs es rows h p l n k d c a u t j g e = absurd h.2.2
finish (f ∷ b ∷ []) [] ls ns ks ds cs hs us ts js gs es rows h p l n k d c a u t j g e = rw (h.0, h.2.0, p) refl
finish (f ∷ b ∷ []) (pw ∷ v ∷ more) ls ns ks ds cs hs us ts js gs es rows h p l n k d c a u t j g e = absurd p
finish (f ∷ b ∷ []) (pw ∷ []) [] ns ks ds cs hs us ts js gs es rows h p l n k d c a u t j g e = rw (h.0, h.2.0, p.0, l) refl
finish (f ∷ b ∷ []) (pw ∷ []) (lw ∷ v ∷ more) ns ks ds cs hs us ts js gs es rows h p l n k d c a u t j g e = absurd l
finish (f ∷ b ∷ []) (pw ∷ []) (lw ∷ []) [] ks ds cs hs us ts js gs es rows h p l n k d c a u t j g e = rw (h.0, h.2.0, p.0, l.0, n) refl
finish (f ∷ b ∷ []) (pw ∷ []) (lw ∷ []) (nw ∷ v ∷ more) ks ds cs hs us ts js gs es rows h p l n k d c a u t j g e = absurd n
finish (f ∷ b ∷ []) (pw ∷ []) (lw ∷ []) (nw ∷ []) ks ds cs hs us ts js gs es rows h p l n k d c a u t j g e = (
  rw (h.0, h.2.0, p.0, l.0, n.0) refl,
  (
    record {
      fares = f;
      zone = b;
      port = pw;
      lanes = lw;
      shards = nw;
      sessions = first_given ks;
      close = first_given ds;
      control = first_given cs;
      ahead = first_given hs;
      refused = first_given us;
      greeting = first_given ts;
      journal = first_given js;
      ledger = first_given gs;
      early = is_given es;
    },
    rows,
    refl,
    (
      rw h.0 refl,
      rw h.2.0 refl,
      rw p.0 refl,
      rw l.0 refl,
      rw n.0 refl,
      under_one rows sessions_option ks k,
      under_first rows close_option ds d,
      under_one rows control_option cs c,
      under_one rows ahead_option hs a,
      under_first rows refused_option us u,
      under_first rows greeting_option ts t,
      under_first rows journal_option js j,
      under_first rows ledger_option gs g,
      e,
    ),
    (
      p.1,
      l.1,
      n.1,
      under_reads rows sessions_option ks k,
      under_reads rows control_option cs c,
      under_reads rows ahead_option hs a,
    ),
    refl,
  ),
)

serve_ended : (rows : List Row) → fold with_default rows serve_rules ≡ with_default rows (setting_rule false early_option)
serve_ended rows =
    ap (λ (r : List Row). fold with_default r (rules_for is_needed (early_option ∷ [])))
    (no_defaults (rule_at fares_place ∷ rule_at zone_place ∷ setting_rule true port_option ∷ setting_rule true lanes_option ∷ setting_rule true shards_option ∷ setting_rule false sessions_option
    ∷ setting_rule false close_option ∷ setting_rule false control_option ∷ setting_rule false ahead_option ∷ setting_rule false refused_option ∷ setting_rule false greeting_option ∷ setting_rule false journal_option
    ∷ setting_rule false ledger_option ∷ []) rows
    (refl, (refl, (refl, (refl, (refl, (refl, (refl, (refl, (refl, (refl, (refl, (refl, (refl, tt))))))))))))))
    ∙ no_defaults (rules_for is_needed []) (with_default rows (setting_rule false early_option)) (refl, tt)

-- the rows with what the flag comes to
module _ (parts : List Part) (had : List Row) (h : Holds serve_grammar parts (plain_words parts) had) where
  abbrev all_rows : List Row
  all_rows = with_default had (setting_rule false early_option)

  early_final : IsFinal early_option had (values_of early_option parts) all_rows
  early_final = flag_final early_option refl had (values_of early_option parts) (h.2 early_option)

  serve_under : (k : Setting) → bytes_eq (name_of early_option) (name_of k) ≡ false → Under all_rows k (values_of k parts)
  serve_under k other = under_final early_option had all_rows (values_of early_option parts) early_final k other (values_of k parts) (h.2 k)

  finished_serve : Comes (serve_asked (all_of parts)) (check_fault serve_shape all_rows false) (Some (codes "serve", all_rows))
  finished_serve = finish (plain_words parts) (values_of port_option parts) (values_of lanes_option parts) (values_of shards_option parts) (values_of sessions_option parts)
      (values_of close_option parts) (values_of control_option parts) (values_of ahead_option parts) (values_of refused_option parts) (values_of greeting_option parts) (values_of journal_option parts) (values_of ledger_option parts) (values_of early_option parts) all_rows
      (places_final early_option had all_rows (values_of early_option parts) early_final serve_grammar.places (plain_words parts) h.1)
      (serve_under port_option refl) (serve_under lanes_option refl) (serve_under shards_option refl) (serve_under sessions_option refl) (serve_under close_option refl)
      (serve_under control_option refl) (serve_under ahead_option refl) (serve_under refused_option refl) (serve_under greeting_option refl) (serve_under journal_option refl) (serve_under ledger_option refl) early_final.1

-- what the words of `serve` come to
pub serve_ends : (rest : List Text) → Comes (serve_asked (all_said serve_grammar rest)) (Level serve_shape [] (stand [] None idle 1 false) rest false [])
    (Some (codes "serve", rows_from serve_shape [] (stand [] None idle 1 false) rest))
serve_ends rest = go (all_said serve_grammar rest) (Level serve_shape [] (stand [] None idle 1 false) rest false []) (rows_from serve_shape [] (stand [] None idle 1 false) rest)
    (ends serve_grammar (codes "serve") serve_rules serve_built serve_apart rest)
  where
    go : (x : Said) (ks : Kinds) (rows : List Row) → options.Comes serve_grammar (codes "serve") serve_rules serve_built serve_apart x ks rows
        → Comes (serve_asked x) ks (Some (codes "serve", rows))
    go (all_of parts) ks rows h =
        let ended = serve_ended h.0 in
        subst (λ (k : Kinds). Comes (serve_asked (all_of parts)) k (Some (codes "serve", rows))) (sym (h.2 ∙ ap (λ (r : List Row). check_fault serve_shape r false) ended))
        (subst (λ (r : List Row). Comes (serve_asked (all_of parts)) (check_fault serve_shape (all_rows parts h.0 h.1) false) (Some (codes "serve", r))) (sym (h.3 ∙ ended)) (finished_serve parts h.0 h.1))
    go help_wanted ks rows h = h
    go not_taken ks rows h = h
