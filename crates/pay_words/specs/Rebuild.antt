-- What the words of `rebuild` say.
use Rattle.std.specs.Prelude.{[], ◌∷◌}
use Rattle.pay_words.specs.Options.{Grammar, fares_place, ledger_place}

-- it has no options but help
abbrev pub rebuild_grammar : Grammar
rebuild_grammar = record {
  places = fares_place ∷ ledger_place ∷ [];
  options = [];
}
