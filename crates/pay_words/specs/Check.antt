-- What the words of `check` say.
use Rattle.std.specs.Prelude.{◌≡◌, ◌&&◌, ◌||◌, ℕ, List, [], ◌∷◌, Bool, true, not, Option, is_some, option_map}
use Rattle.std.specs.Option.{option_map_or}
use Rattle.pay_dates.specs.Words.{day_of_text}
use Rattle.pay_words.specs.OneWord.{Text}
use Rattle.pay_words.specs.Options.{AreParts, Grammar, Part, plain_words, values_of}
use Rattle.pay_words.specs.Options.{fares_place, lint_option, against_option, after_option}
use Rattle.pay_words.specs.Run.{flags, listed}

-- what `check` is asked for; a day that is given is none where its word names none
pub record Check : Type 0 where
  pub fares : Text
  pub lints : Bool
  pub against : Option Text
  pub after : Option (Option ℕ)

-- the words that `check` is given
pub record CheckTexts : Type 0 where
  pub fares : Text
  pub lints : Bool
  pub against : Option Text
  pub after : Option Text

abbrev pub check_grammar : Grammar
check_grammar = record {
  places = fares_place ∷ [];
  options = lint_option ∷ against_option ∷ after_option ∷ [];
}

abbrev pub check_of_texts : CheckTexts → Check
check_of_texts t = record {
  fares = t.fares;
  lints = t.lints;
  against = t.against;
  after = option_map day_of_text t.after;
}

-- these parts are a value, and each option at most once
abbrev pub AreCheckParts : CheckTexts → List Part → Type 0
AreCheckParts t parts = AreParts check_grammar parts × (plain_words parts ≡ t.fares ∷ [])
    × (values_of lint_option parts ≡ flags t.lints) × (values_of against_option parts ≡ listed t.against)
    × (values_of after_option parts ≡ listed t.after)

-- days up to one are compared where there is another fare file
abbrev pub has_against : Check → Bool
has_against c = not (is_some c.after) || is_some c.against

-- a day that is given is one
abbrev pub has_after_day : Check → Bool
has_after_day c = option_map_or is_some c.after true

abbrev pub may_check : Check → Bool
may_check c = has_after_day c && has_against c
