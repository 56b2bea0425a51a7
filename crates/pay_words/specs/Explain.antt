-- What the words of `explain` say.
use Rattle.std.specs.Prelude.{◌≡◌, ℕ, List, [], ◌∷◌, Bool, Option}
use Rattle.pay_dates.specs.Words.{day_of_text}
use Rattle.pay_words.specs.OneWord.{Text, number_of}
use Rattle.pay_words.specs.Options.{AreParts, Grammar, Part, plain_words, values_of}
use Rattle.pay_words.specs.Options.{fares_place, zone_place, account_place, day_place, journal_option, ledger_option, week_option}
use Rattle.pay_words.specs.Run.{flags, listed}

-- what `explain` is asked for; there is no day where its word names none
pub record Explain : Type 0 where
  pub fares : Text
  pub zone : Text
  pub account : ℕ
  pub day : Option ℕ
  pub journal : Text
  pub ledger : Option Text
  pub week : Bool

-- the words that `explain` is given
pub record ExplainTexts : Type 0 where
  pub fares : Text
  pub zone : Text
  pub account : Text
  pub day : Text
  pub journal : Text
  pub ledger : Option Text
  pub week : Bool

abbrev pub explain_grammar : Grammar
explain_grammar = record {
  places = fares_place ∷ zone_place ∷ account_place ∷ day_place ∷ [];
  options = journal_option ∷ ledger_option ∷ week_option ∷ [];
}

abbrev pub explain_of_texts : ExplainTexts → Explain
explain_of_texts t = record {
  fares = t.fares;
  zone = t.zone;
  account = number_of t.account;
  day = day_of_text t.day;
  journal = t.journal;
  ledger = t.ledger;
  week = t.week;
}

-- these parts are four values, in order, the journal once, and the others at most once
abbrev pub AreExplainParts : ExplainTexts → List Part → Type 0
AreExplainParts t parts = AreParts explain_grammar parts
    × (plain_words parts ≡ t.fares ∷ t.zone ∷ t.account ∷ t.day ∷ [])
    × (values_of journal_option parts ≡ t.journal ∷ []) × (values_of ledger_option parts ≡ listed t.ledger)
    × (values_of week_option parts ≡ flags t.week)
