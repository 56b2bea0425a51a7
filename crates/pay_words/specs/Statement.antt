-- What the words of `statement` say.
use Rattle.std.specs.Prelude.{◌≡◌, ◌&&◌, ◌||◌, ℕ, List, [], ◌∷◌, Bool, not, Option, is_some}
use Rattle.pay_dates.specs.Words.{day_of_text}
use Rattle.pay_words.specs.OneWord.{Text, number_of}
use Rattle.pay_words.specs.Options.{AreParts, Grammar, Part, plain_words, values_of}
use Rattle.pay_words.specs.Options.{fares_place, zone_place, account_place, day_place, journal_option, ledger_option, long_option}
use Rattle.pay_words.specs.Run.{flags, listed}

-- what `statement` is asked for; there is no day where its word names none
pub record Statement : Type 0 where
  pub fares : Text
  pub zone : Text
  pub account : ℕ
  pub day : Option ℕ
  pub journal : Option Text
  pub ledger : Option Text
  pub long : Bool

-- the words that `statement` is given
pub record StatementTexts : Type 0 where
  pub fares : Text
  pub zone : Text
  pub account : Text
  pub day : Text
  pub journal : Option Text
  pub ledger : Option Text
  pub long : Bool

abbrev pub statement_grammar : Grammar
statement_grammar = record {
  places = fares_place ∷ zone_place ∷ account_place ∷ day_place ∷ [];
  options = journal_option ∷ ledger_option ∷ long_option ∷ [];
}

abbrev pub statement_of_texts : StatementTexts → Statement
statement_of_texts t = record {
  fares = t.fares;
  zone = t.zone;
  account = number_of t.account;
  day = day_of_text t.day;
  journal = t.journal;
  ledger = t.ledger;
  long = t.long;
}

-- these parts are four values, in order, and each option at most once
abbrev pub AreStatementParts : StatementTexts → List Part → Type 0
AreStatementParts t parts = AreParts statement_grammar parts
    × (plain_words parts ≡ t.fares ∷ t.zone ∷ t.account ∷ t.day ∷ []) × (values_of journal_option parts ≡ listed t.journal)
    × (values_of ledger_option parts ≡ listed t.ledger) × (values_of long_option parts ≡ flags t.long)

-- the long form is made of a journal
abbrev pub has_lines : Statement → Bool
has_lines s = not s.long || is_some s.journal

-- and it alone shows what a ledger has
abbrev pub shows_postings : Statement → Bool
shows_postings s = not (is_some s.ledger) || s.long

abbrev pub may_state : Statement → Bool
may_state s = is_some s.day && (has_lines s && shows_postings s)
