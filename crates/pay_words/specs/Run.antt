-- What the words of `run` say.
use Rattle.std.specs.Prelude.{◌≡◌, ◌||◌, List, [], ◌∷◌, Bool, not, Option, Some, None, is_some, if◌then◌else◌}
use Rattle.pay_words.specs.OneWord.{Text}
use Rattle.pay_words.specs.Options.{AreParts, Grammar, Part, flag_value, plain_words, values_of}
use Rattle.pay_words.specs.Options.{fares_place, zone_place, journal_option, sync_option, ledger_option, early_option}

-- what `run` is asked for
pub record Run : Type 0 where
  pub fares : Text
  pub zone : Text
  pub journal : Option Text
  pub syncs : Bool
  pub ledger : Option Text
  pub early : Bool

abbrev pub run_grammar : Grammar
run_grammar = record {
  places = fares_place ∷ zone_place ∷ [];
  options = journal_option ∷ sync_option ∷ ledger_option ∷ early_option ∷ [];
}

-- the one value, where there is one
abbrev pub listed : Option Text → List Text
listed None = []
listed (Some word) = word ∷ []

-- and the first of a list
abbrev pub first_given : List Text → Option Text
first_given [] = None
first_given (word ∷ more) = Some word

abbrev pub flags : Bool → List Text
flags given = if given then flag_value ∷ [] else []

abbrev pub is_given : List Text → Bool
is_given values = is_some (first_given values)

-- these parts are two values, in order, and each option at most once
abbrev pub AreRunParts : Run → List Part → Type 0
AreRunParts r parts = AreParts run_grammar parts × (plain_words parts ≡ r.fares ∷ r.zone ∷ [])
    × (values_of journal_option parts ≡ listed r.journal) × (values_of sync_option parts ≡ flags r.syncs)
    × (values_of ledger_option parts ≡ listed r.ledger) × (values_of early_option parts ≡ flags r.early)

-- lines are brought to the disk where there is a file of them
abbrev pub has_journal : Run → Bool
has_journal r = not r.syncs || is_some r.journal
