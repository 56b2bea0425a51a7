-- What the words of `audit` say.
use Rattle.std.specs.Prelude.{◌≡◌, List, [], ◌∷◌, Option}
use Rattle.pay_words.specs.OneWord.{Text}
use Rattle.pay_words.specs.Options.{AreParts, Grammar, Part, plain_words, values_of}
use Rattle.pay_words.specs.Options.{fares_place, zone_place, journal_option, ledger_option}
use Rattle.pay_words.specs.Run.{listed}

-- what `audit` is asked for
pub record Audit : Type 0 where
  pub fares : Text
  pub zone : Text
  pub journal : Text
  pub ledger : Option Text

abbrev pub audit_grammar : Grammar
audit_grammar = record {
  places = fares_place ∷ zone_place ∷ [];
  options = journal_option ∷ ledger_option ∷ [];
}

-- these parts are two values, in order, the journal once, and the ledger at most once
abbrev pub AreAuditParts : Audit → List Part → Type 0
AreAuditParts a parts = AreParts audit_grammar parts × (plain_words parts ≡ a.fares ∷ a.zone ∷ [])
    × (values_of journal_option parts ≡ a.journal ∷ []) × (values_of ledger_option parts ≡ listed a.ledger)
