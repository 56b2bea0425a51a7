-- What the words of `page` say.
use Rattle.std.specs.Prelude.{◌≡◌, ◌==◌, ◌&&◌, ◌||◌, ℕ, List, [], ◌∷◌, Bool, true, not, Option, IfSome, is_some, option_map}
use Rattle.std.specs.Option.{option_map_or}
use Rattle.pay_words.specs.Greeting.{may_greet}
use Rattle.pay_words.specs.OneWord.{Text, is_port, number_of}
use Rattle.pay_words.specs.Options.{AreParts, Grammar, Part, plain_words, values_of}
use Rattle.pay_words.specs.Options.{fares_place, zone_place, journal_option, port_option, control_option, greeting_option, staff_option, ledger_option}
use Rattle.pay_words.specs.Run.{listed}

-- what `page` is asked for; the service is asked at its port `control`, with a greeting or none, and the clerks in the file `staff`
-- may correct; what was posted is shown by the ledger in a file
pub record Page : Type 0 where
  pub fares : Text
  pub zone : Text
  pub journal : Text
  pub port : ℕ
  pub control : Option ℕ
  pub greeting : Option Text
  pub staff : Option Text
  pub ledger : Option Text

-- the words that `page` is given
pub record PageTexts : Type 0 where
  pub fares : Text
  pub zone : Text
  pub journal : Text
  pub port : Text
  pub control : Option Text
  pub greeting : Option Text
  pub staff : Option Text
  pub ledger : Option Text

abbrev pub page_grammar : Grammar
page_grammar = record {
  places = fares_place ∷ zone_place ∷ [];
  options = journal_option ∷ port_option ∷ control_option ∷ greeting_option ∷ staff_option ∷ ledger_option ∷ [];
}

abbrev pub page_of_texts : PageTexts → Page
page_of_texts t = record {
  fares = t.fares;
  zone = t.zone;
  journal = t.journal;
  port = number_of t.port;
  control = option_map number_of t.control;
  greeting = t.greeting;
  staff = t.staff;
  ledger = t.ledger;
}

-- the ports among the words of `page` are in their range, where they are given
abbrev pub ArePorts : PageTexts → Type 0
ArePorts t = (is_port t.port ≡ true) × IfSome t.control (λ word. is_port word ≡ true)

-- these parts are two values, in order, the journal and the port once, and the others at most once
abbrev pub ArePageParts : PageTexts → List Part → Type 0
ArePageParts t parts = AreParts page_grammar parts × (plain_words parts ≡ t.fares ∷ t.zone ∷ [])
    × (values_of journal_option parts ≡ t.journal ∷ []) × (values_of port_option parts ≡ t.port ∷ [])
    × (values_of control_option parts ≡ listed t.control) × (values_of greeting_option parts ≡ listed t.greeting)
    × (values_of staff_option parts ≡ listed t.staff) × (values_of ledger_option parts ≡ listed t.ledger)

-- a greeting and a file of clerks are given with a port for the staff of a service alone
abbrev pub has_control : Page → Bool
has_control p = is_some p.control || (not (is_some p.greeting) && not (is_some p.staff))

-- which is another than that of the pages
abbrev pub has_own_port : Page → Bool
has_own_port p = option_map_or (λ control. not (control == p.port)) p.control true

abbrev pub may_show : Page → Bool
may_show p = has_control p && (has_own_port p && may_greet p.greeting)
