-- What the words of `serve` say.
use Rattle.std.specs.Prelude.{◌≡◌, ◌+◌, ◌-◌, ◌==◌, ◌&&◌, ◌||◌, ℕ, List, [], ◌∷◌, Bool, true, not, Option, Some, None, IfSome, is_some, option_map, nat_le}
use Rattle.std.specs.Option.{option_and_then}
use Rattle.pay_dates.specs.Words.{day_of_text}
use Rattle.pay_words.specs.declared.limits.TheConstants.{MOST_PORT, MOST_STAYING_LANES}
use Rattle.pay_words.specs.Greeting.{may_greet}
use Rattle.pay_words.specs.OneWord.{Text, is_ahead, is_lanes, is_port, is_sessions, is_shards, number_of}
use Rattle.pay_words.specs.Options.{AreParts, Grammar, Part, plain_words, values_of, fares_place, zone_place}
use Rattle.pay_words.specs.Options.{port_option, lanes_option, shards_option, sessions_option, close_option, control_option, ahead_option, refused_option, greeting_option, journal_option, ledger_option, early_option}
use Rattle.pay_words.specs.Run.{flags, listed}

-- what `serve` is asked for: a service that ends after so many connections, or one that stays; a day that is given is
-- none where its word names none
pub record Serve : Type 0 where
  pub fares : Text
  pub zone : Text
  pub port : ℕ
  pub lanes : ℕ
  pub shards : ℕ
  pub sessions : Option ℕ
  pub close : Option (Option ℕ)
  pub control : Option ℕ
  pub ahead : Option ℕ
  pub refused : Option Text
  pub greeting : Option Text
  pub journal : Option Text
  pub ledger : Option Text
  pub early : Bool

-- the words that `serve` is given
pub record ServeTexts : Type 0 where
  pub fares : Text
  pub zone : Text
  pub port : Text
  pub lanes : Text
  pub shards : Text
  pub sessions : Option Text
  pub close : Option Text
  pub control : Option Text
  pub ahead : Option Text
  pub refused : Option Text
  pub greeting : Option Text
  pub journal : Option Text
  pub ledger : Option Text
  pub early : Bool

abbrev pub serve_grammar : Grammar
serve_grammar = record {
  places = fares_place ∷ zone_place ∷ [];
  options = port_option ∷ lanes_option ∷ shards_option ∷ sessions_option ∷ close_option ∷ control_option ∷ ahead_option ∷ refused_option ∷ greeting_option ∷ journal_option ∷ ledger_option ∷ early_option ∷ [];
}

abbrev pub numbers_of : ServeTexts → Serve
numbers_of t = record {
  fares = t.fares;
  zone = t.zone;
  port = number_of t.port;
  lanes = number_of t.lanes;
  shards = number_of t.shards;
  sessions = option_map number_of t.sessions;
  close = option_map day_of_text t.close;
  control = option_map number_of t.control;
  ahead = option_map number_of t.ahead;
  refused = t.refused;
  greeting = t.greeting;
  journal = t.journal;
  ledger = t.ledger;
  early = t.early;
}

-- the numbers among the words of `serve` are in their ranges, where they are given
abbrev pub AreInRange : ServeTexts → Type 0
AreInRange t = (is_port t.port ≡ true) × (is_lanes t.lanes ≡ true) × (is_shards t.shards ≡ true)
    × IfSome t.sessions (λ word. is_sessions word ≡ true) × IfSome t.control (λ word. is_port word ≡ true)
    × IfSome t.ahead (λ word. is_ahead word ≡ true)

-- these parts have each option that both forms need once
abbrev pub HaveNeeded : ServeTexts → List Part → Type 0
HaveNeeded t parts = (values_of port_option parts ≡ t.port ∷ []) × (values_of lanes_option parts ≡ t.lanes ∷ [])
    × (values_of shards_option parts ≡ t.shards ∷ [])

-- these parts have each option of one form alone at most once
abbrev pub HaveEnd : ServeTexts → List Part → Type 0
HaveEnd t parts = (values_of sessions_option parts ≡ listed t.sessions) × (values_of close_option parts ≡ listed t.close)
    × (values_of control_option parts ≡ listed t.control) × (values_of ahead_option parts ≡ listed t.ahead)
    × (values_of refused_option parts ≡ listed t.refused) × (values_of greeting_option parts ≡ listed t.greeting)

-- these parts are two values, in order, each option that both forms need once, and the others at most once
abbrev pub ArePartsOf : ServeTexts → List Part → Type 0
ArePartsOf t parts = AreParts serve_grammar parts × (plain_words parts ≡ t.fares ∷ t.zone ∷ []) × HaveNeeded t parts × HaveEnd t parts
    × (values_of journal_option parts ≡ listed t.journal) × (values_of ledger_option parts ≡ listed t.ledger)
    × (values_of early_option parts ≡ flags t.early)

-- lane l, from 0 on, listens on port `port` + l; this is the port of the last one
abbrev pub last_port : ℕ → ℕ → ℕ
last_port port lanes = port + lanes - 1

abbrev pub has_ports : Serve → Bool
has_ports s = nat_le (last_port s.port s.lanes) MOST_PORT

-- what a service that stays alone may have: a limit for taps ahead of the clock, a file for refused lines, and a
-- greeting
abbrev pub has_more : Serve → Bool
has_more s = is_some s.ahead || (is_some s.refused || is_some s.greeting)

-- the day that is closed at the end
abbrev pub closed_day : Serve → Option ℕ
closed_day s = option_and_then (λ day. day) s.close

-- a service that ends serves so many connections, closes a day, has nothing of that, and has a port for each lane
abbrev pub may_end : Serve → Bool
may_end s = is_some s.sessions && (is_some (closed_day s) && (not (has_more s) && has_ports s))

-- it has no number of connections, and no day that is closed at its end
abbrev pub has_no_end : Serve → Bool
has_no_end s = not (is_some s.sessions) && not (is_some s.close)

-- its staff have another port, and a lane is left for them
abbrev pub leaves_room : ℕ → Serve → Bool
leaves_room control s = not (control == s.port) && nat_le s.lanes MOST_STAYING_LANES

-- a service that stays has no end, leaves room for its staff, may greet so, and has journals and a ledger in a file
abbrev pub may_stay : ℕ → Serve → Bool
may_stay control s = ((has_no_end s && leaves_room control s) && may_greet s.greeting) && (is_some s.journal && is_some s.ledger)

abbrev pub is_whole_by : Option ℕ → Serve → Bool
is_whole_by None s = may_end s
is_whole_by (Some control) s = may_stay control s

-- what is asked for is one of the two: it stays where it has a port for its staff
abbrev pub is_whole : Serve → Bool
is_whole s = is_whole_by s.control s
