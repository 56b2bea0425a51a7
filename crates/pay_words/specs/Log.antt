-- What the words of `log` say.
use Rattle.std.specs.Prelude.{◌≡◌, ◌&&◌, ℕ, ⊤, List, [], ◌∷◌, Bool, true, codes, Option, Some, None, IfSome, is_some, option_map, if◌then◌else◌, ◌≤◌}
use Rattle.std.specs.Str.{bytes_eq}
use Rattle.pay_words.specs.declared.limits.TheConstants.{MOST_REPLICAS}
use Rattle.pay_words.specs.declared.words.LogAction.{LogAction}
use Rattle.pay_words.specs.declared.words.LogAction.TheVariants as actions
use Rattle.pay_words.specs.Node.{node_port}
use Rattle.pay_words.specs.OneWord.{Text, is_partitions, is_replicas, number_of}
use Rattle.pay_words.specs.Options.{AreParts, Grammar, Part, plain_words, values_of}
use Rattle.pay_words.specs.Options.{action_place, second_fares_place, third_zone_place, log_option, of_option, replicas_option}
use Rattle.pay_words.specs.Run.{listed}

-- what `log` is asked for; there is no action where its word names none that goes with the option, and no port where its
-- URL names none
pub record Log : Type 0 where
  pub action : Option LogAction
  pub fares : Text
  pub zone : Text
  pub port : Option ℕ
  pub of : ℕ

-- the words that `log` is given
pub record LogTexts : Type 0 where
  pub action : Text
  pub fares : Text
  pub zone : Text
  pub log : Text
  pub of : Text
  pub replicas : Option Text

abbrev pub log_grammar : Grammar
log_grammar = record {
  places = action_place ∷ second_fares_place ∷ third_zone_place ∷ [];
  options = log_option ∷ of_option ∷ replicas_option ∷ [];
}

-- what makes a log needs a number of replicas
abbrev pub making : Option ℕ → Option LogAction
making None = None
making (Some replicas) = Some (actions.Make replicas)

-- and what says how it is takes none
abbrev pub checking : Option ℕ → Option LogAction
checking None = Some actions.Check
checking (Some replicas) = None

-- the action of this word, with these replicas
abbrev pub action_of : Text → Option ℕ → Option LogAction
action_of word replicas = if bytes_eq word (codes "make") then making replicas
    else (if bytes_eq word (codes "check") then checking replicas else None)

abbrev pub log_of_texts : LogTexts → Log
log_of_texts t = record {
  action = action_of t.action (option_map number_of t.replicas);
  fares = t.fares;
  zone = t.zone;
  port = node_port t.log;
  of = number_of t.of;
}

-- the numbers among the words of `log` are in their ranges, where they are given
abbrev pub AreLogNumbers : LogTexts → Type 0
AreLogNumbers t = (is_partitions t.of ≡ true) × IfSome t.replicas (λ word. is_replicas word ≡ true)

-- these parts are three values, in order, two options once, and the replicas at most once
abbrev pub AreLogParts : LogTexts → List Part → Type 0
AreLogParts t parts = AreParts log_grammar parts × (plain_words parts ≡ t.action ∷ t.fares ∷ t.zone ∷ [])
    × (values_of log_option parts ≡ t.log ∷ []) × (values_of of_option parts ≡ t.of ∷ [])
    × (values_of replicas_option parts ≡ listed t.replicas)

abbrev pub may_log : Log → Bool
may_log l = is_some l.action && is_some l.port

-- the number of an action is in its range
abbrev pub IsActionInRange : LogAction → Type 0
IsActionInRange (actions.Make replicas) = (1 ≤ replicas) × (replicas ≤ MOST_REPLICAS)
IsActionInRange actions.Check = ⊤
