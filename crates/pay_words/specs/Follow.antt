-- What the words of `follow` say.
use Rattle.std.specs.Prelude.{◌≡◌, ◌&&◌, ℕ, List, [], ◌∷◌, Bool, true, Option, is_some, nat_lt}
use Rattle.pay_words.specs.Node.{node_port}
use Rattle.pay_words.specs.OneWord.{Text, is_partition, is_partitions, number_of}
use Rattle.pay_words.specs.Options.{AreParts, Grammar, Part, plain_words, values_of}
use Rattle.pay_words.specs.Options.{fares_place, zone_place, log_option, partition_option, of_option, ledger_option}

-- what `follow` is asked for; there is no port where its URL names none
pub record Follow : Type 0 where
  pub fares : Text
  pub zone : Text
  pub port : Option ℕ
  pub partition : ℕ
  pub of : ℕ
  pub ledger : Text

-- the words that `follow` is given
pub record FollowTexts : Type 0 where
  pub fares : Text
  pub zone : Text
  pub log : Text
  pub partition : Text
  pub of : Text
  pub ledger : Text

abbrev pub follow_grammar : Grammar
follow_grammar = record {
  places = fares_place ∷ zone_place ∷ [];
  options = log_option ∷ partition_option ∷ of_option ∷ ledger_option ∷ [];
}

abbrev pub follow_of_texts : FollowTexts → Follow
follow_of_texts t = record {
  fares = t.fares;
  zone = t.zone;
  port = node_port t.log;
  partition = number_of t.partition;
  of = number_of t.of;
  ledger = t.ledger;
}

-- the numbers among the words of `follow` are in their ranges
abbrev pub AreFollowNumbers : FollowTexts → Type 0
AreFollowNumbers t = (is_partition t.partition ≡ true) × (is_partitions t.of ≡ true)

-- these parts are two values, in order, and each option once
abbrev pub AreFollowParts : FollowTexts → List Part → Type 0
AreFollowParts t parts = AreParts follow_grammar parts × (plain_words parts ≡ t.fares ∷ t.zone ∷ [])
    × (values_of log_option parts ≡ t.log ∷ []) × (values_of partition_option parts ≡ t.partition ∷ [])
    × (values_of of_option parts ≡ t.of ∷ []) × (values_of ledger_option parts ≡ t.ledger ∷ [])

-- of so many partitions it is one, from 0 on
abbrev pub has_partition : Follow → Bool
has_partition f = nat_lt f.partition f.of

abbrev pub may_follow : Follow → Bool
may_follow f = is_some f.port && has_partition f
