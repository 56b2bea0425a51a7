-- What a batch holds: a quote and the sets of each of its accounts.
use Rattle.std.specs.Prelude.{ℕ, if◌then◌else◌, List, [], ◌∷◌, ◌++◌, map, refl}
use Rattle.std.specs.Coded.{Coded, code_by, coded×, coded_list}
use Rattle.pay_tables.specs.Words.{FareEditions}
use Rattle.pay_rules.specs.Accepted.{Accepted}
use Rattle.pay_rules.specs.QuoteParts.{QuoteParts, quote_code}
use Rattle.pay_rules.specs.Quotes.{quote}
use Rattle.pay_rules.specs.SetsParts.{SetsParts, sets_code, sets}
use Rattle.pay_rules.specs.State.{State, accepted_of}
use Rattle.pay_shard.specs.Selection.{is_of, is_quoted, quoted}

pub record BatchParts : Type 0 where
  pub quotes : List QuoteParts
  pub sets : List SetsParts

-- it is stored as the pair of the two
abbrev pub batch_code : Coded BatchParts
batch_code = code_by (List QuoteParts × List SetsParts) (coded× (coded_list quote_code) (coded_list sets_code)) (λ b. (b.quotes, b.sets)) (λ p. record { quotes = p.0; sets = p.1 }) (λ _. refl)

-- of these accounts, in their order
abbrev pub batch_of : FareEditions → ℕ → List (ℕ × Accepted) → BatchParts
batch_of editions through list = record {
  quotes = map (λ (e : ℕ × Accepted). quote editions e.0 e.1 through) list;
  sets = map (λ (e : ℕ × Accepted). sets e.0 e.1) list;
}

-- of the accounts of a shard that are quoted through a day
abbrev pub batch : FareEditions → State → ℕ → ℕ → ℕ → BatchParts
batch editions state through shard of = batch_of editions through (quoted state through shard of)

-- a batch with one account more, if it is quoted
unfoldable pub batch_if_quoted : FareEditions → ℕ → BatchParts → ℕ → Accepted → BatchParts
batch_if_quoted editions through b account accepted = if is_quoted through (sets account accepted) then record { quotes = b.quotes ++ quote editions account accepted through ∷ []; sets = b.sets ++ sets account accepted ∷ [] } else b

-- and if it is the shard's
abbrev pub batch_with : FareEditions → State → (through_shard_of : ℕ × ℕ × ℕ) → BatchParts → ℕ → BatchParts
batch_with editions state (through, shard, of) b account = if is_of shard of account then batch_if_quoted editions through b account (accepted_of state account) else b
