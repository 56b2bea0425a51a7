-- The accounts that a journal gives back, beside what is kept with it.
use Rattle.std.specs.Prelude.{◌≡◌, ◌≢◌, ℕ, Bool, List, Ok, Err, ⊤}
use Rattle.pay_tables.specs.Words.{FareEditions}
use Rattle.pay_fare_file.specs.Words.{fare_text}
use Rattle.pay_shard.specs.Words.{ShardParts}
use Rattle.pay_kept.specs.Text.{kept_text}
use Rattle.pay_kept.specs.Alike.{AreAlike, AreTouched}
use Rattle.pay_kept.specs.declared.fault.KeptFault.{KeptFault}
use Rattle.pay_kept.specs.declared.fault.KeptFault.TheVariants.{OtherZone, Refused, OtherFares, Memory}

-- It is kept with this zone and a fare file, by which each account of a shard comes to the same.
pub record IsAsKept (kept zone : List ℕ) (shard : ShardParts) : Type 0 where
  pub has_ledger : Bool
  pub fares : List ℕ
  pub says : kept ≡ kept_text zone has_ledger fares
  pub old : FareEditions
  pub read : fare_text fares ≡ Ok old
  pub alike : AreAlike shard old

-- why a text is not read as a fare file
abbrev pub IsNotRead : List ℕ → KeptFault → Type 0
IsNotRead fares (Refused why) = fare_text fares ≡ Err why
IsNotRead fares Memory = ⊤
IsNotRead fares _ = ⊥

-- why that is not so, or not looked at for want of memory
abbrev pub IsNotAsKept : (kept zone : List ℕ) → ShardParts → KeptFault → Type 0
IsNotAsKept kept zone shard OtherZone = (has_ledger : Bool) (fares : List ℕ) → kept ≢ kept_text zone has_ledger fares
IsNotAsKept kept zone shard (Refused why) = (has_ledger : Bool) × (fares : List ℕ) × (kept ≡ kept_text zone has_ledger fares) × (fare_text fares ≡ Err why)
IsNotAsKept kept zone shard (OtherFares day key account on) =
    (has_ledger : Bool) × (fares : List ℕ) × (old : FareEditions) × (kept ≡ kept_text zone has_ledger fares) × (fare_text fares ≡ Ok old) × AreTouched shard old (record { day = day; key = key }) account on
IsNotAsKept kept zone shard Memory = ⊤
