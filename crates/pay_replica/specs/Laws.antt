-- What descriptions tell.
use Rattle.std.specs.Prelude.{◌≡◌, ◌<◌, ◌^◌, ℕ, List}
use Rattle.sha2.specs.Sha256.{sha256}
use Rattle.pay_replica.specs.Descriptions.{described, hex_digest}

-- Streams that say the same of themselves are of one partition of as many, and the digests of their fare files and of their zones are the
-- same.
abbrev pub DescriptionsTell : Type 0
DescriptionsTell = (partition of partition' of' : ℕ) (fares zone fares' zone' : List ℕ) → partition < 2 ^ 64 → of < 2 ^ 64 → partition' < 2 ^ 64 → of' < 2 ^ 64
    → described partition of (hex_digest fares) (hex_digest zone) ≡ described partition' of' (hex_digest fares') (hex_digest zone')
    → (partition ≡ partition') × (of ≡ of') × (sha256 fares ≡ sha256 fares') × (sha256 zone ≡ sha256 zone')
