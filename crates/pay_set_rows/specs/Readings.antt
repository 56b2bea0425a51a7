-- What it is to read an archive by a definition, or to refuse it.
use Rattle.std.specs.Prelude.{◌≡◌, ◌≢◌, Option, Some, None, Result, MatchResult}
use Rattle.pay_rules.specs.declared.post_fault.PostFault.{PostFault}
use Rattle.pay_rules.specs.declared.post_fault.PostFault.TheVariants.{BadArchive, Memory}

-- an archive of which a definition gives nothing is refused as a bad one, and any other for want of memory alone
abbrev pub IsRefusedAsBad : {X : Type 0} → Option X → PostFault → Type 0
IsRefusedAsBad given fault = fault ≢ Memory → (fault ≡ BadArchive) × (given ≡ None)

-- what is read of an archive is what a definition gives, or it is refused so
abbrev pub IsReadAs : {X : Type 0} → Result X PostFault → Option X → Type 0
IsReadAs result given = MatchResult result (λ x. given ≡ Some x) (IsRefusedAsBad given)
