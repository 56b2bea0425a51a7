-- What is so of all clerks, and of everyone who is found.
use Rattle.std.specs.Prelude.{◌≡◌, ◌≢◌, ℕ, List, Some, None, Ok, All, AllPairs, Contains, decimal}
use Rattle.sha2.specs.Sha256.{sha256}
use Rattle.pay_clerks.specs.Clerks.{ClerkOf}
use Rattle.pay_clerks.specs.Credentials.{credentials_of}
use Rattle.pay_clerks.specs.Files.{clerks_of_text}
use Rattle.pay_clerks.specs.Found.{clerk_of}

-- whoever is found is a clerk, and the value has the clerk's own number and own secret
abbrev pub FoundByBoth : Type 0
FoundByBoth = (clerks : List ClerkOf) (value : List ℕ) (clerk : ClerkOf) → clerk_of clerks value ≡ Some clerk
    → Contains clerks clerk × ((secret : List ℕ) × (credentials_of value ≡ Some (decimal clerk.staff, secret)) × (sha256 secret ≡ clerk.secret))

-- a secret whose digest no clerk has finds nobody
abbrev pub StrangersAreNobody : Type 0
StrangersAreNobody = (clerks : List ClerkOf) (value staff secret : List ℕ) → credentials_of value ≡ Some (staff, secret)
    → All (λ clerk. clerk.secret ≢ sha256 secret) clerks → clerk_of clerks value ≡ None

-- no two clerks of a file have one number
abbrev pub NumbersDiffer : Type 0
NumbersDiffer = (text : List ℕ) (clerks : List ClerkOf) → clerks_of_text text ≡ Ok clerks → AllPairs (λ one other. one.staff ≢ other.staff) clerks
