-- The clerk whose number and secret a browser sends.
use Rattle.std.specs.Prelude.{ℕ, ◌&&◌, Bool, List, Option, decimal, find, option_map}
use Rattle.std.specs.Option.{option_and_then}
use Rattle.std.specs.Str.{bytes_eq}
use Rattle.sha2.specs.Sha256.{sha256}
use Rattle.pay_clerks.specs.Clerks.{ClerkOf}
use Rattle.pay_clerks.specs.Credentials.{credentials_of}

-- a clerk has the number whose decimal digits a text is, and the secret of this digest
abbrev pub is_clerk : List ℕ → List ℕ → ClerkOf → Bool
is_clerk staff digest clerk = bytes_eq staff (decimal clerk.staff) && bytes_eq digest clerk.secret

-- the clerk of the value of a field: of the number and of the secret there, by its SHA-256
abbrev pub clerk_of : List ClerkOf → List ℕ → Option ClerkOf
clerk_of clerks value = option_and_then (λ (it : List ℕ × List ℕ). find (is_clerk it.0 (sha256 it.1)) clerks) (credentials_of value)

-- a text is the number of a clerk
abbrev pub has_number : List ℕ → ClerkOf → Bool
has_number staff clerk = bytes_eq staff (decimal clerk.staff)

-- the number of the clerk whom the value of a field names, whatever its secret
abbrev pub staff_named : List ClerkOf → List ℕ → Option ℕ
staff_named clerks value =
    option_map (λ (clerk : ClerkOf). clerk.staff) (option_and_then (λ (it : List ℕ × List ℕ). find (has_number it.0) clerks) (credentials_of value))
