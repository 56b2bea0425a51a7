-- Who posts a form.
use Rattle.std.specs.Prelude.{◌≡◌, ◌||◌, ◌++◌, ℕ, Bool, false, not, List, codes, decimal, bytes_eq, Option, Some, None, Result, Ok, Err, if◌then◌else◌}
use Rattle.pay_wire.specs.Fields.{◌>>=◌}
use Rattle.std.specs.String.{string_bytes}
use Rattle.http.specs.declared.request.Parts.{Parts}
use Rattle.http_header.specs.FieldValue.{FieldValue}
use Rattle.http_header.specs.HeaderMap.{get}
use Rattle.pay_clerks.specs.Words.{ClerkOf, clerk_of}
use Rattle.pay_web.specs.declared.gate.Stranger.{Stranger}
use Rattle.pay_web.specs.declared.gate.Stranger.TheVariants.{Foreign, OtherType, Nobody}
use Rattle.pay_web.specs.declared.hosts.Hosts.{Hosts}

-- the names of a port of this machine, and the origins of pages there
pub record IsAtPort (port : ℕ) (hosts : Hosts) : Type 0 where
  pub number : string_bytes hosts.number ≡ codes "127.0.0.1:" ++ decimal port
  pub name : string_bytes hosts.name ≡ codes "localhost:" ++ decimal port
  pub number_origin : string_bytes hosts.number_origin ≡ codes "http://127.0.0.1:" ++ decimal port
  pub name_origin : string_bytes hosts.name_origin ≡ codes "http://localhost:" ++ decimal port

-- a page of one of the hosts
abbrev pub is_origin : Hosts → List ℕ → Bool
is_origin hosts origin = bytes_eq origin (string_bytes hosts.number_origin) || bytes_eq origin (string_bytes hosts.name_origin)

abbrev pub is_origin_value : Hosts → Option FieldValue → Bool
is_origin_value hosts (Some value) = is_origin hosts value.bytes
is_origin_value hosts None = false

-- a request comes from such a page by its field Origin
abbrev pub is_from : Hosts → Parts → Bool
is_from hosts head = is_origin_value hosts (get head.headers (codes "origin"))

abbrev pub is_form_value : Option FieldValue → Bool
is_form_value (Some value) = bytes_eq value.bytes (codes "application/x-www-form-urlencoded")
is_form_value None = false

-- its body is that of a form
abbrev pub is_form : Parts → Bool
is_form head = is_form_value (get head.headers (codes "content-type"))

-- the clerk whose number and secret the field Authorization has
abbrev pub clerk_by_secret : List ClerkOf → Parts → Option ClerkOf
clerk_by_secret clerks head = do
  value ← get head.headers (codes "authorization")
  clerk_of clerks value.bytes

abbrev pub clerk_or_nobody : Option ClerkOf → Result ClerkOf Stranger
clerk_or_nobody (Some clerk) = Ok clerk
clerk_or_nobody None = Err Nobody

-- the clerk who posts a form: it comes from a page of this site, is a form, and has a clerk's number and secret
abbrev pub clerk_at : Hosts → List ClerkOf → Parts → Result ClerkOf Stranger
clerk_at hosts clerks head =
    if not (is_from hosts head) then Err Foreign
    else if not (is_form head) then Err OtherType
    else clerk_or_nobody (clerk_by_secret clerks head)
