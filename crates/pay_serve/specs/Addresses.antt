-- Where a service listens.
use Rattle.std.specs.Prelude.{◌≡◌, [], ◌∷◌}
use Rattle.std.specs.Net.Addr.{ipv4_octets}
use Rattle.std.specs.declared.net.ip_addr.IpAddr.{IpAddr}
use Rattle.std.specs.declared.net.ip_addr.IpAddr.TheVariants.{V4, V6}

-- the address of this host that no other host reaches, 127.0.0.1
abbrev pub IsThisHost : IpAddr → Type 0
IsThisHost (V4 ip) = ipv4_octets ip ≡ 127 ∷ 0 ∷ 0 ∷ 1 ∷ []
IsThisHost (V6 ip) = ⊥
