-- The node of a replicated log, by its URL.
use Rattle.std.specs.Prelude.{◌≡◌, ◌&&◌, ℕ, drop, length, codes, nat_eq, nat_le, Option, Some, None, if◌then◌else◌, refl}
use Rattle.std.specs.List.{starts_with}
use Rattle.std.specs.Option.{option_and_then}
use Rattle.pay_words.specs.declared.limits.TheConstants.{MOST_PORT}
use Rattle.pay_words.specs.OneWord.{Text, is_port, number_of}

-- what stands behind a front that a text begins with
abbrev pub behind : Text → Text → Option Text
behind front text = if starts_with nat_eq text front then Some (drop (length front) text) else None

-- a number, if it is a port
abbrev pub if_port : ℕ → Option ℕ
if_port number = if nat_le 1 number && nat_le number MOST_PORT then Some number else None

-- the port that a text is, if it is one
abbrev pub port_in : Text → Option ℕ
port_in text = if is_port text then Some (number_of text) else None

-- what the URL of a node begins with, whose port stands behind it
abbrev pub node_front : Text
node_front = codes "nats://127.0.0.1:"

-- the port of the node of this URL, if it is one: `nats://127.0.0.1:PORT`, and nothing else
unfoldable pub node_port : Text → Option ℕ
node_port url = option_and_then port_in (behind node_front url)

-- ---- worked rows

usual : node_port (codes "nats://127.0.0.1:4222") ≡ Some 4_222
unfolding node_port
usual = refl

first_port : node_port (codes "nats://127.0.0.1:1") ≡ Some 1
unfolding node_port
first_port = refl

last_port : node_port (codes "nats://127.0.0.1:65535") ≡ Some 65_535
unfolding node_port
last_port = refl

-- a plus and zeros may stand before a number
plus_and_zeros : node_port (codes "nats://127.0.0.1:+04222") ≡ Some 4_222
unfolding node_port
plus_and_zeros = refl

port_0 : node_port (codes "nats://127.0.0.1:0") ≡ None
unfolding node_port
port_0 = refl

beyond_ports : node_port (codes "nats://127.0.0.1:65536") ≡ None
unfolding node_port
beyond_ports = refl

no_port : node_port (codes "nats://127.0.0.1:") ≡ None
unfolding node_port
no_port = refl

no_colon : node_port (codes "nats://127.0.0.1") ≡ None
unfolding node_port
no_colon = refl

-- nothing stands behind it
with_slash : node_port (codes "nats://127.0.0.1:4222/") ≡ None
unfolding node_port
with_slash = refl

with_space : node_port (codes "nats://127.0.0.1:4222 ") ≡ None
unfolding node_port
with_space = refl

-- no other host is named, and no other scheme
by_name : node_port (codes "nats://localhost:4222") ≡ None
unfolding node_port
by_name = refl

other_host : node_port (codes "nats://127.0.0.10:4222") ≡ None
unfolding node_port
other_host = refl

other_scheme : node_port (codes "tls://127.0.0.1:4222") ≡ None
unfolding node_port
other_scheme = refl

capital : node_port (codes "NATS://127.0.0.1:4222") ≡ None
unfolding node_port
capital = refl

without_scheme : node_port (codes "127.0.0.1:4222") ≡ None
unfolding node_port
without_scheme = refl

port_alone : node_port (codes "4222") ≡ None
unfolding node_port
port_alone = refl

empty : node_port (codes "") ≡ None
unfolding node_port
empty = refl
