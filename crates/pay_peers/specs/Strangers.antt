-- The lines that show that a peer speaks another protocol.
use Rattle.std.specs.Prelude.{◌≡◌, ℕ, ◌&&◌, ◌||◌, not, nat_eq, Bool, true, false, List, [], codes, refl}
use Rattle.std.specs.List.{starts_with}

-- a reply says that its line is no command: 50 BadLine or 51 LongLine
unfoldable pub is_no_command : List ℕ → Bool
is_no_command reply = starts_with nat_eq reply (codes "NO 50 ") || starts_with nat_eq reply (codes "NO 51 ")

-- a line begins as a request of HTTP does, by its method
unfoldable pub is_http : List ℕ → Bool
is_http line =
    starts_with nat_eq line (codes "GET ") || starts_with nat_eq line (codes "POST ") || starts_with nat_eq line (codes "PUT ")
    || starts_with nat_eq line (codes "HEAD ") || starts_with nat_eq line (codes "OPTIONS ") || starts_with nat_eq line (codes "DELETE ")
    || starts_with nat_eq line (codes "PATCH ") || starts_with nat_eq line (codes "CONNECT ") || starts_with nat_eq line (codes "TRACE ")

-- A line and its reply show it: it is no command, and is the first that was answered, or is of HTTP.
unfoldable pub is_strange : Bool → List ℕ → List ℕ → Bool
is_strange known line reply = is_no_command reply && (not known || is_http line)

-- ---- worked rows

request : is_strange true (codes "POST / HTTP/1.1") (codes "NO 50 BadLine\n") ≡ true
unfolding is_strange is_no_command is_http
request = refl

-- a long one
long : is_strange true (codes "GET /a/long/path") (codes "NO 51 LongLine\n") ≡ true
unfolding is_strange is_no_command is_http
long = refl

-- a line of a known peer that is no command, as one with a lower case letter, or without the space
misspelt : is_strange true (codes "get /") (codes "NO 50 BadLine\n") ≡ false
unfolding is_strange is_no_command is_http
misspelt = refl

unspaced : is_strange true (codes "GETS") (codes "NO 50 BadLine\n") ≡ false
unfolding is_strange is_no_command is_http
unspaced = refl

-- as the first line
first : is_strange false (codes "get /") (codes "NO 50 BadLine\n") ≡ true
unfolding is_strange is_no_command is_http
first = refl

-- no reply, as to a line that has not ended, or any other
begun : is_strange false (codes "GET /") [] ≡ false
unfolding is_strange is_no_command is_http
begun = refl

answered : is_strange false (codes "TAP 1 4 7 1704696200 50 BUS") (codes "NO 20 Conflict\n") ≡ false
unfolding is_strange is_no_command is_http
answered = refl
