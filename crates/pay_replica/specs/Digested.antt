-- What a digest is of: the replies of a partition, each behind its place.
use Rattle.std.specs.Prelude.{◌≡◌, true, false, ℕ, ◌%◌, ◌==◌, nat_le, Bool, if◌then◌else◌, List, [], ◌∷◌, ◌++◌, flat_map, codes, decimal, refl}
use Rattle.std.specs.Fmt.{digits}
use Rattle.sha2.specs.Hashers.{Holds256}
use Rattle.pay_replica.specs.declared.reply_digest.ReplyDigest.{ReplyDigest}
use Rattle.pay_replica.specs.declared.reply_digest.TheConstants.{STRETCH}

-- a reply behind its place
abbrev pub entry_text : ℕ × List ℕ → List ℕ
entry_text entry = decimal entry.0 ++ codes " " ++ entry.1

-- all of them, one after another
abbrev pub entries_text : List (ℕ × List ℕ) → List ℕ
entries_text entries = flat_map entry_text entries

-- the place of the last, or else this
abbrev pub last_place_after : ℕ → List (ℕ × List ℕ) → ℕ
last_place_after place [] = place
last_place_after place (entry ∷ entries) = last_place_after entry.0 entries

-- the place of the last, 0 if there is none
abbrev pub last_place : List (ℕ × List ℕ) → ℕ
last_place entries = last_place_after 0 entries

-- A reply more. One to a place that is not above the last one was heard before.
abbrev pub heard_on : List (ℕ × List ℕ) → ℕ → List ℕ → List (ℕ × List ℕ)
heard_on entries place reply = if nat_le place (last_place entries) then entries else entries ++ (place, reply) ∷ []

-- a digest has taken these into account
abbrev pub HasHeard : ReplyDigest → List (ℕ × List ℕ) → Type 0
HasHeard digest entries = Holds256 digest.hasher (entries_text entries) × (digest.heard ≡ last_place entries)

-- replicas compare their digests at this place
abbrev pub is_due : ℕ → Bool
is_due place = place % STRETCH == 0

-- ---- worked rows

two_replies : entries_text ((7, codes "OK 1\n") ∷ (12, codes "OK 2\n") ∷ []) ≡ codes "7 OK 1\n12 OK 2\n"
unfolding digits
two_replies = refl

next_is_heard : heard_on ((7, codes "OK 1\n") ∷ []) 8 (codes "OK 2\n") ≡ (7, codes "OK 1\n") ∷ (8, codes "OK 2\n") ∷ []
next_is_heard = refl

again_is_not : heard_on ((7, codes "OK 1\n") ∷ []) 7 (codes "OK 1\n") ≡ (7, codes "OK 1\n") ∷ []
again_is_not = refl

at_ten_thousand : is_due 10_000 ≡ true
at_ten_thousand = refl

at_one_thousand : is_due 1_000 ≡ false
at_one_thousand = refl
