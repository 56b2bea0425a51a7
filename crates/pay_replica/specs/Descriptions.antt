-- What the streams of a log are called, and what they say of themselves.
use Rattle.std.specs.Prelude.{◌≡◌, ℕ, List, ◌++◌, codes, decimal, refl}
use Rattle.std.specs.Fmt.{digits}
use Rattle.hex.specs.Hex.{encode_lower}
use Rattle.sha2.specs.Sha256.{sha256}
use Rattle.pay_replica.specs.declared.describing.LogPlan.{LogPlan}

-- the SHA-256 of a text, in hexadecimal digits
abbrev pub hex_digest : List ℕ → List ℕ
hex_digest text = encode_lower (sha256 text)

-- a partition, of how many, and two digests, in words
abbrev pub described : ℕ → ℕ → List ℕ → List ℕ → List ℕ
described partition of fares zone =
    codes "farebox partition " ++ decimal partition ++ codes " of " ++ decimal of ++ codes ", fares " ++ fares ++ codes ", zone " ++ zone

-- what the stream of a partition says of itself
abbrev pub description : LogPlan → ℕ → List ℕ
description plan partition = described partition plan.of (hex_digest plan.fares.now) (hex_digest plan.zone.now)

-- the stream of a partition
abbrev pub stream_name : ℕ → List ℕ
stream_name partition = codes "FARES_" ++ decimal partition

-- the subject of its lines
abbrev pub subject_of : ℕ → List ℕ
subject_of partition = codes "fares." ++ decimal partition

-- how the subjects of its answers begin
abbrev pub answers_of : ℕ → List ℕ
answers_of partition = codes "answers." ++ decimal partition ++ codes "."

-- the subject of a digest
abbrev pub digests_subject : ℕ → ℕ → List ℕ
digests_subject partition place = codes "digests." ++ decimal partition ++ codes "." ++ decimal place

-- a subject of the connection for which this number was drawn
abbrev pub inbox_of : ℕ → List ℕ → List ℕ
inbox_of drawn end = codes "_INBOX.farebox-" ++ decimal drawn ++ end

-- ---- worked rows

second_of_three : described 1 3 (codes "00ff") (codes "a0") ≡ codes "farebox partition 1 of 3, fares 00ff, zone a0"
unfolding digits
second_of_three = refl

eleventh : stream_name 10 ≡ codes "FARES_10"
unfolding digits
eleventh = refl

its_lines : subject_of 10 ≡ codes "fares.10"
unfolding digits
its_lines = refl

its_answers : answers_of 10 ≡ codes "answers.10."
unfolding digits
its_answers = refl

its_digest : digests_subject 10 20_000 ≡ codes "digests.10.20000"
unfolding digits
its_digest = refl

its_inbox : inbox_of 77 (codes ".lines") ≡ codes "_INBOX.farebox-77.lines"
unfolding digits
its_inbox = refl
