-- A stream, as whoever follows it has it.
use Rattle.std.specs.Prelude.{◌≡◌, ℕ, Bool, false, List, [], ◌∷◌, ◌++◌, Option, None, codes, decimal, refl}
use Rattle.std.specs.Coded.{Coded, code_by, coded×, coded_ℕ, coded_list, coded_option}
use Rattle.std.specs.Fmt.{digits}
use Rattle.pay_follow.specs.Words.{PartitionParts}
use Rattle.pay_nats.specs.Requests.{Asked, Publish, request_bytes}
use Rattle.pay_jetstream.specs.Taken.{HasTakenFrames}
use Rattle.pay_jetstream.specs.declared.published.Published.{Published, fold-Published}
use Rattle.pay_jetstream.specs.declared.published.Published.TheOpen.{Published-F}

-- the number of the subscription; how the subjects of replies begin; what the server sends, and what was written to it, if they are known;
-- the last place that was read; and what was published
pub record StreamParts : Type 0 where
  pub sid : ℕ
  pub answers : List ℕ
  pub sent : Option (List ℕ)
  pub written : Option (List ℕ)
  pub last : ℕ
  pub published : List (ℕ × List ℕ)

abbrev pub stream_code : Coded StreamParts
stream_code =
    code_by (ℕ × (List ℕ × (Option (List ℕ) × (Option (List ℕ) × (ℕ × List (ℕ × List ℕ))))))
    (coded× coded_ℕ (coded× (coded_list coded_ℕ) (coded× (coded_option (coded_list coded_ℕ)) (coded× (coded_option (coded_list coded_ℕ)) (coded× coded_ℕ (coded_list (coded× coded_ℕ (coded_list coded_ℕ))))))))
    (λ s. (s.sid, (s.answers, (s.sent, (s.written, (s.last, s.published))))))
    (λ p. record { sid = p.0; answers = p.1.0; sent = p.1.1.0; written = p.1.1.1.0; last = p.1.1.1.1.0; published = p.1.1.1.1.1 }) (λ _. refl)

-- all that was published
abbrev pub published_step : Published-F (List (ℕ × List ℕ)) → List (ℕ × List ℕ)
published_step Published-F.None = []
published_step (Published-F.Then earlier place reply) = earlier.value ++ (place.value, reply.value.items) ∷ []

abbrev pub all_published : Published → List (ℕ × List ℕ)
all_published = fold-Published (List (ℕ × List ℕ)) published_step

-- by which a line stands at a place
abbrev pub origin_of : StreamParts → ℕ × Option (List ℕ)
origin_of s = (s.sid, s.sent)

-- as a partition of a log
abbrev pub partition_of : StreamParts → PartitionParts
partition_of s = record { last = s.last; published = s.published }

-- until something failed whole frames alone were taken
abbrev pub IsUnderway : Bool → Option (List ℕ) → Option (List ℕ) → Type 0
IsUnderway failed began now = failed ≡ false → HasTakenFrames began now

-- what a stream is by while it is read: all but what was written and the last place
abbrev pub IsSameStream : StreamParts → StreamParts → Type 0
IsSameStream before after = (after.sid ≡ before.sid) × (after.answers ≡ before.answers) × (after.sent ≡ before.sent) × (after.published ≡ before.published)

-- the publication of the reply to the line at a place
abbrev pub reply_at : List ℕ → ℕ → List ℕ → Asked
reply_at answers place reply = Publish (record { subject = answers ++ decimal place; reply = None; headers = None; payload = reply })

-- ---- worked rows

seventeenth : request_bytes (reply_at (codes "answers.3.") 17 (codes "BYE\n")) ≡ codes "PUB answers.3.17 4\r\nBYE\n\r\n"
unfolding digits
seventeenth = refl
