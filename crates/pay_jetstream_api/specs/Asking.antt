-- What a client writes, as JSON.
use Rattle.std.specs.Prelude.{ℕ, ◌≡◌, true, false, List, [], ◌∷◌, Some, codes, refl}
use Rattle.std.specs.Fmt.{digits}
use Rattle.serde_json.proofs.OnLiterals.{serde_json_on_literals}
use Rattle.json.specs.Print.{escape_byte}
use Rattle.serde_json.specs.Data.{Data, boolean, unsigned, number, string, array, object, item, no_items, Members, no_members, member}
use Rattle.serde_json.specs.Read.{read}
use Rattle.serde_json.specs.Written.{compact_text}
use Rattle.pay_jetstream_api.specs.declared.asking.TheConstants.{CONNECT_OPTIONS}
use Rattle.pay_jetstream_api.specs.declared.asking.StreamPlan.{StreamPlan}

-- a whole number
abbrev pub whole : ℕ → Data
whole n = number (unsigned n)

-- fields, each a name and a value, in the order of their names
abbrev pub fields : List (List ℕ × Data) → Members
fields [] = no_members
fields (one ∷ list) = member one.0 one.1 (fields list)

-- a stream that is to be made, without where its texts lie in memory
pub record PlanOf : Type 0 where
  pub name : List ℕ
  pub subject : List ℕ
  pub description : List ℕ
  pub replicas : ℕ

abbrev pub plan_of : StreamPlan → PlanOf
plan_of it = record { name = it.name.now; subject = it.subject.now; description = it.description.now; replicas = it.replicas }

-- a stream of which no message is taken out, and which refuses one rather than forget another
abbrev pub stream_value : PlanOf → Data
stream_value plan =
    object (fields (
    (codes "allow_direct", boolean true)
    ∷ (codes "deny_delete", boolean true)
    ∷ (codes "deny_purge", boolean true)
    ∷ (codes "description", string plan.description)
    ∷ (codes "discard", string (codes "new"))
    ∷ (codes "name", string plan.name)
    ∷ (codes "num_replicas", whole plan.replicas)
    ∷ (codes "retention", string (codes "limits"))
    ∷ (codes "storage", string (codes "file"))
    ∷ (codes "subjects", array (item (string plan.subject) no_items))
    ∷ []))

-- such a stream that takes one message of each subject, and refuses a second
abbrev pub digests_value : List ℕ → List ℕ → ℕ → Data
digests_value name subject replicas =
    object (fields (
    (codes "allow_direct", boolean true)
    ∷ (codes "deny_delete", boolean true)
    ∷ (codes "deny_purge", boolean true)
    ∷ (codes "discard", string (codes "new"))
    ∷ (codes "discard_new_per_subject", boolean true)
    ∷ (codes "max_msgs_per_subject", whole 1)
    ∷ (codes "name", string name)
    ∷ (codes "num_replicas", whole replicas)
    ∷ (codes "retention", string (codes "limits"))
    ∷ (codes "storage", string (codes "file"))
    ∷ (codes "subjects", array (item (string subject) no_items))
    ∷ []))

-- a consumer that sends a subject the messages of a stream from a place on, each once, and a sign of life each second
abbrev pub consumer_config : List ℕ → ℕ → Data
consumer_config deliver place =
    object (fields (
    (codes "ack_policy", string (codes "none"))
    ∷ (codes "deliver_policy", string (codes "by_start_sequence"))
    ∷ (codes "deliver_subject", string deliver)
    ∷ (codes "flow_control", boolean true)
    ∷ (codes "idle_heartbeat", whole 1_000_000_000)
    ∷ (codes "max_deliver", whole 1)
    ∷ (codes "mem_storage", boolean true)
    ∷ (codes "num_replicas", whole 1)
    ∷ (codes "opt_start_seq", whole place)
    ∷ []))

abbrev pub consumer_value : List ℕ → List ℕ → ℕ → Data
consumer_value stream deliver place = object (fields ((codes "config", consumer_config deliver place) ∷ (codes "stream_name", string stream) ∷ []))

-- the last message of a subject
abbrev pub last_value : List ℕ → Data
last_value subject = object (fields ((codes "last_by_subj", string subject) ∷ []))

-- ---- worked rows: what nats-server 2.10.27 takes

a_stream : compact_text (stream_value (record { name = codes "FARES_0"; subject = codes "fares.0"; description = codes "the \"first\""; replicas = 3 }))
    ≡ codes "{\"allow_direct\":true,\"deny_delete\":true,\"deny_purge\":true,\"description\":\"the \\\"first\\\"\",\"discard\":\"new\",\"name\":\"FARES_0\",\"num_replicas\":3,\"retention\":\"limits\",\"storage\":\"file\",\"subjects\":[\"fares.0\"]}"
unfolding digits escape_byte
a_stream = refl

digests : compact_text (digests_value (codes "FARES_DIGESTS") (codes "digests.>") 1)
    ≡ codes "{\"allow_direct\":true,\"deny_delete\":true,\"deny_purge\":true,\"discard\":\"new\",\"discard_new_per_subject\":true,\"max_msgs_per_subject\":1,\"name\":\"FARES_DIGESTS\",\"num_replicas\":1,\"retention\":\"limits\",\"storage\":\"file\",\"subjects\":[\"digests.>\"]}"
unfolding digits escape_byte
digests = refl

a_consumer : compact_text (consumer_value (codes "FARES_0") (codes "d.0") 2)
    ≡ codes "{\"config\":{\"ack_policy\":\"none\",\"deliver_policy\":\"by_start_sequence\",\"deliver_subject\":\"d.0\",\"flow_control\":true,\"idle_heartbeat\":1000000000,\"max_deliver\":1,\"mem_storage\":true,\"num_replicas\":1,\"opt_start_seq\":2},\"stream_name\":\"FARES_0\"}"
unfolding digits escape_byte
a_consumer = refl

the_last : compact_text (last_value (codes "digests.0.10000")) ≡ codes "{\"last_by_subj\":\"digests.0.10000\"}"
unfolding escape_byte
the_last = refl

-- ---- what a client says of itself, as a value

options : read CONNECT_OPTIONS.now
    ≡ Some (object (fields (
    (codes "headers", boolean true)
    ∷ (codes "lang", string (codes "rattle"))
    ∷ (codes "name", string (codes "farebox"))
    ∷ (codes "no_responders", boolean true)
    ∷ (codes "pedantic", boolean false)
    ∷ (codes "protocol", whole 1)
    ∷ (codes "verbose", boolean false)
    ∷ (codes "version", string (codes "0"))
    ∷ [])))
unfolding serde_json_on_literals
options = refl
