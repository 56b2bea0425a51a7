-- Worked rows of what is read: texts as nats-server 2.10.27 sent them, and such as it never does.
use Rattle.std.specs.Prelude.{◌≡◌, [], ◌∷◌, true, false, Some, None, Ok, Err, codes, refl}
use Rattle.std.specs.Fmt.{digits}
use Rattle.std.specs.Str.{chars, is_utf8}
use Rattle.serde_json.proofs.OnLiterals.{serde_json_on_literals}
use Rattle.pay_jetstream_api.specs.Answers.{place_of, server_of, stream_of, taken_of}
use Rattle.pay_jetstream_api.specs.Finding.{is_said, number_at, text_at}
use Rattle.pay_jetstream_api.specs.StreamNumbers.{numbers_in}
use Rattle.pay_jetstream_api.specs.Versions.{parted, version_of}
use Rattle.pay_jetstream_api.specs.declared.fault.ApiFault.TheVariants.{NotUnderstood, Refused}

-- ---- places

place : place_of (codes "{\"stream\":\"FARES_0\", \"seq\":3}") ≡ Ok 3
unfolding serde_json_on_literals chars is_utf8 number_at
place = refl

place_of_a_repeat : place_of (codes "{\"stream\":\"FARES_0\",\"seq\":3,\"duplicate\":true}") ≡ Ok 3
unfolding serde_json_on_literals chars is_utf8 number_at
place_of_a_repeat = refl

second_of_a_subject : place_of (codes "{\"error\":{\"code\":503,\"err_code\":10077,\"description\":\"maximum messages per subject exceeded\"},\"stream\":\"FARES_DIGESTS\",\"seq\":0}") ≡ Err (Refused 10_077)
unfolding serde_json_on_literals chars is_utf8 number_at
second_of_a_subject = refl

no_place : place_of (codes "{\"stream\":\"FARES_0\"}") ≡ Err NotUnderstood
unfolding serde_json_on_literals chars is_utf8 number_at
no_place = refl

-- ---- any answer

error_without_a_code : taken_of (codes "{\"error\":{\"code\":503}}") ≡ Err (Refused 0)
unfolding serde_json_on_literals chars is_utf8 number_at
error_without_a_code = refl

no_object : taken_of (codes "[\"error\"]") ≡ Err NotUnderstood
unfolding serde_json_on_literals chars is_utf8 number_at
no_object = refl

no_json : taken_of (codes "+OK") ≡ Err NotUnderstood
unfolding serde_json_on_literals chars is_utf8 number_at
no_json = refl

no_text : taken_of (123 ∷ 34 ∷ 255 ∷ 34 ∷ 58 ∷ 49 ∷ 125 ∷ []) ≡ Err NotUnderstood
unfolding serde_json_on_literals chars is_utf8 number_at
no_text = refl

-- ---- servers

server : server_of (codes "{\"server_name\":\"e1\",\"version\":\"2.10.27\",\"headers\":true,\"max_payload\":1048576,\"jetstream\":true} ")
    ≡ Ok (record { major = 2; minor = 10; has_headers = true; has_jetstream = true })
unfolding serde_json_on_literals chars is_utf8 text_at is_said version_of parted digits
server = refl

without_jetstream : server_of (codes "{\"version\":\"2.11.0-beta.1\",\"headers\":true}")
    ≡ Ok (record { major = 2; minor = 11; has_headers = true; has_jetstream = false })
unfolding serde_json_on_literals chars is_utf8 text_at is_said version_of parted digits
without_jetstream = refl

-- ---- streams

stream : stream_of (codes "{\"config\":{\"name\":\"FARES_0\",\"description\":\"farebox x\",\"subjects\":[\"fares.0\"],\"max_msgs\":-1,\"num_replicas\":1},\"state\":{\"messages\":3,\"first_seq\":1,\"last_seq\":3},\"cluster\":{\"leader\":\"e1\"}}")
    ≡ Ok (record { description = codes "farebox x"; first = 1; last = 3; replicas = 1; leader = Some (codes "e1") })
unfolding serde_json_on_literals chars is_utf8 number_at text_at numbers_in
stream = refl

no_description_and_no_leader : stream_of (codes "{\"config\":{\"num_replicas\":3},\"state\":{\"first_seq\":0,\"last_seq\":0}}")
    ≡ Ok (record { description = []; first = 0; last = 0; replicas = 3; leader = None })
unfolding serde_json_on_literals chars is_utf8 number_at text_at numbers_in
no_description_and_no_leader = refl

no_such_stream : stream_of (codes "{\"type\":\"io.nats.jetstream.api.v1.stream_info_response\",\"error\":{\"code\":404,\"err_code\":10059,\"description\":\"stream not found\"},\"total\":0,\"offset\":0,\"limit\":0}")
    ≡ Err (Refused 10_059)
unfolding serde_json_on_literals chars is_utf8 number_at text_at numbers_in
no_such_stream = refl
