-- Worked rows of what is read: bytes as nats-server 2.9.10 sent them, and such as it never does.
use Rattle.std.specs.Prelude.{◌≡◌, [], Some, None, Ok, Err, codes, refl}
use Rattle.std.specs.Fmt.{digits}
use Rattle.pay_nats.specs.AckReading.{ack_at, ack_in, counts_of, number_before}
use Rattle.pay_nats.specs.Frames.{Fault, Info, Message, Ping}
use Rattle.pay_nats.specs.HeaderReading.{field_at, field_in, status_at}
use Rattle.pay_nats.specs.Parts.{parted}
use Rattle.pay_nats.specs.Reading.{first_line, frame_at, headed_words, meaning_of_word, meaning_of_words, message_at, message_words, verb_of}
use Rattle.pay_nats.specs.declared.frame.FrameFault.TheVariants.{Line, LongPayload, Unended}

-- ---- frames

ping_and_more : frame_at (codes "PING\r\nMSG") ≡ Ok (Some (Ping, 6))
unfolding first_line parted meaning_of_word
ping_and_more = refl

info : frame_at (codes "INFO {\"headers\":true} \r\n") ≡ Ok (Some (Info (codes "{\"headers\":true} "), 24))
unfolding first_line parted verb_of
info = refl

refusal : frame_at (codes "-ERR 'Stale Connection'\r\n") ≡ Ok (Some (Fault (codes "'Stale Connection'"), 25))
unfolding first_line parted verb_of
refusal = refl

message : frame_at (codes "MSG a 1 5\r\nhello\r\nPING\r\n") ≡ Ok (Some (Message (record { subject = codes "a"; sid = 1; reply = None }) None (codes "hello"), 18))
unfolding first_line parted verb_of message_words meaning_of_words message_at digits
message = refl

flow_control : frame_at (codes "HMSG d.0 2 $JS.FC.FARES_0.xZZJyTEe.qW8T 36 36\r\nNATS/1.0 100 FlowControl Request\r\n\r\n\r\n")
    ≡ Ok (Some (Message (record { subject = codes "d.0"; sid = 2; reply = Some (codes "$JS.FC.FARES_0.xZZJyTEe.qW8T") }) (Some (codes "NATS/1.0 100 FlowControl Request\r\n\r\n")) [], 85))
unfolding first_line parted verb_of headed_words meaning_of_words message_at digits
flow_control = refl

frame_in_a_payload : frame_at (codes "MSG a 1 6\r\nPING\r\n\r\n") ≡ Ok (Some (Message (record { subject = codes "a"; sid = 1; reply = None }) None (codes "PING\r\n"), 19))
unfolding first_line parted verb_of message_words meaning_of_words message_at digits
frame_in_a_payload = refl

cut_in_the_line : frame_at (codes "MSG a 1 5\r") ≡ Ok None
unfolding first_line
cut_in_the_line = refl

cut_in_the_payload : frame_at (codes "MSG a 1 5\r\nhello\r") ≡ Ok None
unfolding first_line parted verb_of message_words meaning_of_words message_at digits
cut_in_the_payload = refl

payload_that_goes_on : frame_at (codes "MSG a 1 5\r\nhello!\r\n") ≡ Err Unended
unfolding first_line parted verb_of message_words meaning_of_words message_at digits
payload_that_goes_on = refl

payload_past_the_most : frame_at (codes "MSG a 1 1048577\r\n") ≡ Err LongPayload
unfolding first_line parted verb_of message_words meaning_of_words message_at digits
payload_past_the_most = refl

more_headers_than_bytes : frame_at (codes "HMSG a 1 9 8\r\n") ≡ Err Line
unfolding first_line parted verb_of headed_words meaning_of_words digits
more_headers_than_bytes = refl

two_spaces : frame_at (codes "MSG a  1 5\r\n") ≡ Err Line
unfolding first_line parted verb_of message_words meaning_of_words digits
two_spaces = refl

leading_zero : frame_at (codes "MSG a 1 05\r\n") ≡ Err Line
unfolding first_line parted verb_of message_words meaning_of_words digits
leading_zero = refl

small_letters : frame_at (codes "ping\r\n") ≡ Err Line
unfolding first_line parted meaning_of_word
small_letters = refl

newline_alone : frame_at (codes "PING\n") ≡ Err Line
unfolding first_line
newline_alone = refl

-- ---- subjects and headers

place : ack_at (codes "$JS.ACK.FARES_0.oaK71Pl4.1.7.3.1795784087968560486.9")
    ≡ Some (record { stream = codes "FARES_0"; consumer = codes "oaK71Pl4"; delivered = 1; place = 7; consumer_place = 3; time = 1_795_784_087_968_560_486; pending = 9 })
unfolding parted ack_in counts_of number_before digits
place = refl

flow_control_is_no_place : ack_at (codes "$JS.FC.FARES_0.xZZJyTEe.qW8T") ≡ None
flow_control_is_no_place = refl

status : status_at (codes "NATS/1.0 100 Idle Heartbeat\r\nNats-Last-Consumer: 2\r\n\r\n") ≡ Some (codes "100 Idle Heartbeat")
unfolding parted status_at
status = refl

no_status : status_at (codes "NATS/1.0\r\nNats-Msg-Id: gate-17:1\r\n\r\n") ≡ None
unfolding parted status_at
no_status = refl

value_with_a_colon : field_at (codes "NATS/1.0\r\nNats-Msg-Id: gate-17:1\r\n\r\n") (codes "Nats-Msg-Id") ≡ Some (record { name = codes "Nats-Msg-Id"; value = codes "gate-17:1" })
unfolding parted field_at field_in
value_with_a_colon = refl
