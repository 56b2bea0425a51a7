-- Words for the crates above: what a client writes, what a server sends and why a fault comes, and what subjects and headers say.
pub use Rattle.pay_nats.specs.Acks.{AckOf, IsAck, ack_subject, acked}
pub use Rattle.pay_nats.specs.Faults.{Because, HasLongLine, HasLongPayload, HasMessage, HasNoEnd, HasStrangeLine}
pub use Rattle.pay_nats.specs.Frames.{Address, IsAddress, IsFrame, StandsAt, Told, frame_bytes, frame_line}
pub use Rattle.pay_nats.specs.Headers.{AreHeaders, FieldOf, HasField, HasStatus, HeadersOf, IsField, field_of, headers_bytes, value_in}
pub use Rattle.pay_nats.specs.Laws.{FaultsStay, FramesAreToldApart, LinesTellLengths, NoFrameBegins, RequestsAreToldApart, StreamsAreReadInOneWay}
pub use Rattle.pay_nats.specs.Requests.{Asked, IsPublished, IsRequest, Published, asked, published, request_bytes}
pub use Rattle.pay_nats.specs.Seen.{seen, told}
pub use Rattle.pay_nats.specs.Subjects.{is_subject}
