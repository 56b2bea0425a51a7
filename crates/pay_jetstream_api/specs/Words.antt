-- Words for the crates above: what a client writes, and what a server's answers say.
pub use Rattle.pay_jetstream_api.specs.Answers.{StreamOf, place_of, server_of, stream_of, stream_seen, taken_of}
pub use Rattle.pay_jetstream_api.specs.Asking.{PlanOf, consumer_value, digests_value, last_value, plan_of, stream_value}
