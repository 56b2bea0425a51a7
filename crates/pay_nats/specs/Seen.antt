-- What a server sends and what is read of it, without where it lies in memory.
use Rattle.std.specs.Prelude.{ℕ, Option, Some, None, Result, Ok, Err, option_copied}
use Rattle.pay_nats.specs.Frames.{Told, Info, Message, Ping, Pong, Done, Fault}
use Rattle.pay_nats.specs.declared.frame.Frame.{Frame}
use Rattle.pay_nats.specs.declared.frame.Frame.TheVariants as frame
use Rattle.pay_nats.specs.declared.frame.FrameFault.{FrameFault}
use Rattle.pay_nats.specs.declared.frame.Message as message

abbrev pub told_message : message.Message → Told
told_message it = Message (record { subject = it.subject.now; sid = it.sid; reply = option_copied it.reply }) (option_copied it.headers) it.payload.now

-- a frame
abbrev pub told : Frame → Told
told (frame.Info text) = Info text.now
told (frame.Message it) = told_message it
told frame.Ping = Ping
told frame.Pong = Pong
told frame.Done = Done
told (frame.Fault text) = Fault text.now

-- what is read of some bytes: a frame with the number of its bytes, or nothing yet, or why there is none
abbrev pub seen : Result (Option (Frame × ℕ)) FrameFault → Result (Option (Told × ℕ)) FrameFault
seen (Err fault) = Err fault
seen (Ok None) = Ok None
seen (Ok (Some it)) = Ok (Some (told it.0, it.1))
