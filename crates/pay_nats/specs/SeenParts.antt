-- What is read on the way to a frame, without where it lies in memory.
use Rattle.std.specs.Prelude.{ℕ, List, Option, Result, Ok, Err, option_map, option_copied}
use Rattle.std.specs.Borrow.{Bor}
use Rattle.pay_nats.specs.Frames.{Address, Told}
use Rattle.pay_nats.specs.Frames as frames
use Rattle.pay_nats.specs.Reading as reading
use Rattle.pay_nats.specs.Seen.{told}
use Rattle.pay_nats.specs.declared.frame.Frame.{Frame}
use Rattle.pay_nats.specs.declared.frame.FrameFault.{FrameFault}
use Rattle.pay_nats.specs.declared.meaning.Meaning.{Meaning}
use Rattle.pay_nats.specs.declared.meaning.Meaning.TheVariants.{Whole, Sized}
use Rattle.pay_nats.specs.declared.sizes.Sizes.{Sizes}
use Rattle.pay_nats.specs.declared.meaning.Words.{Words}

abbrev pub seen_message : Result (Option Frame) FrameFault → Result (Option Told) FrameFault
seen_message (Err fault) = Err fault
seen_message (Ok it) = Ok (option_map told it)

abbrev pub seen_line : Result (Option (Bor (List ℕ))) FrameFault → Result (Option (List ℕ)) FrameFault
seen_line (Err fault) = Err fault
seen_line (Ok line) = Ok (option_copied line)

abbrev pub seen_words : Words → reading.Words
seen_words it = record { subject = it.subject.now; sid = it.sid.now; reply = option_copied it.reply; headers = option_copied it.headers; total = it.total.now }

abbrev pub address_seen : Sizes → Address
address_seen it = record { subject = it.subject.now; sid = it.sid; reply = option_copied it.reply }

abbrev pub seen_meaning : Meaning → frames.Meaning
seen_meaning (Whole it) = frames.Whole (told it)
seen_meaning (Sized it) = frames.Sized (address_seen it) it.headers it.total
