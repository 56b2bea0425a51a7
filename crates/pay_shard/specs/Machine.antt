-- The machine that answers: it keeps the accepted taps and corrections of each account, and prices them from scratch.
use Rattle.std.specs.Prelude.{◌≡◌, Bool, true, false, Result, Ok, Err}
use Rattle.pay_tables.specs.Words.{FareEditions}
use Rattle.pay_rules.specs.declared.tap.Tap.{Tap}
use Rattle.pay_rules.specs.declared.fix.Fix.{Fix}
use Rattle.pay_rules.specs.TapResults.{tap_result}
use Rattle.pay_rules.specs.FixResults.{fix_result}
use Rattle.pay_rules.specs.Lines.{shown}
use Rattle.pay_rules.specs.Quotes.{quote}
use Rattle.pay_rules.specs.declared.priced.Priced.{Priced}
use Rattle.pay_rules.specs.declared.fares.TapFault.{TapFault}
use Rattle.pay_rules.specs.declared.fares.FixFault.{FixFault}
use Rattle.pay_shard.specs.State.{after_tap_of, after_fix_of}
use Rattle.pay_rules.specs.State.{State, accepted_of}
use Rattle.pay_shard.specs.BatchParts.{batch}
use Rattle.pay_shard.specs.Faults.{reply_to_tap_fault, reply_to_fix_fault}
use Rattle.pay_shard.specs.declared.asked.Asked.{Asked}
use Rattle.pay_shard.specs.declared.asked.Asked.TheVariants as asked
use Rattle.pay_shard.specs.declared.item.Item.{Item}
use Rattle.pay_shard.specs.declared.reply.Reply.{Reply}
use Rattle.pay_shard.specs.declared.reply.Reply.TheVariants as replies

-- a reply, and the state after it
pub record Step : Type 0 where
  pub reply : Reply
  pub after : State

-- a reply that changes nothing
abbrev pub stays : State → Reply → Step
stays state reply = record { reply = reply; after = state }

-- an accepted tap is kept; a refusal changes nothing
abbrev pub step_tap_result : State → Tap → Result Priced TapFault → Step
step_tap_result state tap (Ok priced) = record { reply = replies.Priced priced; after = after_tap_of (Ok priced) state tap }
step_tap_result state tap (Err fault) = stays state (reply_to_tap_fault fault)

-- an accepted correction is kept, as a tap is
abbrev pub step_fix_result : State → Fix → Result Priced FixFault → Step
step_fix_result state fix (Ok priced) = record { reply = replies.Priced priced; after = after_fix_of (Ok priced) state fix }
step_fix_result state fix (Err fault) = stays state (reply_to_fix_fault fault)

-- A tap and a correction are answered by their own account. What is due, shown or quoted changes nothing.
abbrev pub step : FareEditions → State → Asked → Step
step editions state (asked.Tap tap) = step_tap_result state tap (tap_result editions (accepted_of state tap.account) tap)
step editions state (asked.Fix fix) = step_fix_result state fix (fix_result editions (accepted_of state fix.account) fix)
step editions state (asked.Due account day) = stays state (replies.Due (quote editions account (accepted_of state account) day))
step editions state (asked.Show account day) = stays state (replies.Shown (shown editions account (accepted_of state account) day))
step editions state (asked.Quotes day shard of) = stays state (replies.Quotes (batch editions state day shard of))

-- where memory for a command was refused, that is the reply, and nothing changes
abbrev pub marked_step : Bool → FareEditions → State → Asked → Step
marked_step true editions state a = stays state replies.Memory
marked_step false editions state a = step editions state a

-- what an item of a journal comes to
abbrev pub item_step : FareEditions → State → Item → Step
item_step editions state item = marked_step item.refused_memory editions state item.entry.command

abbrev pub is_memory : Reply → Bool
is_memory replies.Memory = true
is_memory _ = false

abbrev pub is_refusal : Reply → Bool
is_refusal (replies.No why) = true
is_refusal _ = false

-- A reply is that of the machine, with the state after it, or want of memory, and then it would have been no refusal and
-- nothing changed.
abbrev pub IsAnswered : FareEditions → State → Asked → Reply → State → Type 0
IsAnswered editions state a reply after =
    (marked_step (is_memory reply) editions state a ≡ record { reply = reply; after = after })
    × (is_memory reply ≡ true → is_refusal (step editions state a).reply ≡ false)
