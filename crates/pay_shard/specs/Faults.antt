-- What is replied to a tap or a correction that is refused.
use Rattle.pay_rules.specs.declared.fares.TapFault.{TapFault}
use Rattle.pay_rules.specs.declared.fares.TapFault.TheVariants as of_tap
use Rattle.pay_rules.specs.declared.fares.FixFault.{FixFault}
use Rattle.pay_rules.specs.declared.fares.FixFault.TheVariants as of_fix
use Rattle.pay_shard.specs.declared.refusal.ShardRefusal.TheVariants as refusal
use Rattle.pay_shard.specs.declared.reply.Reply.{Reply}
use Rattle.pay_shard.specs.declared.reply.Reply.TheVariants as replies

abbrev pub reply_to_tap_fault : TapFault → Reply
reply_to_tap_fault of_tap.UnknownPlace = replies.No refusal.UnknownPlace
reply_to_tap_fault of_tap.Conflict = replies.No refusal.Conflict
reply_to_tap_fault of_tap.AccountFull = replies.No refusal.AccountFull
reply_to_tap_fault of_tap.Memory = replies.Memory

abbrev pub reply_to_fix_fault : FixFault → Reply
reply_to_fix_fault of_fix.UnknownPlace = replies.No refusal.UnknownPlace
reply_to_fix_fault of_fix.FixConflict = replies.No refusal.FixConflict
reply_to_fix_fault of_fix.FixesFull = replies.No refusal.FixesFull
reply_to_fix_fault of_fix.Memory = replies.Memory
