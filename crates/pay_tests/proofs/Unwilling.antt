-- A desk that tells want of memory where another desk replies.
use Rattle.std.proofs.Common.{◌≡◌, ℕ, List, Option, Some, None, refl, ap, ◌∙◌}
use Rattle.std.specs.Option.{option_map}
use Rattle.pay_shard.specs.Words.{IsReplyTo, NothingIsLost}
use Rattle.pay_shard.specs.declared.asked.Asked.{Asked}
use Rattle.pay_shard.specs.declared.reply.Answer.{Answer}
use Rattle.pay_shard.specs.declared.reply.Reply.{Reply}
use Rattle.pay_shard.specs.declared.reply.Reply.TheVariants.{Memory}

-- the same answer, but for its reply
abbrev lacking : Answer → Answer
lacking a = record { shard = a.shard; place = a.place; ticket = a.ticket; command = a.command; reply = Memory }

pub kept_lacking : (old new : ℕ → Option Answer) → NothingIsLost old new → NothingIsLost (λ t. option_map lacking (old t)) (λ t. option_map lacking (new t))
kept_lacking old new kept ticket answer e = by (old ticket) refl e
  where
    by : (o : Option Answer) → old ticket ≡ o → option_map lacking o ≡ Some answer → option_map lacking (new ticket) ≡ Some answer
    by None is e = absurd (cc)
    by (Some a) is e = ap (option_map lacking) (kept ticket a is) ∙ e

pub reply_lacking : (ticket : ℕ) (taken : List (ℕ × Asked)) (transcript : ℕ → Option Answer) (reply : Reply) → IsReplyTo ticket taken transcript reply
    → IsReplyTo ticket taken (λ t. option_map lacking (transcript t)) Memory
reply_lacking ticket taken transcript reply r = record {
  answer = lacking r.answer;
  stands = ap (option_map lacking) r.stands;
  of_ticket = r.of_ticket;
  of_command = r.of_command;
  told = refl;
}
