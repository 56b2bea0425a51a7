-- One request that is answered by itself.
use Rattle.std.specs.Prelude.{ℕ, List, Result}
use Rattle.jiff.specs.declared.tz.timezone.TimeZone.{TimeZone}
use Rattle.pay_rules.specs.declared.posting.Posting.{Posting}
use Rattle.pay_shard.specs.Words.{DeskParts}
use Rattle.pay_till.specs.Words.{Taken}
use Rattle.pay_wire.specs.declared.refusal.Refusal.{Refusal}
use Rattle.pay_wire.specs.declared.reply.SpelledReply.{SpelledReply}
use Rattle.pay_session.specs.Asks.{asks_of}
use Rattle.pay_session.specs.Serving.{IsStep}
use Rattle.pay_session.specs.SessionSteps.{IsAnswered}
use Rattle.pay_session.specs.declared.request.Request.{Request}

-- In a zone, over a desk and a till: what answers before it, and after it, and the reply. With `parts` for what the desk is at a moment,
-- and `Closes` for what the till says of a close.
abbrev pub IsAnsweredIn : {D O T : Type 0} → (D → DeskParts O) → (T → ℕ → ℕ → List Taken → Result (List Posting) Refusal → T → Type 0) → TimeZone → Request → (before after : D × T) → SpelledReply → Type 0
IsAnsweredIn parts Closes zone = IsAnswered (λ before request event after. IsStep parts Closes (asks_of zone request) event before after)
