-- What comes of one request at a port where all may be asked for is what comes of it in the zone.
use Rattle.std.proofs.Common.{◌≡◌, ℕ, List, subst}
use Rattle.std.specs.Prelude.{Result}
use Rattle.jiff.specs.declared.tz.timezone.TimeZone.{TimeZone}
use Rattle.pay_rules.specs.declared.posting.Posting.{Posting}
use Rattle.pay_shard.specs.Words.{DeskParts}
use Rattle.pay_till.specs.Words.{Taken}
use Rattle.pay_wire.specs.declared.refusal.Refusal.{Refusal}
use Rattle.pay_wire.specs.declared.reply.SpelledReply.{SpelledReply}
use Rattle.pay_session.specs.Events.{Event}
use Rattle.pay_session.specs.OneRequest.{IsAnsweredIn}
use Rattle.pay_session.specs.Ports.{asks_at, IsOpen}
use Rattle.pay_session.specs.Serving.{IsStep}
use Rattle.pay_session.specs.declared.asks.Asks.{Asks}
use Rattle.pay_session.specs.declared.port.Port.{Port}
use Rattle.pay_session.specs.declared.request.Request.{Request}
use Rattle.pay_session.proofs.Ports.{open_asks}

pub answered_in : {D O T : Type 0} (parts : D → DeskParts O) (Closes : T → ℕ → ℕ → List Taken → Result (List Posting) Refusal → T → Type 0) (zone : TimeZone) (port : Port) (request : Request) (before after : D × T) (event : Event) (reply : SpelledReply)
    → IsOpen zone port → IsStep parts Closes (asks_at port request) event before after → event.reply ≡ reply → IsAnsweredIn parts Closes zone request before after reply
answered_in parts Closes zone port request before after event reply is step told = record {
  event = event;
  serves = subst (λ (asks : Request → Asks). IsStep parts Closes (asks request) event before after) (open_asks zone port is) step;
  told = told;
}
