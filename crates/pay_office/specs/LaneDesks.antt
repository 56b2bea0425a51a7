-- A desk over a lane.
use Rattle.std.specs.Prelude.{◌≡◌, ℕ, ◌≤◌, ◌⊎◌, List, length, refl, ⊤}
use Rattle.std.specs.Coded.{Coded, code_by, coded×, coded_ℕ, coded_list}
use Rattle.pay_shard.specs.Words.{DeskParts, IsReplyTo}
use Rattle.pay_shard.specs.declared.desk.DeskFault.{DeskFault}
use Rattle.pay_shard.specs.declared.desk.DeskFault.TheVariants.{Busy, Window}
use Rattle.pay_shard.specs.declared.limits.TheConstants.{MOST_SHARDS}
use Rattle.pay_shard.specs.declared.reply.Reply.{Reply}
use Rattle.pay_lanes.specs.Words.{LaneParts, lane_code, unanswered, by_lane, IsSameLane, WasFullAt}
use Rattle.pay_lanes.specs.declared.lane.SendFault.{SendFault}
use Rattle.pay_lanes.specs.declared.lane.SendFault.TheVariants as sending
use Rattle.pay_lanes.specs.declared.limits.TheConstants.{WINDOW, MOST_TICKETS}
use Rattle.pay_office.specs.Waits.{commands_sent, answer_to, AreWaiting}
use Rattle.pay_office.specs.declared.waiting.Waiting.{Waiting}
use Rattle.pay_office.specs.declared.limits.TheConstants.{MOST_WAITING}

-- the lane as it was when the desk began, the lane as it is, and the tickets that wait for their replies
pub record LaneDeskParts : Type 0 where
  pub began : LaneParts
  pub lane : LaneParts
  pub waiting : List ℕ

abbrev pub lane_desk_code : Coded LaneDeskParts
lane_desk_code =
    code_by (LaneParts × (LaneParts × List ℕ)) (coded× lane_code (coded× lane_code (coded_list coded_ℕ)))
    (λ d. (d.began, (d.lane, d.waiting))) (λ p. record { began = p.0; lane = p.1.0; waiting = p.1.1 }) (λ _. refl)

-- Why a command was refused as busy: the lane has no ticket left now, or the queue of a shard was full at one moment.
abbrev pub WasBusy : LaneDeskParts → LaneDeskParts → Type 0
WasBusy before after = (MOST_TICKETS ≤ after.lane.next) ⊎ ((shard : ℕ) × WasFullAt by_lane before.lane.shards shard)

-- as many commands of the lane are unanswered, or of the desk not got, as may be
abbrev pub IsAtWindow : LaneDeskParts → Type 0
IsAtWindow d = (WINDOW ≤ unanswered d.lane) ⊎ (MOST_WAITING ≤ length d.waiting)

-- why a desk refuses what its lane does not send
abbrev pub refusal_of : SendFault → DeskFault
refusal_of sending.Window = Window
refusal_of sending.Busy = Busy

-- how a desk over a lane may refuse a command; what it is to be busy is known only once it was
abbrev pub MayRefuse : LaneDeskParts → DeskFault → Type 0
MayRefuse d fault = (fault ≡ Busy) ⊎ ((fault ≡ Window) × IsAtWindow d)

-- Such a desk began with a lane, of which it is known that it is the same end still. It took what the lane sent, and its answers are those
-- that the lane took, the first to each ticket.
abbrev pub desk_parts : LaneDeskParts → DeskParts LaneParts
desk_parts d = record {
  standing = record { origin = d.began; shards = length d.lane.shards; waiting = d.waiting };
  taken = commands_sent d.lane;
  transcript = λ ticket. answer_to ticket d.lane.answers.got;
  MayRefuse = MayRefuse d;
  MayBeLate = ⊤;
}

-- No answer that the lane took is a reply to a ticket: there is none to it, or the first is to another command.
abbrev pub HasNoReply : ℕ → LaneDeskParts → Type 0
HasNoReply ticket d = (reply : Reply) → IsReplyTo ticket (desk_parts d).taken (desk_parts d).transcript reply → ⊥

-- what a desk over a lane keeps
pub record IsAtLane (began lane : LaneParts) (waiting : List Waiting) : Type 0 where
  pub same : IsSameLane began lane
  pub some : 1 ≤ length lane.shards
  pub few : length lane.shards ≤ MOST_SHARDS
  pub waits : AreWaiting lane waiting
