-- What a text of lines comes to that is replayed: its commands are handed to a desk once more, and each has to be accepted.
use Rattle.std.specs.Prelude.{◌≡◌, ◌≢◌, ◌⊎◌, ℕ, ◌+◌, ◌≤◌, ◌<◌, Bool, true, false, List, ◌∷◌, ◌++◌, length, Option, Some, None, Result, ⊤, refl}
use Rattle.std.specs.List.{AllByRecursion}
use Rattle.jiff.specs.declared.tz.timezone.TimeZone.{TimeZone}
use Rattle.pay_rules.specs.declared.posting.Posting.{Posting}
use Rattle.pay_rules.specs.declared.priced.Priced.{Priced}
use Rattle.pay_shard.specs.declared.asked.Asked.TheVariants as asked
use Rattle.pay_shard.specs.Words.{DeskParts, NothingIsLost}
use Rattle.pay_wire.specs.declared.command.SpelledCommand.TheVariants as command
use Rattle.pay_wire.specs.declared.refusal.Refusal.{Refusal}
use Rattle.pay_wire.specs.declared.refusal.Refusal.TheVariants as refusal
use Rattle.pay_wire.specs.declared.reply.SpelledReply.{SpelledReply}
use Rattle.pay_wire.specs.declared.reply.SpelledReply.TheVariants as replies
use Rattle.pay_session.specs.Asks.{asks_of}
use Rattle.pay_session.specs.Events.{Event}
use Rattle.pay_till.specs.Words.{Taken, MaySometimeRefuse, MaySometimeBeLate}
use Rattle.pay_session.specs.Requests.{line_requests, rest_of}
use Rattle.pay_session.specs.Serving.{IsStep}
use Rattle.pay_session.specs.Session.{IsSession, sides}
use Rattle.pay_session.specs.declared.asks.Asks.{Asks}
use Rattle.pay_session.specs.declared.asks.Asks.TheVariants as asks
use Rattle.pay_journal.specs.declared.replaying.Replayed.{Replayed}
use Rattle.pay_journal.specs.declared.replaying.ReplayFault.{ReplayFault}
use Rattle.pay_journal.specs.declared.replaying.ReplayFault.TheVariants as fault
use Rattle.pay_journal.specs.declared.limits.TheConstants.{MOST_AHEAD}
use Rattle.pay_session.specs.declared.request.Request.{Request}
use Rattle.pay_session.specs.declared.request.Request.TheVariants as requests

-- Whether no replay takes what a request comes to: a question, a close and QUIT are no line of it.
abbrev pub is_barred : Asks → Bool
is_barred (asks.Put (asked.Tap tap)) = false
is_barred (asks.Put (asked.Fix fix)) = false
is_barred (asks.No why) = false
is_barred _ = true

-- prices: what was asked is accepted, or was before
abbrev pub IsPriced : SpelledReply → Type 0
IsPriced reply = (priced : Priced) × (reply ≡ replies.Priced priced)

-- Why a reply ends a replay, where it does: each does but prices. A desk that answers a tap or a correction by anything else than
-- prices or a refusal has failed.
abbrev pub why_ended : SpelledReply → Option Refusal
why_ended (replies.Priced priced) = None
why_ended (replies.No why) = Some why
why_ended _ = Some refusal.DeskFault

-- there is no till, and nothing is closed
abbrev pub ClosesNothing : ⊤ → ℕ → ℕ → List Taken → Result (List Posting) Refusal → ⊤ → Type 0
ClosesNothing before day of put result after = ⊥

-- Over a desk from before to after, with `parts` for what it is at a moment: what a line comes to was answered, or is barred, and the
-- desk was not asked; and why the replay ends there, if it does.
abbrev pub IsReplayStep : {D O : Type 0} → (D → DeskParts O) → D → D → Asks → Option Refusal → Type 0
IsReplayStep parts before after a ended =
    ((event : Event) × (is_barred a ≡ false) × IsStep parts ClosesNothing a event (before, tt) (after, tt) × (ended ≡ why_ended event.reply))
    ⊎ ((is_barred a ≡ true) × (ended ≡ Some refusal.BadLine) × (after ≡ before))

-- what is told of a replay that ended so at the line of this number
abbrev pub IsFaultOf : ℕ → Refusal → ReplayFault → Type 0
IsFaultOf line why told = ((why ≡ refusal.Memory) × (told ≡ fault.Memory)) ⊎ ((why ≢ refusal.Memory) × (told ≡ fault.Line line why))

-- In a zone, over a desk from before to after.
module _ {D O : Type 0} (zone : TimeZone) (parts : D → DeskParts O) (before after : D) where
  -- these requests were answered by these events, as those of a session are
  abbrev pub AreHanded : List Request → List Event → Type 0
  AreHanded =
      IsSession zone (parts before).standing.shards (MaySometimeRefuse parts (parts before).standing) (MaySometimeBeLate parts (parts before).standing) ClosesNothing
      (sides parts (before, tt) (after, tt))

  -- none of them is barred
  abbrev pub NoneIsBarred : List Request → Type 0
  NoneIsBarred = AllByRecursion (λ (r : Request). is_barred (asks_of zone r) ≡ false)

  -- none is barred, and each was answered by prices
  abbrev pub AreAccepted : List Request → List Event → Type 0
  AreAccepted list events = AreHanded list events × NoneIsBarred list × AllByRecursion (λ (e : Event). IsPriced e.reply) events

  -- All whole lines of a text were accepted, and were so many, of so many bytes.
  pub record IsReplayed (text : List ℕ) (it : Replayed) : Type 0 where
    pub events : List Event
    pub accepted : AreAccepted (line_requests text) events
    pub counted : it.lines ≡ length (line_requests text)
    pub sized : it.bytes + length (rest_of text) ≡ length text

  -- After these, a request was answered by something else than prices, and those ahead of it by then were answered too; or it is barred, and
  -- the desk was not asked.
  abbrev pub IsEndedBy : List Request → List Event → Request → List Request → Refusal → Type 0
  IsEndedBy done events request ahead why =
      ((last : Event) × (more : List Event) × (is_barred (asks_of zone request) ≡ false) × AreHanded (done ++ request ∷ ahead) (events ++ last ∷ more) × (why_ended last.reply ≡ Some why))
      ⊎ ((is_barred (asks_of zone request) ≡ true) × AreHanded done events × (why ≡ refusal.BadLine))

  -- The lines before the one of this number were accepted, and that one was not. No more than a few of those after it were handed on.
  pub record IsEndedAt (text : List ℕ) (line : ℕ) (why : Refusal) : Type 0 where
    pub done : List Request
    pub request : Request
    pub ahead : List Request
    pub others : List Request
    pub requests : line_requests text ≡ done ++ request ∷ (ahead ++ others)
    pub counted : line ≡ length done + 1
    pub few : length ahead < MOST_AHEAD
    pub events : List Event
    pub each : length events ≡ length done
    pub unbarred : NoneIsBarred done
    pub priced : AllByRecursion (λ (e : Event). IsPriced e.reply) events
    pub ended : IsEndedBy done events request ahead why

  -- So far: the lines before those that are left were accepted.
  pub record IsUnderway (text left : List ℕ) (lines : ℕ) : Type 0 where
    pub done : List Request
    pub events : List Event
    pub requests : line_requests text ≡ done ++ line_requests left
    pub rest : rest_of text ≡ rest_of left
    pub accepted : AreAccepted done events
    pub counted : lines ≡ length done
    pub fits : lines + length left ≤ length text
    pub kept : NothingIsLost (parts before).transcript (parts after).transcript
    pub same : (parts after).standing ≡ (parts before).standing

  -- how far some lines of a text were handed on: all of them were accepted, or one was not
  abbrev pub IsStepBy : List ℕ → (lines : ℕ) (left : List ℕ) → Option Refusal → Type 0
  IsStepBy text lines left None = IsUnderway text left lines
  IsStepBy text lines left (Some why) = IsEndedAt text (lines + 1) why

  -- how a replay ends that does not reach the end of its text
  abbrev pub IsEnded : List ℕ → ReplayFault → Type 0
  IsEnded text (fault.Line line why) = IsEndedAt text line why × (why ≢ refusal.Memory)
  IsEnded text fault.Memory = (line : ℕ) × IsEndedAt text line refusal.Memory

-- ---- worked rows

-- a repeat is accepted, and a refusal ends the replay
repeat_goes_on : (day price week : ℕ) → why_ended (replies.Priced (record { day = day; day_price = price; week_price = week; again = true })) ≡ None
repeat_goes_on day price week = refl

conflict_ends : why_ended (replies.No refusal.Conflict) ≡ Some refusal.Conflict
conflict_ends = refl

-- a question, a close and QUIT are barred
question_barred : (zone : TimeZone) → is_barred (asks_of zone (requests.Command (command.Due 7 19_730))) ≡ true
unfolding asks_of
question_barred zone = refl

close_barred : (zone : TimeZone) → is_barred (asks_of zone (requests.Command (command.Close 19_730))) ≡ true
unfolding asks_of
close_barred zone = refl

quit_barred : (zone : TimeZone) → is_barred (asks_of zone (requests.Command command.Quit)) ≡ true
unfolding asks_of
quit_barred zone = refl

-- a line that spells nothing is not: it is refused as itself
bad_line_refused : (zone : TimeZone) → is_barred (asks_of zone requests.BadLine) ≡ false
unfolding asks_of
bad_line_refused zone = refl
