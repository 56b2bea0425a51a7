-- One request over a desk and a till.
use Rattle.std.specs.Prelude.{◌≡◌, ◌⊎◌, ℕ, List, ◌++◌, Option, Result}
use Rattle.pay_rules.specs.declared.posting.Posting.{Posting}
use Rattle.pay_shard.specs.declared.asked.Asked.{Asked}
use Rattle.pay_shard.specs.declared.desk.DeskFault.{DeskFault}
use Rattle.pay_shard.specs.declared.reply.Answer.{Answer}
use Rattle.pay_shard.specs.Words.{NothingIsLost, DeskParts}
use Rattle.pay_wire.specs.declared.reply.SpelledReply.{SpelledReply}
use Rattle.pay_session.specs.Events.{Event, said_of_close}
use Rattle.pay_till.specs.Words.{Taken, commands_of, AreAnswered, IsClosed, MaySometimeRefuse, MaySometimeBeLate}
use Rattle.pay_session.specs.Served.{IsTaken, IsRefused, IsServedAs}
use Rattle.pay_session.specs.declared.asks.Asks.{Asks}
use Rattle.pay_wire.specs.declared.refusal.Refusal.{Refusal}

-- a command was handed to a desk, and this is what was said
pub record IsPut (Refuses : DeskFault → Type 0) (Late : Type 0) (a : Asked) (before after : List (ℕ × Asked)) (transcript : ℕ → Option Answer) (line : SpelledReply) : Type 0 where
  pub event : Event
  pub told : event.reply ≡ line
  pub answered : IsTaken Refuses Late a event ⊎ IsRefused Refuses Late event
  pub added : after ≡ before ++ commands_of event.put
  pub said : AreAnswered transcript event.put

-- a till closed a day over a desk, and this is what was said
pub record IsCloseSaid (Refuses : DeskFault → Type 0) (Late : Type 0) (Closes : List Taken → Result (List Posting) Refusal → Type 0) (day of : ℕ) (before after : List (ℕ × Asked)) (transcript : ℕ → Option Answer) (line : SpelledReply) : Type 0 where
  pub result : Result (List Posting) Refusal
  pub closed : IsClosed Refuses Late Closes day of before after transcript result
  pub told : line ≡ said_of_close day result

-- From one state of a desk to another, with `parts` for what it is at a moment.
module _ {D O : Type 0} (parts : D → DeskParts O) where
  -- a command was handed to it, and this is what was said
  abbrev pub IsPutAt : D → D → Asked → SpelledReply → Type 0
  IsPutAt before after a line =
      IsPut (MaySometimeRefuse parts (parts before).standing) (MaySometimeBeLate parts (parts before).standing) a (parts before).taken (parts after).taken (parts after).transcript line

  -- and this is what was said
  abbrev pub IsCloseSaidAt : D → D → ℕ → (ℕ → List Taken → Result (List Posting) Refusal → Type 0) → SpelledReply → Type 0
  IsCloseSaidAt before after day Closes line =
      IsCloseSaid (MaySometimeRefuse parts (parts before).standing) (MaySometimeBeLate parts (parts before).standing) (Closes (parts before).standing.shards) day (parts before).standing.shards
      (parts before).taken (parts after).taken (parts after).transcript line

  -- What a request comes to was answered, over a desk and a till: the desk took the event's commands, and nothing else, and stands
  -- as before.
  pub record IsStep {T : Type 0} (Closes : T → ℕ → ℕ → List Taken → Result (List Posting) Refusal → T → Type 0) (asks : Asks) (event : Event) (before after : D × T) : Type 0 where
    pub served : IsServedAs (parts before.0).standing.shards (MaySometimeRefuse parts (parts before.0).standing) (MaySometimeBeLate parts (parts before.0).standing) Closes asks event before.1 after.1
    pub added : (parts after.0).taken ≡ (parts before.0).taken ++ commands_of event.put
    pub said : AreAnswered (parts after.0).transcript event.put
    pub kept : NothingIsLost (parts before.0).transcript (parts after.0).transcript
    pub same : (parts after.0).standing ≡ (parts before.0).standing
