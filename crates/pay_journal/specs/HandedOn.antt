-- Lines of a text that a desk took before the reply to the first of them was got. What was put is the list of the commands, each beside its
-- ticket.
use Rattle.std.specs.Prelude.{◌≡◌, ◌⊎◌, ℕ, ◌+◌, ◌≤◌, false, List, [], ◌∷◌, ◌++◌, map, length, Option, Some, None, ⊤, refl}
use Rattle.jiff.specs.declared.tz.timezone.TimeZone.{TimeZone}
use Rattle.pay_shard.specs.declared.asked.Asked.{Asked}
use Rattle.pay_shard.specs.declared.reply.Reply.{Reply}
use Rattle.pay_shard.specs.Words.{DeskParts, NothingIsLost, with_waiting, IsAfterAll, IsNoneOf, IsReplyTo}
use Rattle.pay_wire.specs.declared.refusal.Refusal.{Refusal}
use Rattle.pay_wire.specs.declared.refusal.Refusal.TheVariants as refusal
use Rattle.pay_session.specs.Asks.{asks_of}
use Rattle.pay_session.specs.Events.{said}
use Rattle.pay_session.specs.Requests.{line_requests, rest_of}
use Rattle.pay_session.specs.declared.asks.Asks.{Asks}
use Rattle.pay_session.specs.declared.asks.Asks.TheVariants as asks
use Rattle.pay_session.specs.declared.request.Request.{Request}
use Rattle.pay_journal.specs.Replays.{is_barred, why_ended}
use Rattle.pay_journal.specs.declared.ahead.Missed.{Missed}
use Rattle.pay_journal.specs.declared.limits.TheConstants.{MOST_AHEAD}

-- their tickets
abbrev pub tickets_of : List (ℕ × Asked) → List ℕ
tickets_of = map (λ (p : ℕ × Asked). p.0)

-- each ticket is above those of all commands that were taken before, and none of what waits
abbrev pub AreNew : List (ℕ × Asked) → List ℕ → List (ℕ × Asked) → Type 0
AreNew taken waiting [] = ⊤
AreNew taken waiting (p ∷ put) = IsAfterAll p.0 taken × IsNoneOf p.0 waiting × AreNew (taken ++ p ∷ []) (waiting ++ p.0 ∷ []) put

-- requests come to these commands, and none is barred
abbrev pub ComeTo : TimeZone → List Request → List (ℕ × Asked) → Type 0
ComeTo zone [] [] = ⊤
ComeTo zone (r ∷ rs) (p ∷ put) = (asks_of zone r ≡ asks.Put p.1) × (is_barred (asks_of zone r) ≡ false) × ComeTo zone rs put
ComeTo zone _ _ = ⊥

-- the first lines of a text come to what was put, at most so many, and the rest of the text is left
pub record AreFirst (zone : TimeZone) (text left : List ℕ) (put : List (ℕ × Asked)) : Type 0 where
  pub requests : List Request
  pub come : ComeTo zone requests put
  pub whole : line_requests text ≡ requests ++ line_requests left
  pub rest : rest_of text ≡ rest_of left
  pub fits : length put + length left ≤ length text
  pub few : length put ≤ MOST_AHEAD

-- From one state of a desk to another, with `parts` for what it is at a moment.
module _ {D O : Type 0} (parts : D → DeskParts O) where
  -- a command was put under a ticket, which waits now
  pub record IsPut (before after : D) (a : Asks) (ticket : ℕ) : Type 0 where
    pub command : Asked
    pub asks : a ≡ asks.Put command
    pub free : is_barred a ≡ false
    pub added : (parts after).taken ≡ (parts before).taken ++ (ticket, command) ∷ []
    pub later : IsAfterAll ticket (parts before).taken
    pub fresh : IsNoneOf ticket (parts before).standing.waiting
    pub waits : (parts after).standing ≡ with_waiting ((parts before).standing.waiting ++ ticket ∷ []) (parts before).standing

  -- nothing was
  abbrev pub IsNotPut : D → D → Type 0
  IsNotPut before after = ((parts after).taken ≡ (parts before).taken) × ((parts after).standing ≡ (parts before).standing)

  -- these commands were put, one after another
  pub record ArePut (before after : D) (put : List (ℕ × Asked)) : Type 0 where
    pub added : (parts after).taken ≡ (parts before).taken ++ put
    pub waits : (parts after).standing ≡ with_waiting ((parts before).standing.waiting ++ tickets_of put) (parts before).standing
    pub new : AreNew (parts before).taken (parts before).standing.waiting put
    pub kept : NothingIsLost (parts before).transcript (parts after).transcript

  -- they are those of the first lines of a text
  abbrev pub ArePutFirst : TimeZone → D → D → (text left tickets : List ℕ) → Type 0
  ArePutFirst zone before after text left tickets = (put : List (ℕ × Asked)) × (tickets ≡ tickets_of put) × ArePut before after put × AreFirst zone text left put

  -- a reply to a ticket came or was late, and this is why a replay ends there, if it does
  abbrev pub IsGot : D → D → ℕ → Option Refusal → Type 0
  IsGot before after ticket why =
      ((reply : Reply) × IsReplyTo ticket (parts after).taken (parts after).transcript reply × (why ≡ why_ended (said reply)))
      ⊎ ((parts before).MayBeLate × (why ≡ Some refusal.Late))

-- the first that was missed, once one more came to something
abbrev pub first_missed : Option Missed → ℕ → Option Refusal → Option Missed
first_missed (Some missed) place why = Some missed
first_missed None place None = None
first_missed None place (Some why) = Some (record { place = place; why = why })

-- ---- worked rows

-- the second of three was missed, and so was the third
second_first : first_missed (first_missed (first_missed None 0 None) 1 (Some refusal.Conflict)) 2 (Some refusal.Late) ≡ Some (record { place = 1; why = refusal.Conflict })
second_first = refl
