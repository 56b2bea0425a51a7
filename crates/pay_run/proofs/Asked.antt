-- The commands that requests ask for, as the journal of a shard: the machine comes to what the shard's comes to.
use Rattle.std.proofs.Common.{◌≡◌, inl, inr, ◌↔◌, ℕ, Bool, true, false, ◌||◌, List, [], ◌∷◌, if◌then◌else◌, refl, sym, ap, ◌∙◌, subst, Option, Some, None}
use Rattle.std.specs.Prelude.{is_some}
use Rattle.std.specs.List.{list_any}
use Rattle.jiff.specs.declared.tz.timezone.TimeZone.{TimeZone}
use Rattle.pay_rules.specs.InTurn.{IsIn}
use Rattle.pay_postings.specs.Words.{LedgerParts}
use Rattle.pay_shard.specs.declared.asked.Asked.{Asked}
use Rattle.pay_shard.specs.declared.item.Item.{Item}
use Rattle.pay_shard.specs.declared.reply.Reply.{Reply}
use Rattle.pay_shard.specs.declared.reply.Reply.TheVariants as shard_replies
use Rattle.pay_shard.specs.Words.{run, replay, asked_by, AreUnmarked, accepted_asked, is_priced as is_shard_priced, AreAllPriced as AreShardPriced, step as shard_step}
use Rattle.pay_session.specs.Words.{asks_of, said, lacks_memory}
use Rattle.pay_session.specs.declared.asks.Asks.{Asks}
use Rattle.pay_session.specs.declared.asks.Asks.TheVariants as asks
use Rattle.pay_session.specs.declared.request.Request.{Request}
use Rattle.pay_wire.specs.declared.reply.SpelledReply.TheVariants as replies
use Rattle.pay_run.specs.Machine.{Machine, Failure, Memory, Store, Desk, Keeping, Early, is_keeping, refusal_of_command, Step, step_close, step_asks, step}
use Rattle.pay_run.specs.Outcomes.{outcome, tells_loss, is_priced, AreAllPriced, accepted_requests}
use Rattle.pay_run.proofs.Closes.{of_close}

-- ---- the commands and the items

-- a command before others, if one is asked for
abbrev command_then : Asks → List Asked → List Asked
command_then (asks.Put a) later = a ∷ later
command_then _ later = later

-- the commands that requests ask for, in their order
abbrev pub commands_for : TimeZone → List Request → List Asked
commands_for zone [] = []
commands_for zone (r ∷ list) = command_then (asks_of zone r) (commands_for zone list)

-- an item before others, if a command is asked for
abbrev item_then : Bool → Asks → List Item → List Item
item_then mark (asks.Put a) later = record { entry = record { lane = 0; ticket = 0; command = a }; refused_memory = mark } ∷ later
item_then mark _ later = later

-- the items of the commands that requests with marks ask for
abbrev pub items_for : List (Option Failure) → TimeZone → List Request → List Item
items_for marks zone [] = []
items_for [] zone (r ∷ list) = item_then false (asks_of zone r) (items_for [] zone list)
items_for (mark ∷ marks) zone (r ∷ list) = item_then (is_some mark) (asks_of zone r) (items_for marks zone list)

-- whether a request asks for a command
abbrev pub IsCommand : TimeZone → Request → Type 0
IsCommand zone r = (a : Asked) × (asks_of zone r ≡ asks.Put a)

-- ---- which commands a list asks for

-- what asks for it
abbrev From : TimeZone → List Request → Asked → Type 0
From zone list a = (r : Request) × IsIn list r × (asks_of zone r ≡ asks.Put a)

at_front : (zone : TimeZone) (r : Request) (list : List Request) (a : Asked) (of : Asks) → asks_of zone r ≡ of → (IsIn (commands_for zone list) a → From zone list a)
    → IsIn (command_then of (commands_for zone list)) a → From zone (r ∷ list) a
at_front zone r list a (asks.Put b) e later h = elim h [
  | inl is ↦ (r, inl refl, e ∙ ap asks.Put is)
  | inr beyond ↦ let from = later beyond in (from.0, inr from.1, from.2)
]
at_front zone r list a (asks.Close day) e later h = let from = later h in (from.0, inr from.1, from.2)
at_front zone r list a asks.Quit e later h = let from = later h in (from.0, inr from.1, from.2)
at_front zone r list a (asks.No why) e later h = let from = later h in (from.0, inr from.1, from.2)

asked_from : (zone : TimeZone) (list : List Request) (a : Asked) → IsIn (commands_for zone list) a → From zone list a
asked_from zone [] a h = absurd h
asked_from zone (r ∷ list) a h = at_front zone r list a (asks_of zone r) refl (asked_from zone list a) h

not_lost : (of : Asks) (later : List Asked) (a : Asked) → IsIn later a → IsIn (command_then of later) a
not_lost (asks.Put b) later a h = inr h
not_lost (asks.Close day) later a h = h
not_lost asks.Quit later a h = h
not_lost (asks.No why) later a h = h

asked_there : (zone : TimeZone) (list : List Request) (r : Request) (a : Asked) → IsIn list r → asks_of zone r ≡ asks.Put a → IsIn (commands_for zone list) a
asked_there zone [] r a h e = absurd h
asked_there zone (first ∷ list) r a h e = elim h [
  | inl is ↦ subst (λ of. IsIn (command_then of (commands_for zone list)) a) (sym (ap (asks_of zone) is ∙ e)) (inl refl)
  | inr later ↦ not_lost (asks_of zone first) (commands_for zone list) a (asked_there zone list r a later e)
]

all_there : (zone : TimeZone) (list other : List Request) → ((r : Request) → IsIn list r → IsIn other r) → (a : Asked) → IsIn (commands_for zone list) a → IsIn (commands_for zone other) a
all_there zone list other there a h = let from = asked_from zone list a h in asked_there zone other from.0 a (there from.0 from.1) from.2

-- lists of the same requests ask for the same commands
pub same_commands : (zone : TimeZone) (list other : List Request) → ((r : Request) → IsIn list r ↔ IsIn other r)
    → (a : Asked) → IsIn (commands_for zone list) a ↔ IsIn (commands_for zone other) a
same_commands zone list other alike a = (all_there zone list other (λ r. (alike r).0) a, all_there zone other list (λ r. (alike r).1) a)

-- ---- the items ask for the commands, and have no marks where requests have none

asked_by_one : (mark : Bool) (of : Asks) (later : List Item) → asked_by (item_then mark of later) ≡ command_then of (asked_by later)
asked_by_one mark (asks.Put a) later = refl
asked_by_one mark (asks.Close day) later = refl
asked_by_one mark asks.Quit later = refl
asked_by_one mark (asks.No why) later = refl

pub asked_by_items : (zone : TimeZone) (list : List Request) → asked_by (items_for [] zone list) ≡ commands_for zone list
asked_by_items zone [] = refl
asked_by_items zone (r ∷ list) = asked_by_one false (asks_of zone r) (items_for [] zone list) ∙ ap (command_then (asks_of zone r)) (asked_by_items zone list)

unmarked_one : (of : Asks) (later : List Item) → AreUnmarked later → AreUnmarked (item_then false of later)
unmarked_one (asks.Put a) later are = (refl, are)
unmarked_one (asks.Close day) later are = are
unmarked_one asks.Quit later are = are
unmarked_one (asks.No why) later are = are

pub items_unmarked : (zone : TimeZone) (list : List Request) → AreUnmarked (items_for [] zone list)
items_unmarked zone [] = tt
items_unmarked zone (r ∷ list) = unmarked_one (asks_of zone r) (items_for [] zone list) (items_unmarked zone list)

-- ---- where the machine ends

-- a machine after the items of a journal, with a ledger
abbrev pub beyond : Machine → List Item → Option LedgerParts → Machine
beyond m items ledger = record { zone = m.zone; editions = m.editions; accounts = replay m.editions m.accounts items; ledger = ledger }

after_one : (mark : Option Failure) (m : Machine) (of : Asks) (later : TimeZone → List Item) (ledger : Option LedgerParts)
    → beyond (step_asks mark m of).after (later (step_asks mark m of).after.zone) ledger ≡ beyond m (item_then (is_some mark) of (later m.zone)) ledger
after_one None m (asks.Put a) later ledger = refl
after_one (Some failure) m (asks.Put a) later ledger = refl
after_one mark m (asks.Close day) later ledger =
    of_close (λ (s : Step). beyond s.after (later s.after.zone) ledger ≡ beyond m (later m.zone) ledger) m (λ reply other plain. refl) mark day m.ledger
after_one mark m asks.Quit later ledger = refl
after_one mark m (asks.No why) later ledger = refl

pub ends_after : (marks : List (Option Failure)) (m : Machine) (list : List Request) → (outcome marks m list).after ≡ beyond m (items_for marks m.zone list) (outcome marks m list).after.ledger
unfolding step
ends_after [] m [] = refl
ends_after (mark ∷ marks) m [] = refl
ends_after [] m (r ∷ list) =
    ends_after [] (step None m r).after list ∙ after_one None m (asks_of m.zone r) (λ zone. items_for [] zone list) (outcome [] (step None m r).after list).after.ledger
ends_after (mark ∷ marks) m (r ∷ list) =
    ends_after marks (step mark m r).after list ∙ after_one mark m (asks_of m.zone r) (λ zone. items_for marks zone list) (outcome marks (step mark m r).after list).after.ledger

-- ---- where no command was lost

true_false : true ≡ false → ⊥
true_false e = cc

both_false : (a b : Bool) → (a || b) ≡ false → (a ≡ false) × (b ≡ false)
both_false false b h = (refl, h)
both_false true b h = absurd (true_false h)

-- a command that has a mark was lost, as its reply tells; if not by what keeps lines, then for memory
lost : (failure : Failure) → tells_loss (replies.No (refusal_of_command failure)) ≡ true
lost Memory = refl
lost Store = refl
lost Desk = refl
lost Keeping = refl
lost Early = refl

lacks : (failure : Failure) → is_keeping (Some failure) ≡ false → lacks_memory (replies.No (refusal_of_command failure)) ≡ true
lacks Memory kept = refl
lacks Store kept = refl
lacks Desk kept = refl
lacks Keeping kept = absurd (true_false kept)
lacks Early kept = refl

-- so no command has one
abbrev IsNoCommand : Option Failure → Asks → Type 0
IsNoCommand mark of = (a : Asked) → of ≡ asks.Put a → is_some mark ≡ false

none_lost : (mark : Option Failure) (m : Machine) (of : Asks) → tells_loss (step_asks mark m of).reply ≡ false → IsNoCommand mark of
none_lost None m of ample a e = refl
none_lost (Some failure) m of ample a e = absurd (true_false (sym (lost failure) ∙ ap (λ o. tells_loss (step_asks (Some failure) m o).reply) (sym e) ∙ ample))

none_lacks : (mark : Option Failure) (m : Machine) (of : Asks) → is_keeping mark ≡ false → lacks_memory (step_asks mark m of).reply ≡ false → IsNoCommand mark of
none_lacks None m of kept ample a e = refl
none_lacks (Some failure) m of kept ample a e = absurd (true_false (sym (lacks failure kept) ∙ ap (λ o. lacks_memory (step_asks (Some failure) m o).reply) (sym e) ∙ ample))

-- and no item has one
ample_one : (mark : Option Failure) (m : Machine) (of : Asks) (later other : TimeZone → List Item)
    → IsNoCommand mark of → later (step_asks mark m of).after.zone ≡ other (step_asks mark m of).after.zone
    → item_then (is_some mark) of (later m.zone) ≡ item_then false of (other m.zone)
ample_one None m (asks.Put a) later other ample same = ap (λ l. item_then false (asks.Put a) l) same
ample_one (Some failure) m (asks.Put a) later other ample same = absurd (true_false (ample a refl))
ample_one mark m (asks.Close day) later other ample same =
    of_close (λ (s : Step). later s.after.zone ≡ other s.after.zone → later m.zone ≡ other m.zone) m (λ reply ledger plain alike. alike) mark day m.ledger same
ample_one mark m asks.Quit later other ample same = same
ample_one mark m (asks.No why) later other ample same = same

items_alike : (marks : List (Option Failure)) (m : Machine) (list : List Request) → list_any tells_loss (outcome marks m list).replies ≡ false → items_for marks m.zone list ≡ items_for [] m.zone list
unfolding step
items_alike [] m [] ample = refl
items_alike (mark ∷ marks) m [] ample = refl
items_alike [] m (r ∷ list) ample = refl
items_alike (mark ∷ marks) m (r ∷ list) ample =
    let both = both_false (tells_loss (step mark m r).reply) (list_any tells_loss (outcome marks (step mark m r).after list).replies) ample in
    ample_one mark m (asks_of m.zone r) (λ zone. items_for marks zone list) (λ zone. items_for [] zone list) (none_lost mark m (asks_of m.zone r) both.0)
    (items_alike marks (step mark m r).after list both.1)

items_kept : (marks : List (Option Failure)) (m : Machine) (list : List Request) → list_any is_keeping marks ≡ false → list_any lacks_memory (outcome marks m list).replies ≡ false
    → items_for marks m.zone list ≡ items_for [] m.zone list
unfolding step
items_kept [] m [] kept ample = refl
items_kept (mark ∷ marks) m [] kept ample = refl
items_kept [] m (r ∷ list) kept ample = refl
items_kept (mark ∷ marks) m (r ∷ list) kept ample =
    let none = both_false (is_keeping mark) (list_any is_keeping marks) kept in
    let both = both_false (lacks_memory (step mark m r).reply) (list_any lacks_memory (outcome marks (step mark m r).after list).replies) ample in
    ample_one mark m (asks_of m.zone r) (λ zone. items_for marks zone list) (λ zone. items_for [] zone list) (none_lacks mark m (asks_of m.zone r) none.0 both.0)
    (items_kept marks (step mark m r).after list none.1 both.1)

accounts_by : (marks : List (Option Failure)) (m : Machine) (list : List Request) → items_for marks m.zone list ≡ items_for [] m.zone list
    → (outcome marks m list).after.accounts ≡ (outcome [] m list).after.accounts
accounts_by marks m list same =
    ap (λ (n : Machine). n.accounts) (ends_after marks m list) ∙ ap (replay m.editions m.accounts) same ∙ sym (ap (λ (n : Machine). n.accounts) (ends_after [] m list))

-- the accounts are what they are where nothing failed
pub accounts_alike : (marks : List (Option Failure)) (m : Machine) (list : List Request) → list_any tells_loss (outcome marks m list).replies ≡ false
    → (outcome marks m list).after.accounts ≡ (outcome [] m list).after.accounts
accounts_alike marks m list ample = accounts_by marks m list (items_alike marks m list ample)

-- and so where no line was to be kept, and memory was wanting for none
pub accounts_kept : (marks : List (Option Failure)) (m : Machine) (list : List Request) → list_any is_keeping marks ≡ false → list_any lacks_memory (outcome marks m list).replies ≡ false
    → (outcome marks m list).after.accounts ≡ (outcome [] m list).after.accounts
accounts_kept marks m list kept ample = accounts_by marks m list (items_kept marks m list kept ample)

-- ---- prices

-- a line's reply is prices where the shard's is
said_priced : (reply : Reply) → is_priced (said reply) ≡ is_shard_priced reply
said_priced (shard_replies.Priced priced) = refl
said_priced (shard_replies.No why) = refl
said_priced (shard_replies.Due quote) = refl
said_priced (shard_replies.Shown shown) = refl
said_priced (shard_replies.Quotes batch) = refl
said_priced shard_replies.Memory = refl

-- a request is accepted where its command is
accepted_if : (b : Bool) (zone : TimeZone) (r : Request) (a : Asked) (later : List Asked) (list : List Request) → asks_of zone r ≡ asks.Put a → later ≡ commands_for zone list
    → (if b then a ∷ later else later) ≡ commands_for zone (if b then r ∷ list else list)
accepted_if true zone r a later list e h = ap (λ l. a ∷ l) h ∙ ap (λ of. command_then of (commands_for zone list)) (sym e)
accepted_if false zone r a later list e h = h

-- what is accepted of the items is what the accepted requests ask for
abbrev AreAsked : Machine → List Item → List Request → Type 0
AreAsked m items list = accepted_asked m.editions m.accounts items ≡ commands_for m.zone list

accepted_one : (mark : Option Failure) (m : Machine) (r : Request) (of : Asks) (later : TimeZone → List Item) (list : List Request) → asks_of m.zone r ≡ of
    → AreAsked (step_asks mark m of).after (later (step_asks mark m of).after.zone) list
    → AreAsked m (item_then (is_some mark) of (later m.zone)) (if is_priced (step_asks mark m of).reply then r ∷ list else list)
accepted_one None m r (asks.Put a) later list e h =
    let reply = (shard_step m.editions m.accounts a).reply in
    let next = (shard_step m.editions m.accounts a).after in
    accepted_if (is_shard_priced reply) m.zone r a (accepted_asked m.editions next (later m.zone)) list e h
    ∙ ap (λ b. commands_for m.zone (if b then r ∷ list else list)) (sym (said_priced reply))
accepted_one (Some failure) m r (asks.Put a) later list e h = h
accepted_one mark m r (asks.Close day) later list e h =
    of_close (λ (s : Step). AreAsked s.after (later s.after.zone) list → AreAsked m (later m.zone) (if is_priced s.reply then r ∷ list else list)) m
    (λ reply ledger plain all. all ∙ ap (λ b. commands_for m.zone (if b then r ∷ list else list)) (sym plain)) mark day m.ledger h
accepted_one mark m r asks.Quit later list e h = h
accepted_one mark m r (asks.No why) later list e h = h

pub accepted_items : (marks : List (Option Failure)) (m : Machine) (list : List Request) → AreAsked m (items_for marks m.zone list) (accepted_requests marks m list)
unfolding step
accepted_items [] m [] = refl
accepted_items (mark ∷ marks) m [] = refl
accepted_items [] m (r ∷ list) =
    accepted_one None m r (asks_of m.zone r) (λ zone. items_for [] zone list) (accepted_requests [] (step None m r).after list) refl (accepted_items [] (step None m r).after list)
accepted_items (mark ∷ marks) m (r ∷ list) =
    accepted_one mark m r (asks_of m.zone r) (λ zone. items_for marks zone list) (accepted_requests marks (step mark m r).after list) refl (accepted_items marks (step mark m r).after list)

-- ---- where all are answered by prices

-- all replies to a journal of a machine's shard are prices
abbrev pub AreItemsPriced : Machine → List Item → Type 0
AreItemsPriced m items = AreShardPriced (run m.editions m.accounts items).replies

-- a request that is answered by prices asks for a command, whose item is answered by prices too, and the zone and the ledger stay
record GivesPrices (m : Machine) (of : Asks) (later : TimeZone → List Item) : Type 0 where
  asks_for : (a : Asked) × (of ≡ asks.Put a)
  zone : (step_asks None m of).after.zone ≡ m.zone
  ledger : (step_asks None m of).after.ledger ≡ m.ledger
  priced : AreItemsPriced (step_asks None m of).after (later (step_asks None m of).after.zone) → AreItemsPriced m (item_then false of (later m.zone))

-- no close is
no_prices : (m : Machine) (day : ℕ) → is_priced (step_close None m day m.ledger).reply ≡ true → ⊥
no_prices m day = of_close (λ (s : Step). is_priced s.reply ≡ true → ⊥) m (λ reply ledger plain is. true_false (sym is ∙ plain)) None day m.ledger

priced_one : (m : Machine) (of : Asks) (later : TimeZone → List Item) → is_priced (step_asks None m of).reply ≡ true → GivesPrices m of later
priced_one m (asks.Put a) later is = record { asks_for = (a, refl); zone = refl; ledger = refl; priced = λ all. (sym (said_priced (shard_step m.editions m.accounts a).reply) ∙ is, all) }
priced_one m (asks.Close day) later is = absurd (no_prices m day is)
priced_one m asks.Quit later is = absurd (cc)
priced_one m (asks.No why) later is = absurd (cc)

-- requests that are all answered by prices ask for commands, and so are their items
pub all_asked : (m : Machine) (list : List Request) → AreAllPriced (outcome [] m list).replies → ((r : Request) → IsIn list r → IsCommand m.zone r) × AreItemsPriced m (items_for [] m.zone list)
unfolding step
all_asked m [] all = (λ r h. absurd h, tt)
all_asked m (r ∷ list) all =
    let one = priced_one m (asks_of m.zone r) (λ zone. items_for [] zone list) all.0 in
    let rest = all_asked (step None m r).after list all.1 in (
      λ q h. elim h [
        | inl is ↦ subst (IsCommand m.zone) is one.asks_for
        | inr later ↦ subst (λ zone. IsCommand zone q) one.zone (rest.0 q later)
      ],
      one.priced rest.1,
    )

-- the ledger stays where all are answered by prices
pub same_ledger : (m : Machine) (list : List Request) → AreAllPriced (outcome [] m list).replies → (outcome [] m list).after.ledger ≡ m.ledger
unfolding step
same_ledger m [] all = refl
same_ledger m (r ∷ list) all = same_ledger (step None m r).after list all.1 ∙ (priced_one m (asks_of m.zone r) (λ zone. items_for [] zone list) all.0).ledger

-- and a command whose item is answered by prices is so answered, with what is after it
record AsksForPriced (m : Machine) (of : Asks) (later : TimeZone → List Item) : Type 0 where
  reply : is_priced (step_asks None m of).reply ≡ true
  zone : m.zone ≡ (step_asks None m of).after.zone
  later_priced : AreItemsPriced (step_asks None m of).after (later (step_asks None m of).after.zone)

command_one : (m : Machine) (of : Asks) (a : Asked) (later : TimeZone → List Item) → of ≡ asks.Put a → AreItemsPriced m (item_then false of (later m.zone)) → AsksForPriced m of later
command_one m (asks.Put b) a later e all = record { reply = said_priced (shard_step m.editions m.accounts b).reply ∙ all.0; zone = refl; later_priced = all.1 }
command_one m (asks.Close day) a later e all = absurd (cc)
command_one m asks.Quit a later e all = absurd (cc)
command_one m (asks.No why) a later e all = absurd (cc)

-- and requests for commands are all answered by prices where their items are
pub all_priced : (m : Machine) (list : List Request) → ((r : Request) → IsIn list r → IsCommand m.zone r) → AreItemsPriced m (items_for [] m.zone list) → AreAllPriced (outcome [] m list).replies
unfolding step
all_priced m [] asked all = tt
all_priced m (r ∷ list) asked all =
    let its = asked r (inl refl) in
    let one = command_one m (asks_of m.zone r) its.0 (λ zone. items_for [] zone list) its.1 all in
    (one.reply, all_priced (step None m r).after list (λ q h. subst (λ zone. IsCommand zone q) one.zone (asked q (inr h))) one.later_priced)
