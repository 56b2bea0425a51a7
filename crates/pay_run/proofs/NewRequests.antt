-- The newly accepted requests of a run, by themselves: what is left out changes no account, and a ledger concerns closes alone.
use Rattle.std.proofs.Common.{◌≡◌, ◌↔◌, ℕ, zero, suc, Bool, true, false, cond, List, [], ◌∷◌, ◌++◌, take, if◌then◌else◌, refl, sym, ap, ◌∙◌, subst, Option, Some, None}
use Rattle.std.specs.Prelude.{filter}
use Rattle.jiff.specs.declared.tz.timezone.TimeZone.{TimeZone}
use Rattle.pay_rules.specs.InTurn.{IsIn}
use Rattle.pay_postings.specs.Words.{LedgerParts}
use Rattle.pay_tables.specs.Words.{FareEditions}
use Rattle.pay_shard.specs.declared.reply.Reply.{Reply}
use Rattle.pay_shard.specs.declared.reply.Reply.TheVariants as shard_replies
use Rattle.pay_rules.specs.State.{State}
use Rattle.pay_shard.specs.Words.{is_new as is_shard_new, OthersChangeNothing, step as shard_step}
use Rattle.pay_wire.specs.declared.reply.SpelledReply.{SpelledReply}
use Rattle.pay_wire.specs.declared.reply.SpelledReply.TheVariants as replies
use Rattle.pay_session.specs.Words.{asks_of, said}
use Rattle.pay_session.specs.declared.asks.Asks.{Asks}
use Rattle.pay_session.specs.declared.asks.Asks.TheVariants as asks
use Rattle.pay_session.specs.declared.request.Request.{Request}
use Rattle.pay_run.specs.Journals.{is_new, AreAllNew, new_requests, cut_after, of_new, GivesBack}
use Rattle.pay_run.specs.Laws.{AskedAlikeEndsAlike}
use Rattle.pay_run.specs.Machine.{Machine, Failure, Step, new_machine, with_ledger, step_asks, step}
use Rattle.pay_run.specs.Outcomes.{Outcome, outcome, reply_then, is_priced, AreAllPriced}
use Rattle.pay_run.proofs.Closes.{of_close}

true_false : true ≡ false → ⊥
true_false e = cc

-- ---- new replies

-- what is new is prices
pub new_priced : (reply : SpelledReply) → is_new reply ≡ true → is_priced reply ≡ true
new_priced (replies.Priced priced) new = refl
new_priced (replies.Shown shown) new = absurd (cc)
new_priced (replies.Due quote) new = absurd (cc)
new_priced (replies.Closed closed) new = absurd (cc)
new_priced (replies.No why) new = absurd (cc)
new_priced replies.Bye new = absurd (cc)

all_new_priced : (told : List SpelledReply) → AreAllNew told → AreAllPriced told
all_new_priced [] are = tt
all_new_priced (reply ∷ told) are = (new_priced reply are.0, all_new_priced told are.1)

first_new : (reply : SpelledReply) (later : List SpelledReply) → AreAllNew later → (b : Bool) → is_new reply ≡ b → AreAllNew (cond b (reply ∷ later) later)
first_new reply later are true e = (e, are)
first_new reply later are false e = are

all_new : (told : List SpelledReply) → AreAllNew (filter is_new told)
all_new [] = tt
all_new (reply ∷ told) = first_new reply (filter is_new told) (all_new told) (is_new reply) refl

-- a line's reply is new where the shard's is
pub said_new : (reply : Reply) → is_new (said reply) ≡ is_shard_new reply
said_new (shard_replies.Priced priced) = refl
said_new (shard_replies.No why) = refl
said_new (shard_replies.Due quote) = refl
said_new (shard_replies.Shown shown) = refl
said_new (shard_replies.Quotes batch) = refl
said_new shard_replies.Memory = refl

-- ---- over another ledger

-- a request that is answered by prices comes to the same
priced_step : (mark : Option Failure) (m : Machine) (ledger : Option LedgerParts) (of : Asks) → is_priced (step_asks mark m of).reply ≡ true
    → step_asks None (with_ledger m ledger) of ≡ record { reply = (step_asks mark m of).reply; after = with_ledger (step_asks mark m of).after ledger }
priced_step None m ledger (asks.Put a) is = refl
priced_step (Some failure) m ledger (asks.Put a) is = absurd (cc)
priced_step mark m ledger (asks.Close day) is =
    absurd (of_close (λ (s : Step). is_priced s.reply ≡ true → ⊥) m (λ reply kept plain is. true_false (sym is ∙ plain)) mark day m.ledger is)
priced_step mark m ledger asks.Quit is = absurd (cc)
priced_step mark m ledger (asks.No why) is = absurd (cc)

-- so do requests that all are
pub over_ledger : (m : Machine) (ledger : Option LedgerParts) (list : List Request) → AreAllPriced (outcome [] m list).replies
    → outcome [] (with_ledger m ledger) list ≡ record { replies = (outcome [] m list).replies; after = with_ledger (outcome [] m list).after ledger }
unfolding step
over_ledger m ledger [] all = refl
over_ledger m ledger (r ∷ list) all =
    ap (λ (s : Step). reply_then s.reply (outcome [] s.after list)) (priced_step None m ledger (asks_of m.zone r) all.0)
    ∙ ap (reply_then (step None m r).reply) (over_ledger (step None m r).after ledger list all.1)

-- ---- where a list is cut

-- one request before the others, by whether it is newly accepted
cut_one : (r : Request) (n : ℕ) (b : Bool) (later : ℕ → List Request) (new : List Request) → ((k : ℕ) → later k ≡ take k new)
    → (if b then r ∷ later (if b then n else suc n) else later (if b then n else suc n)) ≡ take (suc n) (if b then r ∷ new else new)
cut_one r n true later new rest = ap (λ l. r ∷ l) (rest n)
cut_one r n false later new rest = rest (suc n)

cut : (marks : List (Option Failure)) (m : Machine) (list : List Request) (n : ℕ) → new_requests marks m (cut_after n marks m list) ≡ take n (new_requests marks m list)
cut marks m list zero = refl
cut [] m [] (suc n) = refl
cut (mark ∷ marks) m [] (suc n) = refl
cut [] m (r ∷ list) (suc n) =
    let next = (step None m r).after in
    cut_one r n (is_new (step None m r).reply) (λ k. new_requests [] next (cut_after k [] next list)) (new_requests [] next list) (cut [] next list)
cut (mark ∷ marks) m (r ∷ list) (suc n) =
    let next = (step mark m r).after in
    cut_one r n (is_new (step mark m r).reply) (λ k. new_requests marks next (cut_after k marks next list)) (new_requests marks next list) (cut marks next list)

pub cut_leaves : (m : Machine) (list : List Request) (marks : List (Option Failure)) (n : ℕ) → new_requests marks m (cut_after n marks m list) ≡ take n (new_requests marks m list)
cut_leaves m list marks n = cut marks m list n

-- ---- one list after another

-- a machine after more requests
pub after_both : (m : Machine) (list more : List Request) → (outcome [] m (list ++ more)).after ≡ (outcome [] (outcome [] m list).after more).after
after_both m [] more = refl
after_both m (r ∷ list) more = after_both (step None m r).after list more

both_priced : (m : Machine) (list more : List Request) → AreAllPriced (outcome [] m list).replies → AreAllPriced (outcome [] (outcome [] m list).after more).replies
    → AreAllPriced (outcome [] m (list ++ more)).replies
both_priced m [] more first second = second
both_priced m (r ∷ list) more first second = (first.0, both_priced (step None m r).after list more first.1 second)

-- a machine with its own ledger
own_ledger : (m : Machine) → with_ledger m m.ledger ≡ m
own_ledger m = refl

-- ---- what is left out

module _ (others_stay : OthersChangeNothing) where
  -- a request that is not newly accepted changes no account
  old_step : (mark : Option Failure) (m : Machine) (ledger : Option LedgerParts) (of : Asks) → is_new (step_asks mark m of).reply ≡ false
      → with_ledger (step_asks mark m of).after ledger ≡ with_ledger m ledger
  old_step None m ledger (asks.Put a) old =
      let stays = others_stay m.editions m.accounts (record { entry = record { lane = 0; ticket = 0; command = a }; refused_memory = false }) (sym (said_new (shard_step m.editions m.accounts a).reply) ∙ old) in
      ap (λ (s : State). record { zone = m.zone; editions = m.editions; accounts = s; ledger = ledger }) stays
  old_step (Some failure) m ledger (asks.Put a) old = refl
  old_step mark m ledger (asks.Close day) old =
      of_close (λ (s : Step). with_ledger s.after ledger ≡ with_ledger m ledger) m (λ reply kept plain. refl) mark day m.ledger
  old_step mark m ledger asks.Quit old = refl
  old_step mark m ledger (asks.No why) old = refl

  -- one request before the others, so
  with_one : (mark : Option Failure) (m : Machine) (ledger : Option LedgerParts) (r : Request) (later : List Request) (came : Outcome)
      → outcome [] (with_ledger (step mark m r).after ledger) later ≡ of_new ledger came → (b : Bool) → is_new (step mark m r).reply ≡ b
      → outcome [] (with_ledger m ledger) (if b then r ∷ later else later)
      ≡ record { replies = cond b ((step mark m r).reply ∷ filter is_new came.replies) (filter is_new came.replies); after = with_ledger came.after ledger }
  unfolding step
  with_one mark m ledger r later came rest true e =
      ap (λ (s : Step). reply_then s.reply (outcome [] s.after later)) (priced_step mark m ledger (asks_of m.zone r) (new_priced (step mark m r).reply e))
      ∙ ap (reply_then (step mark m r).reply) rest
  with_one mark m ledger r later came rest false e = subst (λ (n : Machine). outcome [] n later ≡ of_new ledger came) (old_step mark m ledger (asks_of m.zone r) e) rest

  replayed : (marks : List (Option Failure)) (m : Machine) (ledger : Option LedgerParts) (list : List Request)
      → outcome [] (with_ledger m ledger) (new_requests marks m list) ≡ of_new ledger (outcome marks m list)
  replayed [] m ledger [] = refl
  replayed (mark ∷ marks) m ledger [] = refl
  replayed [] m ledger (r ∷ list) =
      let next = (step None m r).after in
      with_one None m ledger r (new_requests [] next list) (outcome [] next list) (replayed [] next ledger list) (is_new (step None m r).reply) refl
  replayed (mark ∷ marks) m ledger (r ∷ list) =
      let next = (step mark m r).after in
      with_one mark m ledger r (new_requests marks next list) (outcome marks next list) (replayed marks next ledger list) (is_new (step mark m r).reply) refl

  pub replay_alone : (m : Machine) (list : List Request) (marks : List (Option Failure)) (ledger : Option LedgerParts)
      → outcome [] (with_ledger m ledger) (new_requests marks m list) ≡ of_new ledger (outcome marks m list)
  replay_alone m list marks ledger = replayed marks m ledger list

  pub stay_new : (m : Machine) (list : List Request) (marks : List (Option Failure)) (ledger : Option LedgerParts)
      → AreAllNew (outcome [] (with_ledger m ledger) (new_requests marks m list)).replies
  stay_new m list marks ledger = subst (λ (o : Outcome). AreAllNew o.replies) (sym (replayed marks m ledger list)) (all_new (outcome marks m list).replies)

  all_accepted : (m : Machine) (list : List Request) (marks : List (Option Failure)) (ledger : Option LedgerParts)
      → AreAllPriced (outcome [] (with_ledger m ledger) (new_requests marks m list)).replies
  all_accepted m list marks ledger = all_new_priced (outcome [] (with_ledger m ledger) (new_requests marks m list)).replies (stay_new m list marks ledger)

  -- ---- in any order

  pub in_any_order : AskedAlikeEndsAlike → (m : Machine) (list other : List Request) (marks : List (Option Failure)) (ledger : Option LedgerParts)
      → ((r : Request) → IsIn (new_requests marks m list) r ↔ IsIn other r)
      → AreAllPriced (outcome [] (with_ledger m ledger) other).replies × ((outcome [] (with_ledger m ledger) other).after ≡ with_ledger (outcome marks m list).after ledger)
  in_any_order forgets m list other marks ledger alike =
      let both = forgets (with_ledger m ledger) (new_requests marks m list) other alike (all_accepted m list marks ledger) in
      (both.0, both.1 ∙ ap (λ (o : Outcome). o.after) (replayed marks m ledger list))

  -- ---- a front

  pub front_replays : (m : Machine) (list : List Request) (marks : List (Option Failure)) (ledger : Option LedgerParts) (n : ℕ)
      → outcome [] (with_ledger m ledger) (take n (new_requests marks m list)) ≡ of_new ledger (outcome marks m (cut_after n marks m list))
  front_replays m list marks ledger n =
      subst (λ l. outcome [] (with_ledger m ledger) l ≡ of_new ledger (outcome marks m (cut_after n marks m list))) (cut marks m list n) (replayed marks m ledger (cut_after n marks m list))

  -- ---- after what was kept before

  pub kept_gives : (zone : TimeZone) (editions : FareEditions) (kept : List Request) (m : Machine) (list : List Request) (marks : List (Option Failure)) → GivesBack zone editions kept m
      → GivesBack zone editions (kept ++ new_requests marks m list) (outcome marks m list).after
  kept_gives zone editions kept m list marks gives =
      let came = outcome marks m list in
      let ledger = came.after.ledger in
      let new = new_requests marks m list in
      let begun = new_machine zone editions ledger in
      let same = over_ledger (new_machine zone editions m.ledger) ledger kept gives.accepted in
      let stands : (outcome [] begun kept).after ≡ with_ledger m ledger = ap (λ (o : Outcome). o.after) same ∙ ap (λ (n : Machine). with_ledger n ledger) gives.machine in
      let first : AreAllPriced (outcome [] begun kept).replies = subst (λ (o : Outcome). AreAllPriced o.replies) (sym same) gives.accepted in
      let second : AreAllPriced (outcome [] (outcome [] begun kept).after new).replies = subst (λ (n : Machine). AreAllPriced (outcome [] n new).replies) (sym stands) (all_accepted m list marks ledger) in
      record {
        accepted = both_priced begun kept new first second;
        machine = after_both begun kept new ∙ ap (λ (n : Machine). (outcome [] n new).after) stands ∙ ap (λ (o : Outcome). o.after) (replayed marks m ledger list) ∙ own_ledger came.after;
      }

  pub kept_in_any_order : AskedAlikeEndsAlike → (zone : TimeZone) (editions : FareEditions) (kept other : List Request) (m : Machine) → ((r : Request) → IsIn kept r ↔ IsIn other r)
      → GivesBack zone editions kept m → GivesBack zone editions other m
  kept_in_any_order forgets zone editions kept other m alike gives =
      let both = forgets (new_machine zone editions m.ledger) kept other alike gives.accepted in
      record { accepted = both.0; machine = both.1 ∙ gives.machine }
