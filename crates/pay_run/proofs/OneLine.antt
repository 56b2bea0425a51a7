-- What came of one line over a shard is a step of the machine.
use Rattle.std.proofs.Common.{◌≡◌, inl, ℕ, ◌+◌, suc, Bool, true, false, List, [], ◌∷◌, ◌++◌, append-nil, refl, sym, ap, ◌∙◌, subst, Option, Some, None}
use Rattle.std.specs.Prelude.{Result, Ok, Err}
use Rattle.std.specs.List.{slice_get}
use Rattle.jiff.specs.declared.tz.timezone.TimeZone.{TimeZone}
use Rattle.sqlite.specs.State.{State as DatabaseState, HasCleanDisk}
use Rattle.pay_close.specs.Closes.{Closes as LedgerCloses}
use Rattle.pay_close.specs.Words.{OneShardGathersAll}
use Rattle.pay_postings.specs.Words.{LedgerParts}
use Rattle.pay_rules.specs.declared.posting.Posting.{Posting}
use Rattle.pay_rules.specs.declared.fix.Fix.{Fix}
use Rattle.pay_rules.specs.declared.fares.FixFault.{FixFault}
use Rattle.pay_rules.specs.declared.fares.TapFault.{TapFault}
use Rattle.pay_rules.specs.declared.priced.Priced.{Priced}
use Rattle.pay_rules.specs.declared.tap.Tap.{Tap}
use Rattle.pay_rules.specs.FixResults.{fix_result}
use Rattle.pay_rules.specs.State.{State, accepted_of}
use Rattle.pay_rules.specs.TapResults.{tap_result}
use Rattle.pay_shard.specs.Machine.{step_tap_result, step_fix_result, marked_step}
use Rattle.pay_session.specs.Words.{asks_of, IsAnsweredIn}
use Rattle.pay_session.specs.declared.request.Request.{Request}
use Rattle.pay_shard.specs.Words.{LocalParts, Standing, desk_parts, item_step, replay, answers_from, AreInPlace, NothingIsLost, step as shard_step, commands_of as commands_of_items}
use Rattle.pay_shard.specs.declared.asked.Asked.{Asked}
use Rattle.pay_shard.specs.declared.asked.Asked.TheVariants as asked
use Rattle.pay_shard.specs.declared.item.Item.{Item}
use Rattle.pay_shard.specs.declared.reply.Answer.{Answer}
use Rattle.pay_shard.specs.declared.reply.Reply.{Reply}
use Rattle.pay_shard.specs.declared.reply.Reply.TheVariants as desk_reply
use Rattle.pay_tables.specs.Words.{FareEditions}
use Rattle.pay_till.specs.Words.{Taken, commands_of, MaySometimeRefuse, MaySometimeBeLate}
use Rattle.pay_wire.specs.declared.refusal.Refusal.{Refusal}
use Rattle.pay_wire.specs.declared.reply.SpelledReply.{SpelledReply}
use Rattle.pay_run.specs.Ledgers.{HasLedger}
use Rattle.pay_run.specs.Machine.{Machine, machine_on, step, Step}
use Rattle.pay_run.specs.OneLine.{IsAnsweredAs}
use Rattle.pay_run.specs.Outcomes.{tells_failure}
use Rattle.pay_run.proofs.AllRequests.{none_left, stepped}
use Rattle.pay_run.proofs.LedgerCloses.{ledger_closes, was_clean}
use Rattle.pay_run.proofs.OneRequest.{machine_at, one_steps, was_sound}
use Rattle.pay_run.proofs.Tills.{IsPlain}

-- ---- what is answered by want of memory changes nothing

tap_stays : (state : State) (tap : Tap) (r : Result Priced TapFault) → (step_tap_result state tap r).reply ≡ desk_reply.Memory → (step_tap_result state tap r).after ≡ state
tap_stays state tap (Ok priced) is = absurd (cc)
tap_stays state tap (Err fault) is = refl

fix_stays : (state : State) (fix : Fix) (r : Result Priced FixFault) → (step_fix_result state fix r).reply ≡ desk_reply.Memory → (step_fix_result state fix r).after ≡ state
fix_stays state fix (Ok priced) is = absurd (cc)
fix_stays state fix (Err fault) is = refl

memory_stays : (editions : FareEditions) (state : State) (a : Asked) → (shard_step editions state a).reply ≡ desk_reply.Memory → (shard_step editions state a).after ≡ state
memory_stays editions state (asked.Tap tap) is = tap_stays state tap (tap_result editions (accepted_of state tap.account) tap) is
memory_stays editions state (asked.Fix fix) is = fix_stays state fix (fix_result editions (accepted_of state fix.account) fix) is
memory_stays editions state (asked.Due account day) is = refl
memory_stays editions state (asked.Show account day) is = refl
memory_stays editions state (asked.Quotes day shard of) is = refl

-- so what is answered alike changes alike, whether memory was refused or not
same_after : (editions : FareEditions) (state : State) (a : Asked) (b c : Bool) → (marked_step b editions state a).reply ≡ (marked_step c editions state a).reply → (marked_step b editions state a).after ≡ (marked_step c editions state a).after
same_after editions state a true true is = refl
same_after editions state a false false is = refl
same_after editions state a true false is = sym (memory_stays editions state a (sym is))
same_after editions state a false true is = memory_stays editions state a is

same_step : (editions : FareEditions) (state : State) (x y : Item) → y.entry.command ≡ x.entry.command → (item_step editions state y).reply ≡ (item_step editions state x).reply
    → (item_step editions state y).after ≡ (item_step editions state x).after
same_step editions state x y same is =
    let moved : (a : Asked) → y.entry.command ≡ a → (marked_step y.refused_memory editions state y.entry.command).reply ≡ (marked_step x.refused_memory editions state a).reply
    → (marked_step y.refused_memory editions state y.entry.command).after ≡ (marked_step x.refused_memory editions state a).after
    = λ a e. subst (λ (a : Asked). (marked_step y.refused_memory editions state y.entry.command).reply ≡ (marked_step x.refused_memory editions state a).reply
    → (marked_step y.refused_memory editions state y.entry.command).after ≡ (marked_step x.refused_memory editions state a).after) e (same_after editions state y.entry.command y.refused_memory x.refused_memory) in
    moved x.entry.command same is

-- ---- a journal that goes on

-- Of a journal whose commands go on from those of another, and in which no answer is lost, a front comes to what the other comes to.
pub record GoesOn (editions : FareEditions) (state : State) (old new : List Item) (more : List (ℕ × Asked)) : Type 0 where
  pub front : List Item
  pub back : List Item
  pub whole : new ≡ front ++ back
  pub same : replay editions state front ≡ replay editions state old
  pub commands : commands_of_items back ≡ more

-- the answers of the one stand among those of the other
abbrev pub StandStill : ℕ → ℕ → FareEditions → State → State → List Item → List Item → Type 0
StandStill number place editions state state' old new =
    (i : ℕ) (a : Answer) → slice_get (answers_from number place editions state old) i ≡ Some a → slice_get (answers_from number place editions state' new) i ≡ Some a

pub goes_on : (number place : ℕ) (editions : FareEditions) (state : State) (old new : List Item) (more : List (ℕ × Asked)) → commands_of_items new ≡ commands_of_items old ++ more
    → StandStill number place editions state state old new → GoesOn editions state old new more
goes_on number place editions state [] new more commands kept = record { front = []; back = new; whole = refl; same = refl; commands = commands }
goes_on number place editions state (x ∷ old) [] more commands kept = absurd (none commands)
  where
    none : ◌≡◌ {A = List (ℕ × Asked)} [] ((x.entry.ticket, x.entry.command) ∷ (commands_of_items old ++ more)) → ⊥
    none e = cc
goes_on number place editions state (x ∷ old) (y ∷ new) more commands kept =
    let both : (y.entry.ticket, y.entry.command) ≡ (x.entry.ticket, x.entry.command) = heads _ _ _ _ commands in
    let reply : (item_step editions state y).reply ≡ (item_step editions state x).reply = same_reply _ _ (kept 0 _ refl) in
    let after : (item_step editions state y).after ≡ (item_step editions state x).after = same_step editions state x y (ap (λ p. p.1) both) reply in
    let later = goes_on number (place + 1) editions (item_step editions state x).after old new more (tails _ _ _ _ commands)
    (subst (λ s. StandStill number (place + 1) editions (item_step editions state x).after s old new) after (λ i a h. kept (suc i) a h)) in
    record {
      front = y ∷ later.front;
      back = later.back;
      whole = ap (λ l. y ∷ l) later.whole;
      same = ap (λ s. replay editions s later.front) after ∙ later.same;
      commands = later.commands;
    }
  where
    heads : (x y : ℕ × Asked) (xs ys : List (ℕ × Asked)) → x ∷ xs ≡ y ∷ ys → x ≡ y
    heads x y xs ys e = cc

    tails : (x y : ℕ × Asked) (xs ys : List (ℕ × Asked)) → x ∷ xs ≡ y ∷ ys → xs ≡ ys
    tails x y xs ys e = cc

    same_reply : (a b : Answer) → ◌≡◌ {A = Option Answer} (Some a) (Some b) → a.reply ≡ b.reply
    same_reply a b e = cc

-- ---- over a ledger

module _ {T : Type 0} (stands : T → DatabaseState) where
  -- what a close does to the ledger
  abbrev pub Closes : T → ℕ → ℕ → List Taken → Result (List Posting) Refusal → T → Type 0
  Closes before day of put result after = LedgerCloses (stands before) (stands after) of put result

  local_plain : (before : Standing (FareEditions × State)) → OneShardGathersAll
      → IsPlain {T = T} (MaySometimeRefuse desk_parts before) (MaySometimeBeLate desk_parts before) ⊥ Closes (λ till. HasCleanDisk (stands till)) (λ till ledger. HasLedger (stands till) ledger)
  unfolding MaySometimeRefuse MaySometimeBeLate
  local_plain before gathers = record {
    memory = λ fault h. inl h.2;
    never = λ h. h.3;
    was_sound = λ before after day put result closes clean. was_clean (stands before) (stands after) put result closes clean;
    closes = λ before after m day put result closes quotes answers clean has. ledger_closes gathers m day (stands before) (stands after) put answers result closes clean has;
  }

  module _ (gathers : OneShardGathersAll) (zone : TimeZone) (old new : LocalParts) (before after : T) (request : Request) (reply : SpelledReply) (e : IsAnsweredIn desk_parts Closes zone request (old, before) (new, after) reply) where
    pub was_sound_before : HasCleanDisk (stands after) → HasCleanDisk (stands before)
    was_sound_before clean =
        let stood = (desk_parts old).standing in
        was_sound (MaySometimeRefuse desk_parts stood) (MaySometimeBeLate desk_parts stood) ⊥ Closes (λ till. HasCleanDisk (stands till)) (λ till ledger. HasLedger (stands till) ledger) (local_plain stood gathers) zone (asks_of zone request) e.event before after e.serves.served clean

    pub same_editions : new.shard.editions ≡ old.shard.editions
    same_editions = ap (λ (s : Standing (FareEditions × State)). s.origin.0) e.serves.same

    same_base : new.shard.base ≡ old.shard.base
    same_base = ap (λ (s : Standing (FareEditions × State)). s.origin.1) e.serves.same

    pub answered : old.shard.number ≡ new.shard.number → AreInPlace 0 new.shard.journal → HasCleanDisk (stands after) → (ledger : Option LedgerParts) → HasLedger (stands before) ledger
        → IsAnsweredAs (machine_on zone old.shard ledger) request reply new.shard (HasLedger (stands after))
    answered number placed clean ledger has =
        let stood = (desk_parts old).standing in
        let s = e.serves in
        let kept : StandStill new.shard.number 0 new.shard.editions new.shard.base new.shard.base old.shard.journal new.shard.journal =
        λ i a h. s.kept i a (subst (λ (o : Option Answer). o ≡ Some a) (λ j. slice_get (answers_from (sym number j) 0 (same_editions j) (same_base j) old.shard.journal) i) h) in
        let g = goes_on new.shard.number 0 new.shard.editions new.shard.base old.shard.journal new.shard.journal (commands_of e.event.put) s.added kept in
        let one = one_steps (MaySometimeRefuse desk_parts stood) (MaySometimeBeLate desk_parts stood) ⊥ Closes (λ till. HasCleanDisk (stands till)) (λ till ledger. HasLedger (stands till) ledger) (local_plain stood gathers)
        new.shard.number zone new.shard.editions new.shard.base g.front g.back new.shard.journal ledger (asks_of zone request) e.event [] before after placed g.whole s.served (g.commands ∙ sym (append-nil (commands_of e.event.put))) s.said clean has in
        let began : machine_at zone new.shard.editions new.shard.base g.front ledger ≡ machine_on zone old.shard ledger =
        (λ i. record { zone = zone; editions = same_editions i; accounts = g.same i; ledger = ledger })
        ∙ (λ i. record { zone = zone; editions = old.shard.editions; accounts = replay (same_editions i) (same_base i) old.shard.journal; ledger = ledger }) in
        let ended : new.shard.journal ≡ g.front ++ one.own = g.whole ∙ ap (λ l. g.front ++ l) (one.parts ∙ ap (λ l. one.own ++ l) (none_left one.rest one.commands) ∙ append-nil one.own) in
        record {
          mark = one.mark;
          ledger = one.ledger_after;
          step = ap (λ (m : Machine). step one.mark m request) (sym began) ∙ stepped one.mark request (machine_at zone new.shard.editions new.shard.base g.front ledger) _ one.step
              ∙ ap (λ (r : SpelledReply). record { reply = r; after = machine_at zone new.shard.editions new.shard.base (g.front ++ one.own) one.ledger_after }) e.told
              ∙ ap (λ l. record { reply = reply; after = machine_at zone new.shard.editions new.shard.base l one.ledger_after }) (sym ended);
          ample = λ h. one.ample (ap tells_failure e.told ∙ h);
          has = one.holds;
        }
