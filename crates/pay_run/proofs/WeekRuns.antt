-- What is told of a week after the lines of a journal and a session, and why it is not.
use Rattle.std.proofs.Common.{◌≡◌, ◌≢◌, inl, inr, ℕ, false, List, [], ◌++◌, Option, Some, None, IfSome, refl, sym, ap, ◌∙◌, subst, append-nil}
use Rattle.std.specs.Prelude.{Result, Err, ⊤}
use Rattle.std.proofs.lemmas.Option.{IfSome_then}
use Rattle.jiff.specs.declared.tz.timezone.TimeZone.{TimeZone}
use Rattle.pay_day.specs.Words.{monday}
use Rattle.pay_rules.specs.declared.posting.Posting.{Posting}
use Rattle.pay_rules.specs.Lines.{week_lines}
use Rattle.pay_rules.specs.declared.shown.Line.{Line}
use Rattle.pay_journal.specs.Words.{KeptParts, Beginning, CanFail, kept_parts, KeepsLines, AskedByItsLine}
use Rattle.pay_shard.specs.declared.item.Item.{Item}
use Rattle.pay_shard.specs.declared.desk.DeskFault.{DeskFault}
use Rattle.pay_rules.specs.State.{accepted_of}
use Rattle.pay_shard.specs.Words.{ShardParts, LocalParts, state_now, with_items, AreInPlace}
use Rattle.pay_tables.specs.Words.{FareEditions}
use Rattle.pay_wire.specs.declared.refusal.Refusal.{Refusal}
use Rattle.pay_wire.specs.declared.refusal.Refusal.TheVariants.{NotHere}
use Rattle.pay_session.specs.Words.{line_requests, requests_of, unread, Sides, EndsSo as SessionEnds, FailsSo as SessionFailsSo}
use Rattle.pay_till.specs.Words.{Taken}
use Rattle.pay_session.specs.declared.sessions.Done.{Done}
use Rattle.pay_session.specs.declared.stop.SessionFault.{SessionFault}
use Rattle.pay_session.specs.declared.stop.SessionFault.TheVariants.{Read, Write}
use Rattle.pay_till.specs.declared.till.NoTill.{NoTill}
use Rattle.pay_run.specs.Journals.{GivesBack}
use Rattle.pay_run.specs.LineRuns.{Ends, FailsSo}
use Rattle.pay_run.specs.Machine.{Machine, machine_on}
use Rattle.pay_run.specs.Outcomes.{outcome}
use Rattle.pay_run.specs.Week.{TellsWeek, WeekTold, WeekNotTold, beside_week, nowhere, machine_past, week_fault}
use Rattle.pay_run.specs.declared.week.WeekFault.TheVariants.{Memory}
use Rattle.pay_run.proofs.Tills.{IsPlain}
use Rattle.pay_run.proofs.WholeRuns.{Refuses, Late, after_first, same_origin, same_sides, sides_from, machine_from, accounts_after, fails_from, unkept_plain, ClosesNone}

-- A session over a desk that has what a journal gives back, and that kept lines by what cannot fail: as it began, and as it is at the end.
pub record Resumed {K : Type 0} (HasFailed : K → Type 0) (zone : TimeZone) (editions : FareEditions) (past : List ℕ) : Type 0 where
  pub never : (k : K) → HasFailed k → ⊥
  pub by_line : AskedByItsLine
  pub desk : LocalParts
  pub held : Option (List ℕ)
  pub begun : KeptParts
  pub now : KeptParts
  pub before : NoTill
  pub after : NoTill
  pub gives : GivesBack zone editions (line_requests past) (machine_on zone desk.shard None)
  pub is : begun ≡ record { seen = desk; first = desk.shard.journal; held_first = held; holds = held; stuck = false }
  pub same : (kept_parts (CanFail HasFailed) now).standing ≡ (kept_parts (CanFail HasFailed) begun).standing
  pub placed : AreInPlace 0 now.seen.shard.journal
  pub lines : KeepsLines now

module _ {K : Type 0} {HasFailed : K → Type 0} {zone : TimeZone} {editions : FareEditions} {past : List ℕ} (r : Resumed HasFailed zone editions past) where
  origin : (kept_parts (CanFail HasFailed) r.now).standing.origin ≡ record { editions = r.desk.shard.editions; base = r.desk.shard.base; items = r.desk.shard.journal; holds = r.held }
  origin = same_origin (CanFail HasFailed) r.desk r.held r.begun r.now r.now r.is r.same refl (refl, refl)

  -- the machine that such a session began with is that which the journal gives back
  resumed : machine_from zone (kept_parts (CanFail HasFailed) r.now).standing.origin None ≡ machine_past zone editions past
  resumed = ap (λ (o : Beginning). machine_from zone o None) origin ∙ sym r.gives.machine

  abbrev pub IsEnded : (input : List ℕ) (left written new : Option (List ℕ)) → Done → Sides NoTill → Type 0
  IsEnded input left written new done s = SessionEnds zone 1 (Refuses (CanFail HasFailed) r.begun) (Late (CanFail HasFailed) r.begun) ClosesNone s input left written new done.answered done.quit done.lacked_memory

  abbrev pub HasFailedSo : (input : List ℕ) (left written new : Option (List ℕ)) → SessionFault → Sides NoTill → Type 0
  HasFailedSo input left written new fault s = SessionFailsSo zone 1 (Refuses (CanFail HasFailed) r.begun) (Late (CanFail HasFailed) r.begun) ClosesNone fault s input left written new

  abbrev pub sides : Sides NoTill
  sides = sides_from r.begun.seen.shard.journal r.now.seen.shard r.before r.after

  -- its shard, which is what is seen of it
  seen_all : (shard : ShardParts) (more : List Item) → shard ≡ with_items r.now.seen.shard more shard.memory → more ≡ []
      → shard ≡ record { number = r.now.seen.shard.number; editions = r.now.seen.shard.editions; base = r.now.seen.shard.base; journal = r.now.seen.shard.journal; memory = shard.memory }
  seen_all shard more all none =
      all ∙ ap (λ l. with_items r.now.seen.shard l shard.memory) none
      ∙ ap (λ l. record { number = r.now.seen.shard.number; editions = r.now.seen.shard.editions; base = r.now.seen.shard.base; journal = l; memory = shard.memory }) (append-nil r.now.seen.shard.journal)

  tells : (input : List ℕ) (left written new : Option (List ℕ)) (done : Done) (shard : ShardParts) (account day week : ℕ) (told : List Line) → ((more : List Item) × (shard ≡ with_items r.now.seen.shard more shard.memory) × (r.now.stuck ≡ false → more ≡ [])) → r.now.stuck ≡ false
      → done.lacked_memory ≡ false → week ≡ monday day → told ≡ week_lines shard.editions (accepted_of (state_now shard) account) week → IsEnded input left written new done sides → TellsWeek (machine_past zone editions past) input left account day told
  tells input left written new done shard account day week told all free ample its says h =
      let e = subst (IsEnded input left written new done) (same_sides (CanFail HasFailed) r.begun r.now r.now r.desk r.held r.before r.after r.is refl origin) h in
      let m = machine_from zone (kept_parts (CanFail HasFailed) r.now).standing.origin None in
      let stands : (outcome [] m (requests_of input)).after.accounts ≡ state_now r.now.seen.shard =
      accounts_after (Refuses (CanFail HasFailed) r.begun) (Late (CanFail HasFailed) r.begun) ⊥ ClosesNone (λ till. ⊤) (λ till ledger. ledger ≡ None) (unkept_plain HasFailed r.never (kept_parts (CanFail HasFailed) r.begun).standing) r.by_line zone
      r.now.first r.now.seen.shard (after_first (CanFail HasFailed) r.begun r.now r.now r.placed r.lines) r.before r.after None (λ new. ⊤) (λ new same. tt) tt refl (λ none. none) (requests_of input) e.events e.session (sym e.lacked ∙ ample) in
      let shown = seen_all shard all.0 all.1 (all.2 free) in
      record {
        lines = says ∙ (λ i. week_lines (shown i).editions (accepted_of (state_now (shown i)) account) (its i))
            ∙ ap (λ s. week_lines r.now.seen.shard.editions (accepted_of s account) (monday day)) (sym stands)
            ∙ ap (λ (n : Machine). week_lines n.editions (accepted_of (outcome [] n (requests_of input)).after.accounts account) (monday day)) resumed;
        unread = e.unread;
      }

  pub week_told : (known left written new : Option (List ℕ)) (account day : ℕ) {week : ℕ} {told : List Line} (done : Done) (shard : ShardParts) → ((more : List Item) × (shard ≡ with_items r.now.seen.shard more shard.memory) × (r.now.stuck ≡ false → more ≡ [])) → r.now.stuck ≡ false
      → done.lacked_memory ≡ false → week ≡ monday day → told ≡ week_lines shard.editions (accepted_of (state_now shard) account) week → IfSome known (λ input. IsEnded input left written new done sides) → WeekTold zone editions past (known, left) (account, day) told
  week_told known left written new account day {week} {told} done shard all free ample its says h =
      (r.gives.accepted, IfSome_then known h (λ input e. tells input left written new done shard account day week told all free ample its says e))

  breaks : (fault : SessionFault) (input : List ℕ) (left : Option (List ℕ)) → HasFailedSo input left None None fault sides → FailsSo fault (machine_past zone editions past) input (nowhere left) beside_week
  breaks fault input left h =
      subst (λ (m : Machine). FailsSo fault m input (nowhere left) beside_week) resumed
      (fails_from (Refuses (CanFail HasFailed) r.begun) (Late (CanFail HasFailed) r.begun) ⊥ ClosesNone (λ till. ⊤) (λ till ledger. ledger ≡ None) (unkept_plain HasFailed r.never (kept_parts (CanFail HasFailed) r.begun).standing) r.by_line zone
      r.now.first r.now.seen.shard (after_first (CanFail HasFailed) r.begun r.now r.now r.placed r.lines) r.before r.after None (λ new. ⊤) (λ new same. tt) tt refl fault input left None None
      (subst (HasFailedSo input left None None fault) (same_sides (CanFail HasFailed) r.begun r.now r.now r.desk r.held r.before r.after r.is refl origin) h))

  pub week_breaks : (known left : Option (List ℕ)) (fault : SessionFault) → IfSome known (λ input. HasFailedSo input left None None fault sides) → WeekNotTold zone editions past (known, left) (week_fault fault)
  week_breaks known left (Read answered) h = (r.gives.accepted, IfSome_then known h (λ input e. breaks (Read answered) input left e))
  week_breaks known left (Write answered) h = inr (IfSome_then known h (λ input e. inr (answered, breaks (Write answered) input left e)))

  -- it ended by itself, and memory was wanting for a line or for the journeys
  pub week_lacks : (known left written new : Option (List ℕ)) (done : Done) → IfSome known (λ input. IsEnded input left written new done sides) → WeekNotTold zone editions past (known, left) Memory
  week_lacks known left written new done h = inr (IfSome_then known h (λ input e. inl e.unread))
