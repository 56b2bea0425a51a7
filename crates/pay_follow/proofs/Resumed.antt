-- A replica goes on where the connection to its log was lost.
use Rattle.std.proofs.Common.{◌≡◌, ◌≤◌, ℕ, ◌+◌, suc, true, false, Bool, List, [], ◌∷◌, ◌++◌, length, drop, append_assoc, refl, sym, ap, ◌∙◌, subst, arith}
use Rattle.std.proofs.lemmas.Bool.{true≢false}
use Rattle.jiff.specs.declared.tz.timezone.TimeZone.{TimeZone}
use Rattle.sqlite.specs.Held.{Held, state}
use Rattle.sqlite.specs.State.{HasCleanDisk}
use Rattle.sqlite.specs.Store.{Ghosts}
use Rattle.pay_shard.specs.Words.{ShardParts}
use Rattle.pay_run.specs.Words.{Machine}
use Rattle.pay_follow.specs.Partitions.{PartitionParts, AreLines, Within, publish, read_on, read_up_to}
use Rattle.pay_follow.specs.Following.{outcome_of, under, HasFollowed, HasStopped, IsOwed, IsStoppedAt, IfRead, Replica, replica, Follows}
use Rattle.pay_follow.specs.Resuming.{HasEnded, IsUnderway, Moment, unopened_stop}
use Rattle.pay_follow.specs.declared.stop.LogFault.{LogFault}
use Rattle.pay_follow.specs.declared.stop.Stop.{Stop}
use Rattle.pay_follow.specs.declared.stop.Stop.TheVariants.{Read, Unanswered, Memory, Unpublished, NoMorePlaces}
use Rattle.pay_follow.proofs.FollowedLines.{follows_then}

-- ---- what one opening publishes, after all before it

-- after `p`, what was published since `b`
abbrev pub shifted : PartitionParts → PartitionParts → PartitionParts → PartitionParts
shifted p b a = record { last = a.last; published = p.published ++ drop (length b.published) a.published }

drop_front : {A : Type 0} (xs ys : List A) → drop (length xs) (xs ++ ys) ≡ ys
drop_front [] ys = refl
drop_front (x ∷ xs) ys = drop_front xs ys

lines_within : (H H' : ℕ → List ℕ → Type 0) → Within H H' → (place : ℕ) (lines : List (List ℕ)) → AreLines H place lines → AreLines H' place lines
lines_within H H' w place [] are = tt
lines_within H H' w place (x ∷ xs) are = (w place x are.0, lines_within H H' w (suc place) xs are.1)

followed_moved : (H H' : ℕ → List ℕ → Type 0) → Within H H' → (p b a : PartitionParts) (was now : Machine) → p.last ≡ b.last → HasFollowed H b a was now → HasFollowed H' p (shifted p b a) was now
followed_moved H H' w p b a was now at f = record {
  lines = f.lines;
  are_lines = subst (λ k. AreLines H' (suc k) f.lines) (sym at) (lines_within H H' w (suc b.last) f.lines f.are_lines);
  read = f.read ∙ ap (λ k. k + length f.lines) (sym at);
  published = ap (λ l. p.published ++ drop (length b.published) l) f.published
      ∙ ap (λ l. p.published ++ l) (drop_front b.published (under (suc b.last) (outcome_of was f.lines).replies))
      ∙ ap (λ k. p.published ++ under (suc k) (outcome_of was f.lines).replies) (sym at);
  machine = f.machine;
}

pub follows_moved : {S : Type 0} (store : Ghosts S) (H H' : ℕ → List ℕ → Type 0) (zone : TimeZone) → Within H H' → (p : PartitionParts) (before after : Replica (Held S)) → p.last ≡ before.partition.last
    → Follows store H zone before after → Follows store H' zone (replica before.shard before.ledger p) (replica after.shard after.ledger (shifted p before.partition after.partition))
follows_moved store H H' zone w p before after at f clean ledger has =
    let it = f clean ledger has in
    (it.0, it.1, followed_moved H H' w p before.partition after.partition _ _ at it.2)

-- ---- from an opening on

-- where a replica is when its partition was opened again, and a reply that was owed is published
pub record IsOpen {S : Type 0} (store : Ghosts S) (H : ℕ → List ℕ → Type 0) (zone : TimeZone) (began : Replica (Held S)) (shard : ShardParts) (ledger : Held S) (b : PartitionParts) : Type 0 where
  pub parts : PartitionParts
  pub at : parts.last ≡ b.last
  pub follows : Follows store H zone began (replica shard ledger parts)
  pub since : HasCleanDisk (state store ledger) → HasCleanDisk (state store began.ledger)

pub opened : {S : Type 0} (store : Ghosts S) (H : ℕ → List ℕ → Type 0) (zone : TimeZone) (began : Replica (Held S)) (now : Moment (Held S)) (b : PartitionParts) → (now.owed ≡ false → b ≡ read_up_to now.last)
    → (now.owed ≡ true → 1 ≤ now.last → b ≡ publish (read_up_to now.last) now.reply) → IsUnderway store H zone began now → (o : Bool) → now.owed ≡ o → IsOpen store H zone began now.shard now.ledger b
opened store H zone began now b paid owed u false e = record {
  parts = u.until.partition;
  at = (u.paid e).1 ∙ sym (ap (λ (p : PartitionParts). p.last) (paid e));
  follows = subst (λ r. Follows store H zone began r) (u.paid e).0 u.follows;
  since = λ c. u.since (u.clean c);
}
opened store H zone began now b paid owed u true e =
    let o = u.owed e in
    record {
      parts = publish (read_on o.0) now.reply;
      at = o.1 ∙ sym (ap (λ (p : PartitionParts). p.last) (owed e (subst (λ k. 1 ≤ k) o.1 (omega arith))));
      follows = o.2;
      since = λ c. u.since (u.clean c);
    }

-- the end, if it stops so
abbrev end_at : Stop → PartitionParts → PartitionParts
end_at (Read fault) p = p
end_at (Unanswered why) p = read_on p
end_at Memory p = read_on p
end_at (Unpublished fault) p = read_on p
end_at NoMorePlaces p = p

stops_there : (stop : Stop) (u a p : PartitionParts) → IsStoppedAt stop u a → IsStoppedAt stop p (end_at stop p)
stops_there (Read fault) u a p s = refl
stops_there (Unanswered why) u a p s = (refl, s.1)
stops_there Memory u a p s = refl
stops_there (Unpublished fault) u a p s = refl
stops_there NoMorePlaces u a p s = refl

goes_on_there : {S : Type 0} (stop : Stop) (until : Replica (Held S)) (shard : ShardParts) (ledger : Held S) (a p : PartitionParts) → IfRead stop until (replica shard ledger a) → IfRead stop (replica until.shard until.ledger p) (replica shard ledger (end_at stop p))
goes_on_there (Read fault) until shard ledger a p s = ap (λ (r : Replica _). replica r.shard r.ledger p) s
goes_on_there (Unanswered why) until shard ledger a p s = tt
goes_on_there Memory until shard ledger a p s = tt
goes_on_there (Unpublished fault) until shard ledger a p s = tt
goes_on_there NoMorePlaces until shard ledger a p s = tt

-- until it stopped, since it began
later : {S : Type 0} (store : Ghosts S) (H H' : ℕ → List ℕ → Type 0) (zone : TimeZone) → Within H H' → (began before after : Replica (Held S)) (stop : Stop)
    → (opening : IsOpen store H' zone began before.shard before.ledger before.partition) → (h : HasStopped store H zone before after stop)
    → Follows store H' zone began (replica h.until.shard h.until.ledger (shifted opening.parts before.partition h.until.partition))
later store H H' zone w began before after stop opening h =
    follows_then store H' zone began (replica before.shard before.ledger opening.parts) (replica h.until.shard h.until.ledger (shifted opening.parts before.partition h.until.partition)) h.since opening.follows
    (follows_moved store H H' zone w opening.parts before h.until opening.at h.follows)

pub ends : {S : Type 0} (store : Ghosts S) (H H' : ℕ → List ℕ → Type 0) (zone : TimeZone) → Within H H' → (began before after : Replica (Held S)) (stop : Stop)
    → IsOpen store H' zone began before.shard before.ledger before.partition → HasStopped store H zone before after stop → HasEnded store H' zone began (after.shard, after.ledger) stop
ends store H H' zone w began before after stop opening h =
    let p = shifted opening.parts before.partition h.until.partition in (
      end_at stop p,
      record {
        until = replica h.until.shard h.until.ledger p;
        follows = later store H H' zone w began before after stop opening h;
        since = λ c. opening.since (h.since c);
        clean = h.clean;
        stopped = stops_there stop h.until.partition after.partition p h.stopped;
        goes_on = goes_on_there stop h.until after.shard after.ledger after.partition p h.goes_on;
      },
    )

-- the connection was lost before the next line
pub lost_before : {S : Type 0} (store : Ghosts S) (H H' : ℕ → List ℕ → Type 0) (zone : TimeZone) → Within H H' → (began before after : Replica (Held S)) (fault : LogFault) (reply : List ℕ)
    → IsOpen store H' zone began before.shard before.ledger before.partition → HasStopped store H zone before after (Read fault)
    → IsUnderway store H' zone began (record { shard = after.shard; ledger = after.ledger; last = after.partition.last; owed = false; reply = reply })
lost_before store H H' zone w began before after fault reply opening h =
    let p = shifted opening.parts before.partition h.until.partition in
    record {
      until = replica h.until.shard h.until.ledger p;
      follows = later store H H' zone w began before after (Read fault) opening h;
      since = λ c. opening.since (h.since c);
      clean = h.clean;
      paid = λ _. (sym (ap (λ (r : Replica _). replica r.shard r.ledger p) h.goes_on), ap (λ (q : PartitionParts). q.last) (sym h.stopped));
      owed = λ e. absurd (true≢false (sym e));
    }

-- and before a reply was published
pub lost_after : {S : Type 0} (store : Ghosts S) (H H' : ℕ → List ℕ → Type 0) (zone : TimeZone) → Within H H' → (began before after : Replica (Held S)) (fault : LogFault) (reply : List ℕ)
    → (HasCleanDisk (state store after.ledger) → HasCleanDisk (state store before.ledger))
    → IsOpen store H' zone began before.shard before.ledger before.partition → HasStopped store H zone before after (Unpublished fault) → IsOwed store H zone before after reply
    → IsUnderway store H' zone began (record { shard = after.shard; ledger = after.ledger; last = after.partition.last; owed = true; reply = reply })
lost_after store H H' zone w began before after fault reply clean opening h owed =
    let p = shifted opening.parts before.partition h.until.partition in
    let was : PartitionParts = record { last = owed.was; published = opening.parts.published ++ owed.more } in
    let all : PartitionParts = record { last = suc owed.was; published = (before.partition.published ++ owed.more) ++ (suc owed.was, reply) ∷ [] } in
    let entry = (suc owed.was, reply) ∷ [] in
    let same : shifted opening.parts before.partition all ≡ publish (read_on was) reply =
    ap (λ l. record { last = suc owed.was; published = l })
    (ap (λ l. opening.parts.published ++ drop (length before.partition.published) l) (append_assoc before.partition.published owed.more entry)
    ∙ ap (λ l. opening.parts.published ++ l) (drop_front before.partition.published (owed.more ++ entry))
    ∙ sym (append_assoc opening.parts.published owed.more entry)) in
    record {
      until = replica h.until.shard h.until.ledger p;
      follows = later store H H' zone w began before after (Unpublished fault) opening h;
      since = λ c. opening.since (h.since c);
      clean = h.clean;
      paid = λ e. absurd (true≢false e);
      owed = λ _. (
        was,
        sym owed.next,
        subst (λ q. Follows store H' zone began (replica after.shard after.ledger q)) same
            (follows_then store H' zone began (replica before.shard before.ledger opening.parts) (replica after.shard after.ledger (shifted opening.parts before.partition all)) clean opening.follows
            (follows_moved store H H' zone w opening.parts before (replica after.shard after.ledger all) opening.at owed.follows)),
      );
    }

-- ---- where nothing is opening

pub unopened : {S : Type 0} (store : Ghosts S) (H : ℕ → List ℕ → Type 0) (zone : TimeZone) (began : Replica (Held S)) (now : Moment (Held S)) (fault : LogFault) (o : Bool) → now.owed ≡ o
    → IsUnderway store H zone began now → HasEnded store H zone began (now.shard, now.ledger) (unopened_stop fault o)
unopened store H zone began now fault false e u = (u.until.partition, record { until = u.until; follows = u.follows; since = u.since; clean = u.clean; stopped = refl; goes_on = sym (u.paid e).0 })
unopened store H zone began now fault true e u = (read_on u.until.partition, record { until = u.until; follows = u.follows; since = u.since; clean = u.clean; stopped = refl; goes_on = tt })

pub no_more : {S : Type 0} (store : Ghosts S) (H : ℕ → List ℕ → Type 0) (zone : TimeZone) (began : Replica (Held S)) (now : Moment (Held S)) → IsUnderway store H zone began now → HasEnded store H zone began (now.shard, now.ledger) NoMorePlaces
no_more store H zone began now u = (u.until.partition, record { until = u.until; follows = u.follows; since = u.since; clean = u.clean; stopped = refl; goes_on = tt })
