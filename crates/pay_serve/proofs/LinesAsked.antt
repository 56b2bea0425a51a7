-- What the lanes of a service sent is asked for by lines.
use Rattle.std.proofs.Common.{◌≡◌, ◌==◌, ℕ, zero, suc, Bool, true, false, cond, if◌then◌else◌, List, [], ◌∷◌, ◌++◌, All, Option, Some, None, refl, sym, ap, ◌∙◌, subst, append_assoc, append-nil}
use Rattle.std.specs.List.{AllByRecursion, AllZip, find}
use Rattle.std.proofs.lemmas.List.Elements.{All-nil, All-cons, All-head, All-tail}
use Rattle.jiff.specs.declared.tz.timezone.TimeZone.{TimeZone}
use Rattle.pay_mailbox.specs.Words.{SenderParts}
use Rattle.pay_shard.specs.Words.{command_under}
use Rattle.pay_shard.specs.declared.asked.Asked.{Asked}
use Rattle.pay_shard.specs.declared.item.Entry.{Entry}
use Rattle.pay_session.specs.Words.{IsAskedIn, AreAskedIn, IsAllowed, AreAskedAt}
use Rattle.pay_session.specs.declared.port.Role.{Role}
use Rattle.pay_session.specs.declared.port.Role.TheVariants as role
use Rattle.pay_lanes.specs.Words.{LaneParts, IsSameLane, IsNewLane}
use Rattle.pay_office.specs.Words.{LaneDeskParts, all_sent, commands_sent, NoneIsHidden}
use Rattle.pay_office.specs.Waits.{entry_under, command_beside, commands_below}
use Rattle.pay_serve.specs.Lanes.{HasAskedIn, HasAskedAt, HasGoneOn}

-- ---- commands that each are so, one after another

module _ (Is : Asked → Type 0) where
  abbrev AreAll : List (ℕ × Asked) → Type 0
  AreAll = AllByRecursion (λ (t : ℕ × Asked). Is t.1)

  abbrev pub AreEntries : List Entry → Type 0
  AreEntries = AllByRecursion (λ (e : Entry). Is e.command)

  both : (ts us : List (ℕ × Asked)) → AreAll ts → AreAll us → AreAll (ts ++ us)
  both [] us first rest = rest
  both (t ∷ ts) us first rest = (first.0, both ts us first.1 rest)

  found_one : (test : Entry → Bool) (es : List Entry) (e : Entry) → AreEntries es → find test es ≡ Some e → Is e.command
  found_one test [] e all found = absurd (cc)
  found_one test (x ∷ es) e all found = by (test x) (found_one test es e all.1) found
    where
      by : (b : Bool) → (find test es ≡ Some e → Is e.command) → cond b (Some x) (find test es) ≡ Some e → Is e.command
      by true rest is = let same : x ≡ e = cc in subst (λ (e : Entry). Is e.command) same all.0
      by false rest is = rest is

  beside : (ticket : ℕ) (es : List Entry) (found : Option Entry) → AreEntries es → entry_under ticket es ≡ found → AreAll (command_beside ticket found)
  beside ticket es None all is = tt
  beside ticket es (Some e) all is = (found_one (λ (x : Entry). x.ticket == ticket) es e all is, tt)

  commands : (next : ℕ) (es : List Entry) → AreEntries es → AreAll (commands_below next es)
  commands zero es all = tt
  commands (suc ticket) es all =
      both (commands_below ticket es) (command_beside ticket (entry_under ticket es)) (commands ticket es all) (beside ticket es (entry_under ticket es) all refl)

  under : (ticket : ℕ) (taken : List (ℕ × Asked)) (a : Asked) → AreAll taken → command_under ticket taken ≡ Some a → Is a
  under ticket [] a all is = absurd (cc)
  under ticket (t ∷ taken) a all is = by (t.0 == ticket) (under ticket taken a all.1) is
    where
      by : (b : Bool) → (command_under ticket taken ≡ Some a → Is a) → (if b then Some t.1 else command_under ticket taken) ≡ Some a → Is a
      by true rest e = let same : t.1 ≡ a = cc in subst Is same all.0
      by false rest e = rest e

  entries : (taken : List (ℕ × Asked)) (es : List Entry) → AreAll taken → AllByRecursion (λ (e : Entry). command_under e.ticket taken ≡ Some e.command) es → AreEntries es
  entries taken [] all stand = tt
  entries taken (e ∷ es) all stand = (under e.ticket taken e.command all stand.0, entries taken es all stand.1)

  -- what a lane sent since is so where what its desk took more is
  since : (before after : LaneParts) (more : List (ℕ × Asked)) → commands_sent after ≡ commands_sent before ++ more → AreAll more → NoneIsHidden after → AreEntries (all_sent before.shards) → AreEntries (all_sent after.shards)
  since before after more is all none had =
      entries (commands_sent after) (all_sent after.shards) (subst AreAll (sym is) (both (commands_sent before) more (commands before.next (all_sent before.shards) had) all)) none

  nothing_sent : (senders : List (SenderParts Entry)) → All (λ (s : SenderParts Entry). s.sent ≡ []) senders → AreEntries (all_sent senders)
  nothing_sent [] none = tt
  nothing_sent (s ∷ senders) none =
      let here : s.sent ≡ [] = All-head (λ (s : SenderParts Entry). s.sent ≡ []) s senders none in
      subst (λ es. AreEntries (es ++ all_sent senders)) (sym here) (nothing_sent senders (All-tail (λ (s : SenderParts Entry). s.sent ≡ []) s senders none))

-- ---- what a desk took

module _ (zone : TimeZone) where
  pub asked_none : (taken : List (ℕ × Asked)) → AreAskedIn zone taken taken
  unfolding AreAskedIn
  asked_none taken = ([], sym (append-nil taken), tt)

  pub asked_then : (before between after : List (ℕ × Asked)) → AreAskedIn zone before between → AreAskedIn zone between after → AreAskedIn zone before after
  unfolding AreAskedIn
  asked_then before between after first second =
      (first.0 ++ second.0, second.1 ∙ (ap (λ l. l ++ second.0) first.1 ∙ append_assoc before first.0 second.0), both (IsAskedIn zone) first.0 second.0 first.2 second.2)

  pub at_none : (role : Role) (taken : List (ℕ × Asked)) → AreAskedAt zone role taken taken
  unfolding AreAskedAt
  at_none role taken = ([], sym (append-nil taken), tt, tt)

  pub at_then : (role : Role) (before between after : List (ℕ × Asked)) → AreAskedAt zone role before between → AreAskedAt zone role between after → AreAskedAt zone role before after
  unfolding AreAskedAt
  at_then role before between after first second = (
    first.0 ++ second.0,
    second.1 ∙ (ap (λ l. l ++ second.0) first.1 ∙ append_assoc before first.0 second.0),
    both (IsAskedIn zone) first.0 second.0 first.2 second.2,
    both (IsAllowed role) first.0 second.0 first.3 second.3,
  )

-- ---- a lane whose desk took more

all_allowed : (es : List Entry) → AreEntries (IsAllowed role.All) es
all_allowed [] = tt
all_allowed (e ∷ es) = (tt, all_allowed es)

in_since : (zone : TimeZone) (before after : LaneParts) → AreAskedIn zone (commands_sent before) (commands_sent after) → NoneIsHidden after → HasAskedAt (zone, role.All) before → HasAskedAt (zone, role.All) after
unfolding AreAskedIn
in_since zone before after more none had = record {
  asked = since (IsAskedIn zone) before after more.0 more.1 more.2 none had.asked;
  allowed = all_allowed (all_sent after.shards);
}

at_since : (zone : TimeZone) (who : Role) (before after : LaneParts) → AreAskedAt zone who (commands_sent before) (commands_sent after) → NoneIsHidden after → HasAskedAt (zone, who) before → HasAskedAt (zone, who) after
unfolding AreAskedAt
at_since zone who before after more none had = record {
  asked = since (IsAskedIn zone) before after more.0 more.1 more.2 none had.asked;
  allowed = since (IsAllowed who) before after more.0 more.1 more.3 none had.allowed;
}

-- over a desk that began with the lane
module _ (lane after : LaneParts) (began now : LaneDeskParts) (is : began ≡ record { began = lane; lane = lane; waiting = [] }) (same : after ≡ now.lane) where
  from_lane : (Is : LaneParts → LaneParts → Type 0) → Is began.lane now.lane → Is lane after
  from_lane Is more = subst (λ l. Is l after) (ap (λ (d : LaneDeskParts). d.lane) is) (subst (λ l. Is began.lane l) (sym same) more)

  pub asked_over : (zone : TimeZone) → AreAskedIn zone (commands_sent began.lane) (commands_sent now.lane) → NoneIsHidden after → HasAskedAt (zone, role.All) lane → HasAskedAt (zone, role.All) after
  asked_over zone more none = in_since zone lane after (from_lane (λ l m. AreAskedIn zone (commands_sent l) (commands_sent m)) more) none

  pub at_over : (zone : TimeZone) (who : Role) → AreAskedAt zone who (commands_sent began.lane) (commands_sent now.lane) → NoneIsHidden after → HasAskedAt (zone, who) lane → HasAskedAt (zone, who) after
  at_over zone who more none = at_since zone who lane after (from_lane (λ l m. AreAskedAt zone who (commands_sent l) (commands_sent m)) more) none

-- ---- lanes

-- new lanes have asked for nothing
pub all_asked : (port : TimeZone × Role) (count : ℕ) (ls ks : List LaneParts) → All (IsNewLane count) ls → AllZip (HasGoneOn port) ls ks → All (HasAskedAt port) ks
all_asked port count [] [] new gone = All-nil (HasAskedAt port)
all_asked port count [] (k ∷ ks) new gone = absurd gone
all_asked port count (l ∷ ls) [] new gone = absurd gone
all_asked port count (l ∷ ls) (k ∷ ks) new gone =
    let none = (All-head (IsNewLane count) l ls new).sent in
    All-cons (HasAskedAt port) k ks (gone.0.asked (record { asked = nothing_sent (IsAskedIn port.0) l.shards none; allowed = nothing_sent (IsAllowed port.1) l.shards none }))
    (all_asked port count ls ks (All-tail (IsNewLane count) l ls new) gone.1)

-- and what is asked for at a port is in its zone
pub all_in : (port : TimeZone × Role) (ls : List LaneParts) → All (HasAskedAt port) ls → All (HasAskedIn port.0) ls
all_in port [] all = All-nil (HasAskedIn port.0)
all_in port (l ∷ ls) all = All-cons (HasAskedIn port.0) l ls (All-head (HasAskedAt port) l ls all).asked (all_in port ls (All-tail (HasAskedAt port) l ls all))

pub all_same : (port : TimeZone × Role) (ls ks : List LaneParts) → AllZip (HasGoneOn port) ls ks → AllZip IsSameLane ls ks
all_same port [] [] gone = tt
all_same port [] (k ∷ ks) gone = absurd gone
all_same port (l ∷ ls) [] gone = absurd gone
all_same port (l ∷ ls) (k ∷ ks) gone = (gone.0.same, all_same port ls ks gone.1)
