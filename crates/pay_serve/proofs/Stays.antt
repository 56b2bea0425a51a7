-- Lanes of which the last is served apart.
use Rattle.std.proofs.Common.{◌≡◌, ℕ, Bool, List, [], ◌∷◌, ◌++◌, All, length, slice_get, Option, Some, Result, Err, inl, inr, refl, sym, subst}
use Rattle.std.specs.List.{AllZip, AllByRecursion}
use Rattle.std.proofs.lemmas.List.Elements.{All-nil, All-cons, All-head, All-tail, AllZip-push}
use Rattle.jiff.specs.declared.tz.timezone.TimeZone.{TimeZone}
use Rattle.pay_lanes.specs.Words.{LaneParts, WorkerParts, Passed, IsSameLane, IsNewLane, AreTogether}
use Rattle.pay_office.specs.Words.{desk_parts, answer_to, NoneIsHidden}
use Rattle.pay_rules.specs.declared.posting.Posting.{Posting}
use Rattle.pay_session.specs.Words.{Event, all_put}
use Rattle.pay_session.specs.declared.port.Role.{Role}
use Rattle.pay_session.specs.declared.port.Role.TheVariants as role
use Rattle.pay_shard.specs.Words.{NothingIsLost}
use Rattle.pay_shard.specs.declared.reply.Answer.{Answer}
use Rattle.pay_tables.specs.Words.{FareEditions}
use Rattle.pay_till.specs.Words.{Taken, AreAnswered}
use Rattle.pay_wire.specs.declared.refusal.Refusal.{Refusal}
use Rattle.pay_serve.specs.Causes.{IsUnopened}
use Rattle.pay_serve.specs.Closes.{Terms, IsStopped, new_desk}
use Rattle.pay_serve.specs.KeepingGates.{GateParts}
use Rattle.pay_serve.specs.Kept.{HasKeptNone}
use Rattle.pay_serve.specs.Lanes.{HasAskedAt, lane_fault}
use Rattle.pay_serve.specs.LeftGates.{AreAllGates, AreUnserved}
use Rattle.pay_serve.specs.Causes.{IsStayCause, IsUnserved}
use Rattle.pay_serve.specs.Machines.{ClosesAreOne, IsNewOffice, IsOver}
use Rattle.pay_serve.specs.Stays.{HasAnsweredOver, IsCloseOfOne, IsStayed}
use Rattle.pay_serve.specs.declared.begins.LaneFault.{LaneFault}
use Rattle.pay_serve.specs.declared.begins.LaneFault.TheVariants as lane
use Rattle.pay_serve.specs.declared.fault.ServeFault.{ServeFault}
use Rattle.pay_serve.specs.declared.fault.ServeFault.TheVariants.{CannotListen, Count, NoThread, Memory, Journal, JournalLine, Output}
use Rattle.pay_serve.specs.declared.plan.Plan.{Plan}
use Rattle.pay_serve.proofs.LinesAsked.{all_asked, at_over}

-- what is so of all is so of the others, and of the last
all_front : (P : LaneParts → Type 0) (ls : List LaneParts) (l : LaneParts) → All P (ls ++ l ∷ []) → All P ls
all_front P [] l all = All-nil P
all_front P (k ∷ ls) l all = All-cons P k ls (All-head P k (ls ++ l ∷ []) all) (all_front P ls l (All-tail P k (ls ++ l ∷ []) all))

all_last : (P : LaneParts → Type 0) (ls : List LaneParts) (l : LaneParts) → All P (ls ++ l ∷ []) → P l
all_last P [] l all = All-head P l [] all
all_last P (k ∷ ls) l all = all_last P ls l (All-tail P k (ls ++ l ∷ []) all)

module _ (P : LaneParts → Type 0) (all ls : List LaneParts) (l : LaneParts) (popped : all ≡ ls ++ l ∷ []) (are : All P all) where
  pub others_are : All P ls
  others_are = all_front P ls l (subst (All P) popped are)

  pub last_is : P l
  last_is = all_last P ls l (subst (All P) popped are)

-- the others have gone on, and so has the last
pub all_gone_on : (all ls ks : List LaneParts) (l k : LaneParts) → all ≡ ls ++ l ∷ [] → AllZip IsSameLane ls ks → IsSameLane l k → AllZip IsSameLane all (ks ++ k ∷ [])
all_gone_on all ls ks l k popped others last = subst (λ xs. AllZip IsSameLane xs (ks ++ k ∷ [])) (sym popped) (AllZip-push IsSameLane ls ks l k others last)

-- a new lane has asked for nothing
pub one_asked : (port : TimeZone × Role) (count : ℕ) (l k : LaneParts) → IsNewLane count l → IsSameLane l k → (HasAskedAt port l → HasAskedAt port k) → HasAskedAt port k
one_asked port count l k new same asked =
    let all = all_asked port count (l ∷ []) (k ∷ []) (All-cons (IsNewLane count) l [] new (All-nil (IsNewLane count))) (record { same = same; asked = asked }, tt) in
    All-head (HasAskedAt port) k [] all

-- ---- why nobody is served

pub unserved_stay_cause : (Fails : Type 0) (plan : Plan) (fault : ServeFault) → IsUnserved plan fault → IsStayCause Fails plan fault
unserved_stay_cause Fails plan CannotListen h = h
unserved_stay_cause Fails plan Count h = h
unserved_stay_cause Fails plan NoThread h = h
unserved_stay_cause Fails plan Memory h = h
unserved_stay_cause Fails plan (JournalLine journal line why) h = h
unserved_stay_cause Fails plan Journal h = absurd h
unserved_stay_cause Fails plan Output h = h

pub lane_stay_cause : (Fails : Type 0) (plan : Plan) (from : LaneFault) (fault : ServeFault) → fault ≡ lane_fault from → IsStayCause Fails plan fault
lane_stay_cause Fails plan lane.NoThread fault is = subst (IsStayCause Fails plan) (sym is) tt
lane_stay_cause Fails plan lane.Memory fault is = subst (IsStayCause Fails plan) (sym is) tt

-- ---- closes of staff

answered_apart : (transcript : ℕ → Option Answer) (ts us : List Taken) → AreAnswered transcript (ts ++ us) → AreAnswered transcript ts × AreAnswered transcript us
answered_apart transcript [] us all = (tt, all)
answered_apart transcript (t ∷ ts) us all = let rest = answered_apart transcript ts us all.1 in ((all.0, rest.0), rest.1)

middle : (ls : List LaneParts) (l m : LaneParts) → slice_get ((ls ++ l ∷ []) ++ m ∷ []) (length ls) ≡ Some l
middle [] l m = refl
middle (k ∷ ls) l m = middle ls l m

module _ (are_one : ClosesAreOne) (fares : FareEditions) (office : List WorkerParts) (ls : List LaneParts) (l last : LaneParts) (transcript : ℕ → Option Answer)
    (new : IsNewOffice fares office) (together : AreTogether office ((ls ++ l ∷ []) ++ last ∷ [])) (kept : NothingIsLost transcript (λ ticket. answer_to ticket l.answers.got))
    (over : IsOver office ((ls ++ l ∷ []) ++ last ∷ [])) where
  all_of_one : (es : List Event) → AreAnswered transcript (all_put es) → AllByRecursion (IsCloseOfOne fares l over.2.workers) es
  all_of_one [] said = tt
  all_of_one (e ∷ es) said =
      let two = answered_apart transcript e.put (all_put es) said in
      (λ day quotes whole. are_one fares office ((ls ++ l ∷ []) ++ last ∷ []) l (length ls) day e.put transcript new together (middle ls l last) quotes two.0 whole kept over, all_of_one es two.1)

-- what staff had answered over the last lane but one
pub staff_closes : ClosesAreOne → (fares : FareEditions) (office : List WorkerParts) (ls : List LaneParts) (l last : LaneParts) {T : Type 0} (Closes : T → ℕ → ℕ → List Taken → Result (List Posting) Refusal → T → Type 0) (zone : TimeZone) (before : LaneParts × T) (till : T)
    → IsNewOffice fares office → AreTogether office ((ls ++ l ∷ []) ++ last ∷ []) → (over : IsOver office ((ls ++ l ∷ []) ++ last ∷ [])) → (is : HasAnsweredOver Closes zone before (l, till))
    → AllByRecursion (IsCloseOfOne fares l over.2.workers) is.answered.events
staff_closes are_one fares office ls l last Closes zone before till new together over is =
    all_of_one are_one fares office ls l last (desk_parts is.desk).transcript new together
    (subst (λ (k : LaneParts). NothingIsLost (desk_parts is.desk).transcript (λ ticket. answer_to ticket k.answers.got)) (sym is.lane) (λ ticket answer h. h))
    over is.answered.events is.answered.said

-- and what they asked for
pub staff_asked : {T : Type 0} (Closes : T → ℕ → ℕ → List Taken → Result (List Posting) Refusal → T → Type 0) (zone : TimeZone) (before after : LaneParts × T) → HasAnsweredOver Closes zone before after → NoneIsHidden after.0
    → HasAskedAt (zone, role.All) before.0 → HasAskedAt (zone, role.All) after.0
staff_asked Closes zone before after is none = at_over before.0 after.0 (new_desk before.0) is.desk refl is.lane zone role.All is.answered.asked none

module _ (Holds : GateParts → List Passed → Bool → Type 0) {T : Type 0} (Closes : T → ℕ → ℕ → List Taken → Result (List Posting) Refusal → T → Type 0) (who : Role) (terms : Terms) (till : T) (gates : List GateParts) where
  abbrev Stays : ServeFault → Type 0
  Stays fault = IsStayed Holds Closes who terms (till, till) (gates, Err fault)

  pub unopened_stays : (plan : Plan) (fault : ServeFault) → gates ≡ [] → IsUnopened plan fault → Stays fault
  unopened_stays plan fault none = by fault
    where
      unserved : AreUnserved terms.held gates
      unserved = (inl none, subst (All HasKeptNone) (sym none) (All-nil HasKeptNone))

      by : (fault : ServeFault) → IsUnopened plan fault → Stays fault
      by CannotListen h = absurd h
      by Count h = (unserved, refl)
      by NoThread h = (unserved, refl)
      by Memory h = (unserved, refl)
      by (JournalLine journal line why) h = absurd h
      by Journal h = absurd h
      by Output h = absurd h

  -- a line of a journal was not accepted
  pub refused_stays : (plan : Plan) (fault : ServeFault) → AreAllGates terms.held gates → All HasKeptNone gates → IsUnserved plan fault → IsStopped terms fault → Stays fault
  refused_stays plan CannotListen all none h stopped = absurd h
  refused_stays plan Count all none h stopped = ((inr all, none), refl)
  refused_stays plan NoThread all none h stopped = ((inr all, none), refl)
  refused_stays plan Memory all none h stopped = ((inr all, none), refl)
  refused_stays plan (JournalLine journal line why) all none h stopped = (stopped, all, none, refl)
  refused_stays plan Journal all none h stopped = absurd h
  refused_stays plan Output all none h stopped = absurd h

  -- a lane got no thread
  pub lane_stays : (from : LaneFault) (fault : ServeFault) → AreAllGates terms.held gates → All HasKeptNone gates → fault ≡ lane_fault from → Stays fault
  lane_stays lane.NoThread fault all none is = subst Stays (sym is) ((inr all, none), refl)
  lane_stays lane.Memory fault all none is = subst Stays (sym is) ((inr all, none), refl)
