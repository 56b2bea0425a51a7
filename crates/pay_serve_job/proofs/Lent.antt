-- A service over a till that lends something, as one over what it lends.
use Rattle.std.proofs.Common.{◌≡◌, inl, inr, ℕ, Bool, List, [], ◌∷◌, Result, Ok, Err, IfOk, IfErr, ap}
use Rattle.pay_jobs.specs.declared.fault.Fault.{Fault}
use Rattle.pay_journal.specs.declared.keeper.Keeper.{Ghosts as Keeping}
use Rattle.pay_lanes.specs.Words.{LaneParts, Passed}
use Rattle.pay_office.specs.Words.{LaneDeskParts, desk_parts}
use Rattle.pay_rules.specs.declared.posting.Posting.{Posting}
use Rattle.pay_serve.specs.Words.{GateParts, HasAnsweredOver, HasStayed, IsStayed, Terms, new_desk}
use Rattle.pay_serve.specs.declared.fault.ServeFault.{ServeFault}
use Rattle.pay_serve.specs.declared.fault.ServeFault.TheVariants as serving
use Rattle.pay_serve_job.specs.Stays.{HasStayedBy, EndsNot}
use Rattle.pay_session.specs.Words.{Event, IsServedAs, IsServedAt, AreServedAt, HasAnsweredAt, asks_at}
use Rattle.pay_session.specs.declared.asks.Asks.{Asks}
use Rattle.pay_session.specs.declared.asks.Asks.TheVariants as asks
use Rattle.pay_session.specs.declared.port.Role.{Role}
use Rattle.pay_session.specs.declared.request.Request.{Request}
use Rattle.jiff.specs.declared.tz.timezone.TimeZone.{TimeZone}
use Rattle.pay_shard.specs.Words.{Standing}
use Rattle.pay_shard.specs.declared.desk.DeskFault.{DeskFault}
use Rattle.pay_till.specs.Words.{Taken}
use Rattle.pay_wire.specs.declared.refusal.Refusal.{Refusal}

module _ {T H : Type 0} (lent : T → H) (Closes : T → ℕ → ℕ → List Taken → Result (List Posting) Refusal → T → Type 0) (ClosesIt : H → ℕ → ℕ → List Taken → Result (List Posting) Refusal → H → Type 0)
    (seen : (before : T) (day of : ℕ) (put : List Taken) (answer : Result (List Posting) Refusal) (after : T) → Closes before day of put answer after → ClosesIt (lent before) day of put answer (lent after)) where
  one_lent : (of : ℕ) (Refuses : DeskFault → Type 0) (Late : Type 0) (what : Asks) (event : Event) (before after : T) → IsServedAs of Refuses Late Closes what event before after → IsServedAs of Refuses Late ClosesIt what event (lent before) (lent after)
  one_lent of Refuses Late (asks.Put a) event before after is = (is.0, ap lent is.1)
  one_lent of Refuses Late (asks.Close day) event before after is = record {
    result = is.result;
    close = record {
      quotes = is.close.quotes;
      in_time = is.close.in_time;
      short = is.close.short;
      of_close = is.close.of_close;
      closes = seen before day of event.put is.result after is.close.closes;
    };
    told = is.told;
  }
  one_lent of Refuses Late asks.Quit event before after is = (is.0, ap lent is.1)
  one_lent of Refuses Late (asks.No why) event before after is = (is.0, ap lent is.1)

  all_lent : (port : TimeZone × Role) (stands : Standing LaneParts) (before after : T) (rs : List Request) (es : List Event) → AreServedAt desk_parts Closes port stands before rs es after
      → AreServedAt desk_parts ClosesIt port stands (lent before) rs es (lent after)
  all_lent port stands before after [] [] are = ap lent are
  all_lent port stands before after [] (e ∷ es) are = absurd are
  all_lent port stands before after (r ∷ rs) [] are = absurd are
  all_lent port stands before after (r ∷ rs) (e ∷ es) are =
      let first = are.1 in
      (lent are.0, record { at = first.at; is = first.is; served = one_lent _ _ _ (asks_at first.at r) e before are.0 first.served }, all_lent port stands are.0 after rs es are.2)

  over_lent : (zone : TimeZone) (lane staff : LaneParts) (before after : T) → HasAnsweredOver Closes zone (lane, before) (staff, after) → HasAnsweredOver ClosesIt zone (lane, lent before) (staff, lent after)
  over_lent zone lane staff before after is =
      let all = is.answered in
      record {
        desk = is.desk;
        lane = is.lane;
        answered = record {
          requests = all.requests;
          events = all.events;
          served = all_lent _ _ before after all.requests all.events all.served;
          taken = all.taken;
          said = all.said;
          asked = all.asked;
          kept = all.kept;
          same = all.same;
        };
      }

  module _ (Holds : GateParts → List Passed → Bool → Type 0) (who : Role) (terms : Terms) (before after : T) (gates : List GateParts) where
    has_lent : HasStayed Holds Closes who terms (before, after) gates → HasStayed Holds ClosesIt who terms (lent before, lent after) gates
    unfolding over_lent
    has_lent it = record {
      office = it.office;
      new = it.new;
      first = it.first;
      spared = it.spared;
      last = it.last;
      past = it.past;
      others = it.others;
      asked = it.asked;
      began_staff = it.began_staff;
      new_staff = it.new_staff;
      staff = it.staff;
      asked_by_staff = it.asked_by_staff;
      answered = over_lent terms.zone it.began_staff it.staff before after it.answered;
      all = it.all;
      began = it.began;
      over = it.over;
      closes = it.closes;
      kept = it.kept;
    }

    is_lent : (result : Result (Unit {0}) ServeFault) → IsStayed Holds Closes who terms (before, after) (gates, result) → IsStayed Holds ClosesIt who terms (lent before, lent after) (gates, result)
    is_lent (Ok ended) it = (has_lent it.0, it.1)
    is_lent (Err serving.Journal) it = (has_lent it.0, it.1)
    is_lent (Err (serving.JournalLine journal line why)) it = (it.0, it.1, it.2, ap lent it.3)
    is_lent (Err serving.Count) it = (it.0, ap lent it.1)
    is_lent (Err serving.NoThread) it = (it.0, ap lent it.1)
    is_lent (Err serving.Memory) it = (it.0, ap lent it.1)
    is_lent (Err serving.CannotListen) it = absurd it
    is_lent (Err serving.Output) it = absurd it

  module _ {K : Type 0} (keeper : Keeping K) (terms : Terms) (before after : T) where
    stays_lent : HasStayedBy keeper Closes terms (before, after) → HasStayedBy keeper ClosesIt terms (lent before, lent after)
    stays_lent it = (it.0, is_lent _ _ terms before after it.0 (Ok tt) it.1)

    ends_lent : (fault : Fault) → EndsNot keeper Closes terms (before, after) fault → EndsNot keeper ClosesIt terms (lent before, lent after) fault
    ends_lent fault (inl none) = inl (none.0, ap lent none.1)
    ends_lent fault (inr it) = inr (it.0, it.1, it.2, is_lent _ _ terms before after it.2 (Err it.0) it.3)

    pub if_stays : (result : Result (Unit {0}) Fault) → IfOk result (λ _. HasStayedBy keeper Closes terms (before, after)) → IfOk result (λ _. HasStayedBy keeper ClosesIt terms (lent before, lent after))
    if_stays (Ok ended) it = stays_lent it
    if_stays (Err fault) it = tt

    pub if_ends : (result : Result (Unit {0}) Fault) → IfErr result (EndsNot keeper Closes terms (before, after)) → IfErr result (EndsNot keeper ClosesIt terms (lent before, lent after))
    if_ends (Ok ended) it = tt
    if_ends (Err fault) it = ends_lent fault it
