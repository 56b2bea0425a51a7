-- Why a desk over a lane refuses a command.
use Rattle.std.proofs.Common.{◌≡◌, ℕ, ◌≤◌, ◌⊎◌, ⊎_elim, inl, inr, length, refl, sym, ap, ◌∙◌, subst, arith}
use Rattle.std.proofs.lemmas.List.{length-append}
use Rattle.pay_shard.specs.declared.desk.DeskFault.TheVariants as desk
use Rattle.pay_lanes.specs.Words.{LaneParts, unanswered, by_lane, WasFullAt}
use Rattle.pay_lanes.specs.declared.lane.SendFault.{SendFault}
use Rattle.pay_lanes.specs.declared.lane.SendFault.TheVariants as sending
use Rattle.pay_lanes.specs.declared.limits.TheConstants.{WINDOW, MOST_TICKETS}
use Rattle.pay_office.specs.Waits.{HasTaken}
use Rattle.pay_office.specs.LaneDesks.{LaneDeskParts, MayRefuse, WasBusy, refusal_of}
use Rattle.pay_office.proofs.Waited.{Stays, stays}

fewer_unanswered : (l m : LaneParts) → Stays l m → unanswered m ≤ unanswered l
fewer_unanswered l m s =
    let many = ap length s.more.1 ∙ length-append l.answers.got s.more.0 in
    let same = s.tickets in
    omega (arith, many, same)

module _ (d : LaneDeskParts) (m : LaneParts) (taken : HasTaken d.lane m) where
  pub at_window : WINDOW ≤ unanswered m → MayRefuse d desk.Window
  at_window many = let fewer = fewer_unanswered d.lane m (stays d.lane m taken) in inr (refl, inl (omega (arith, many, fewer)))

  pub may_refuse : (fault : SendFault) → (fault ≡ sending.Window → WINDOW ≤ unanswered m) → MayRefuse d (refusal_of fault)
  may_refuse sending.Window window = at_window (window refl)
  may_refuse sending.Busy window = inl refl

  pub was_busy : (shard : ℕ) (fault : SendFault) (now : LaneDeskParts) → now.lane ≡ m → (fault ≡ sending.Busy → (MOST_TICKETS ≤ m.next) ⊎ WasFullAt by_lane m.shards shard) → refusal_of fault ≡ desk.Busy → WasBusy d now
  was_busy shard sending.Window now is why e = cc
  was_busy shard sending.Busy now is why e =
      ⊎_elim (λ (all : MOST_TICKETS ≤ m.next). inl (subst (λ (x : LaneParts). MOST_TICKETS ≤ x.next) (sym is) all))
      (λ (full : WasFullAt by_lane m.shards shard). inr (shard, subst (λ ss. WasFullAt by_lane ss shard) (stays d.lane m taken).shards full)) (why refl)
