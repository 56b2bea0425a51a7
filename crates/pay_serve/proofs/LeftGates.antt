-- What gates a service leaves, by the call that ended it.
use Rattle.std.proofs.Common.{◌≡◌, inl, inr, ℕ, Bool, true, false, List, [], All, Option, Result, Ok, Err, sym, subst}
use Rattle.std.proofs.lemmas.List.Elements.{All-nil}
use Rattle.pay_wire.specs.declared.output.WriteFault.{WriteFault}
use Rattle.pay_serve.specs.Causes.{IsUnopened, IsUnserved}
use Rattle.pay_serve.specs.Closes.{IsTold}
use Rattle.pay_serve.specs.Journals.{told_with}
use Rattle.pay_serve.specs.KeepingGates.{GateParts}
use Rattle.pay_serve.specs.Kept.{HasKeptNone}
use Rattle.pay_serve.specs.Lanes.{lane_fault}
use Rattle.pay_serve.specs.LeftGates.{AreAllGates, AreUnserved, IsLeftIn}
use Rattle.pay_serve.specs.declared.begins.LaneFault.{LaneFault}
use Rattle.pay_serve.specs.declared.begins.LaneFault.TheVariants as lane
use Rattle.pay_serve.specs.declared.fault.ServeFault.{ServeFault}
use Rattle.pay_serve.specs.declared.fault.ServeFault.TheVariants.{CannotListen, Count, NoThread, Memory, Journal, JournalLine, Output}
use Rattle.pay_serve.specs.declared.plan.Plan.{Plan}

module _ (held : List (Option (List ℕ))) (gates : List GateParts) where
  -- no office began
  pub unopened_left : (plan : Plan) (fault : ServeFault) → gates ≡ [] → IsUnopened plan fault → IsLeftIn held gates (Err fault)
  unopened_left plan fault none = by fault
    where
      unserved : AreUnserved held gates
      unserved = (inl none, subst (All HasKeptNone) (sym none) (All-nil HasKeptNone))

      by : (fault : ServeFault) → IsUnopened plan fault → IsLeftIn held gates (Err fault)
      by CannotListen h = tt
      by Count h = unserved
      by NoThread h = unserved
      by Memory h = unserved
      by (JournalLine journal line why) h = absurd h
      by Journal h = absurd h
      by Output h = absurd h

  -- a line of a journal was not accepted
  pub refused_left : (plan : Plan) (fault : ServeFault) → AreAllGates held gates → All HasKeptNone gates → IsUnserved plan fault → IsLeftIn held gates (Err fault)
  refused_left plan CannotListen all none h = tt
  refused_left plan Count all none h = (inr all, none)
  refused_left plan NoThread all none h = (inr all, none)
  refused_left plan Memory all none h = (inr all, none)
  refused_left plan (JournalLine journal line why) all none h = (all, none)
  refused_left plan Journal all none h = absurd h
  refused_left plan Output all none h = absurd h

  -- a lane got no thread
  pub lane_left : (from : LaneFault) (fault : ServeFault) → AreAllGates held gates → All HasKeptNone gates → fault ≡ lane_fault from → IsLeftIn held gates (Err fault)
  lane_left lane.NoThread fault all none is = subst (λ f. IsLeftIn held gates (Err f)) (sym is) (inr all, none)
  lane_left lane.Memory fault all none is = subst (λ f. IsLeftIn held gates (Err f)) (sym is) (inr all, none)

  -- the lanes were served
  close_left : (closed : Result Bool WriteFault) (told : Result Bool ServeFault) → AreAllGates held gates → IsTold closed told → IsLeftIn held gates told
  close_left (Ok a) (Ok b) all is = all
  close_left (Ok a) (Err fault) all is = absurd is
  close_left (Err e) (Ok b) all is = absurd is
  close_left (Err e) (Err fault) all is = subst (λ f. IsLeftIn held gates (Err f)) (sym is) all

  pub told_left : (stuck : Bool) (closed : Result Bool WriteFault) (told result : Result Bool ServeFault) → AreAllGates held gates → result ≡ told_with stuck told → IsTold closed told → IsLeftIn held gates result
  told_left true closed told result all is of = subst (IsLeftIn held gates) (sym is) all
  told_left false closed told result all is of = subst (IsLeftIn held gates) (sym is) (close_left closed told all of)
