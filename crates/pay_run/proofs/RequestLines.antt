-- The line that is kept of a request is its own.
use Rattle.std.proofs.Common.{◌≡◌, ℕ, Bool, true, false, List, [], ◌∷◌, ◌++◌, codes, if◌then◌else◌, refl, sym, ap, ◌∙◌, Option, Some, None, IfSome}
use Rattle.jiff.specs.declared.tz.timezone.TimeZone.{TimeZone}
use Rattle.pay_shard.specs.declared.asked.Asked.{Asked}
use Rattle.pay_shard.specs.declared.asked.Asked.TheVariants as asked
use Rattle.pay_wire.specs.Words.{spelling_of_command}
use Rattle.pay_wire.specs.declared.command.SpelledCommand.{SpelledCommand}
use Rattle.pay_wire.specs.declared.refusal.Refusal.{Refusal}
use Rattle.pay_wire.specs.declared.reply.SpelledReply.{SpelledReply}
use Rattle.pay_session.specs.Asks.{asks_of}
use Rattle.pay_journal.specs.Words.{spelled_of, line_of, AskedByItsLine}
use Rattle.pay_session.specs.declared.asks.Asks.{Asks}
use Rattle.pay_session.specs.declared.asks.Asks.TheVariants as asks
use Rattle.pay_session.specs.declared.request.Request.{Request}
use Rattle.pay_session.specs.declared.request.Request.TheVariants as requests
use Rattle.pay_run.specs.Journals.{is_new}
use Rattle.pay_run.specs.KeptLines.{line_of_request}
use Rattle.pay_run.specs.Machine.{Machine, Failure, Step, step, step_asks}
use Rattle.pay_run.proofs.Closes.{of_close}
use Rattle.pay_run.proofs.NewRequests.{new_priced}
use Rattle.pay_run.proofs.OneRequest.{line_of_asks, line_kept}

true_false : true ≡ false → ⊥
true_false e = cc

-- ---- what is newly accepted has a line

-- a command that has one, which is that of the command of a line by which it is spelled
record HasLine (of : Asks) : Type 0 where
  command : Asked
  asked_for : of ≡ asks.Put command
  line : (c : SpelledCommand) → IfSome (spelled_of command) (λ its. its ≡ c) → line_of command ≡ spelling_of_command c ++ codes "\n"

new_has_line : (mark : Option Failure) (m : Machine) (of : Asks) → is_new (step_asks mark m of).reply ≡ true → HasLine of
new_has_line None m (asks.Put (asked.Tap tap)) new = record { command = asked.Tap tap; asked_for = refl; line = λ c same. ap (λ (x : SpelledCommand). spelling_of_command x ++ codes "\n") same }
new_has_line None m (asks.Put (asked.Fix fix)) new = record { command = asked.Fix fix; asked_for = refl; line = λ c same. ap (λ (x : SpelledCommand). spelling_of_command x ++ codes "\n") same }
new_has_line None m (asks.Put (asked.Due account day)) new = absurd (cc)
new_has_line None m (asks.Put (asked.Show account day)) new = absurd (cc)
new_has_line None m (asks.Put (asked.Quotes day shard of)) new = absurd (cc)
new_has_line (Some failure) m (asks.Put a) new = absurd (cc)
new_has_line mark m (asks.Close day) new =
    absurd (of_close (λ (s : Step). is_new s.reply ≡ true → ⊥) m (λ reply ledger plain is. true_false (sym (new_priced reply is) ∙ plain)) mark day m.ledger new)
new_has_line mark m asks.Quit new = absurd (cc)
new_has_line mark m (asks.No why) new = absurd (cc)

-- ---- its own

no_put : (why : Refusal) (a : Asked) → asks.No why ≡ asks.Put a → ⊥
no_put why a e = cc

own_line : AskedByItsLine → (zone : TimeZone) (r : Request) (h : HasLine (asks_of zone r)) → line_of h.command ≡ line_of_request r
unfolding asks_of
own_line by_line zone (requests.Command c) h = h.line c (by_line zone c h.command h.asked_for)
own_line by_line zone requests.BadLine h = absurd (no_put _ _ h.asked_for)
own_line by_line zone requests.LongLine h = absurd (no_put _ _ h.asked_for)

-- by whether it is new
line_if_new : (b : Bool) (one other : List ℕ) → (b ≡ true → one ≡ other) → (if b then one else []) ≡ (if b then other else [])
line_if_new true one other same = same refl
line_if_new false one other same = refl

pub line_is : AskedByItsLine → (mark : Option Failure) (m : Machine) (r : Request) (reply : SpelledReply) → (step mark m r).reply ≡ reply
    → line_kept (asks_of m.zone r) reply ≡ (if is_new reply then line_of_request r else [])
unfolding step
line_is by_line mark m r reply told =
    line_if_new (is_new reply) (line_of_asks (asks_of m.zone r)) (line_of_request r) (λ new.
    let h = new_has_line mark m (asks_of m.zone r) (ap is_new told ∙ new) in
    ap line_of_asks h.asked_for ∙ own_line by_line m.zone r h)
