-- The taps and corrections of one account by themselves, where all requests are accepted or repeats.
use Rattle.std.proofs.Common.{◌≡◌, ℕ, Bool, true, false, cond, List, [], ◌∷◌, filter, None, refl, sym, ap, ◌∙◌, subst}
use Rattle.pay_rules.specs.State.{accepted_of}
use Rattle.pay_wire.specs.declared.command.SpelledCommand.TheVariants as command
use Rattle.pay_wire.specs.declared.reply.SpelledReply.{SpelledReply}
use Rattle.pay_session.specs.Asks.{asks_of}
use Rattle.pay_session.specs.declared.request.Request.{Request}
use Rattle.pay_session.specs.declared.request.Request.TheVariants as request
use Rattle.pay_run.specs.Machine.{Machine, step}
use Rattle.pay_run.specs.Outcomes.{outcome, is_priced, AreAllPriced}
use Rattle.pay_run.specs.OwnRequests.{is_about, own_replies, OwnAlone}
use Rattle.pay_account_lines.specs.Laws.{IsEnough}
use Rattle.pay_account_lines.specs.OwnLines.{is_own}

-- what is answered by prices is no question, so that it is about the account whose tap or correction it is
priced_about : (account : ℕ) (m : Machine) (r : Request) → is_priced (step None m r).reply ≡ true → is_about account r ≡ is_own account r
unfolding step asks_of
priced_about account m (request.Command (command.Tap line)) priced = refl
priced_about account m (request.Command (command.Fix line)) priced = refl
priced_about account m (request.Command (command.Due of day)) priced = absurd (cc)
priced_about account m (request.Command (command.Show of day)) priced = absurd (cc)
priced_about account m (request.Command (command.Close day)) priced = refl
priced_about account m (request.Command command.Quit) priced = refl
priced_about account m request.BadLine priced = refl
priced_about account m request.LongLine priced = refl

same_requests : (account : ℕ) (list : List Request) (m : Machine) → AreAllPriced (outcome [] m list).replies → filter (is_about account) list ≡ filter (is_own account) list
same_requests account [] m all = refl
same_requests account (r ∷ list) m all =
    ap (λ b. cond b (r ∷ filter (is_about account) list) (filter (is_about account) list)) (priced_about account m r all.0)
    ∙ ap (λ l. cond (is_own account r) (r ∷ l) l) (same_requests account list (step None m r).after all.1)

one_priced : (b : Bool) (reply : SpelledReply) (replies : List SpelledReply) → is_priced reply ≡ true → AreAllPriced replies → AreAllPriced (cond b (reply ∷ replies) replies)
one_priced true reply replies priced all = (priced, all)
one_priced false reply replies priced all = all

own_priced : (account : ℕ) (list : List Request) (m : Machine) → AreAllPriced (outcome [] m list).replies → AreAllPriced (own_replies account m list)
own_priced account [] m all = tt
own_priced account (r ∷ list) m all = one_priced (is_about account r) (step None m r).reply (own_replies account (step None m r).after list) all.0 (own_priced account list (step None m r).after all.1)

pub own_enough : OwnAlone → (m : Machine) (account : ℕ) (list : List Request) → AreAllPriced (outcome [] m list).replies → IsEnough m account list
own_enough law m account list all =
    let same = same_requests account list m all in
    record {
      accepted = subst (λ l. AreAllPriced (outcome [] m l).replies) same (subst AreAllPriced (law m account list).0 (own_priced account list m all));
      same = sym (subst (λ l. accepted_of (outcome [] m list).after.accounts account ≡ accepted_of (outcome [] m l).after.accounts account) same (law m account list).1);
    }
