-- The requests about one account by themselves: each is answered as among all, since the others leave what the account has accepted.
use Rattle.std.proofs.Common.{◌≡◌, ℕ, ◌==◌, Bool, true, false, cond, not, List, [], ◌∷◌, filter, Option, Some, None, unwrap_or, Ok, Err, eqb-true, refl, sym, ap, ap₂, ◌∙◌, subst}
use Rattle.std.specs.Prelude.{Result, ⊤}
use Rattle.std.specs.Cmp.{nat_cmp_total, eq_by_cmp_equiv, unsigned_ties}
use Rattle.std.specs.FinMap.{get, insert, get-insert}
use Rattle.std.specs.Ordering.{nat_cmp, eq_by_cmp}
use Rattle.jiff.specs.declared.tz.timezone.TimeZone.{TimeZone}
use Rattle.pay_rules.specs.declared.tap.Tap.{Tap}
use Rattle.pay_rules.specs.declared.fix.Fix.{Fix}
use Rattle.pay_rules.specs.declared.fix.What.{What}
use Rattle.pay_rules.specs.declared.priced.Priced.{Priced}
use Rattle.pay_rules.specs.declared.fares.TapFault.{TapFault}
use Rattle.pay_rules.specs.declared.fares.FixFault.{FixFault}
use Rattle.pay_rules.specs.Accepted.{Accepted, nothing}
use Rattle.pay_rules.specs.FixResults.{fix_result, after_fix}
use Rattle.pay_rules.specs.Lines.{shown}
use Rattle.pay_rules.specs.Quotes.{quote}
use Rattle.pay_rules.specs.State.{State, accepted_of}
use Rattle.pay_rules.specs.TapResults.{tap_result, after_tap}
use Rattle.pay_shard.specs.Machine.{step_tap_result, step_fix_result}
use Rattle.pay_shard.specs.State.{kept}
use Rattle.pay_shard.specs.declared.asked.Asked.TheVariants as asked
use Rattle.pay_shard.specs.declared.reply.Reply.TheVariants as desk_reply
use Rattle.pay_wire.specs.declared.command.SpelledCommand.TheVariants as command
use Rattle.pay_wire.specs.declared.command.SpelledFix.{SpelledFix}
use Rattle.pay_wire.specs.declared.refusal.Refusal.{Refusal}
use Rattle.pay_wire.specs.declared.reply.SpelledReply.{SpelledReply}
use Rattle.pay_session.specs.Asks.{asks_of, asks_fix_that, what_of_spelled, tap_of_spelled}
use Rattle.pay_session.specs.Words.{said}
use Rattle.pay_session.specs.declared.asks.Asks.{Asks}
use Rattle.pay_session.specs.declared.asks.Asks.TheVariants as asks
use Rattle.pay_session.specs.declared.request.Request.{Request}
use Rattle.pay_session.specs.declared.request.Request.TheVariants as request
use Rattle.pay_run.specs.Machine.{Machine, Step, with_accounts, with_ledger, step_of, step_asks, step_close, step_closed, step}
use Rattle.pay_run.specs.Outcomes.{outcome}
use Rattle.pay_run.specs.OwnRequests.{is_about, own_replies, OwnAlone}

-- ---- what an account has accepted after a change of one

chosen : (b : Bool) (x : Accepted) (there : Option Accepted) → unwrap_or (cond b (Some x) there) nothing ≡ cond b x (unwrap_or there nothing)
chosen true x there = refl
chosen false x there = refl

inserted : (state : State) (of : ℕ) (x : Accepted) (account : ℕ) → accepted_of (insert state of x) account ≡ cond (of == account) x (accepted_of state account)
inserted state of x account =
    ap (λ (o : Option Accepted). unwrap_or o nothing) (get-insert nat_cmp_total state of x account) ∙ chosen (eq_by_cmp nat_cmp account of) x (get state account)
    ∙ ap (λ b. cond b x (accepted_of state account)) ((eq_by_cmp_equiv nat_cmp_total).symm account of ∙ sym (unsigned_ties of account))

-- another's change leaves it
left : (new : Bool) (state : State) (of : ℕ) (x : Accepted) (account : ℕ) → (of == account) ≡ false → accepted_of (kept new state of x) account ≡ accepted_of state account
left true state of x account other = inserted state of x account ∙ ap (λ b. cond b x (accepted_of state account)) other
left false state of x account other = refl

-- the same change of one keeps it the same in two states
kept_alike : (new : Bool) (state there : State) (of : ℕ) (x y : Accepted) (account : ℕ) → x ≡ y → accepted_of state account ≡ accepted_of there account
    → accepted_of (kept new state of x) account ≡ accepted_of (kept new there of y) account
kept_alike true state there of x y account e same = inserted state of x account ∙ ap₂ (cond (of == account)) e same ∙ sym (inserted there of y account)
kept_alike false state there of x y account e same = same

-- ---- whom a command concerns

-- it is the account's own, or is refused whatever has been accepted
abbrev Concerns : ℕ → Asks → Type 0
Concerns account (asks.Put (asked.Tap tap)) = (tap.account == account) ≡ true
Concerns account (asks.Put (asked.Fix fix)) = (fix.account == account) ≡ true
Concerns account (asks.Put (asked.Due of day)) = (of == account) ≡ true
Concerns account (asks.Put (asked.Show of day)) = (of == account) ≡ true
Concerns account (asks.No why) = ⊤
Concerns account _ = ⊥

-- it is no tap and no correction of the account
abbrev Leaves : ℕ → Asks → Type 0
Leaves account (asks.Put (asked.Tap tap)) = (tap.account == account) ≡ false
Leaves account (asks.Put (asked.Fix fix)) = (fix.account == account) ≡ false
Leaves account _ = ⊤

module _ (account : ℕ) (zone : TimeZone) where
  tap_concerns : (tap : Tap) (why : Refusal) (b : Bool) → (tap.account == account) ≡ true → Concerns account (cond b (asks.Put (asked.Tap tap)) (asks.No why))
  tap_concerns tap why true own = own
  tap_concerns tap why false own = tt

  tap_leaves : (tap : Tap) (why : Refusal) (b : Bool) → (tap.account == account) ≡ false → Leaves account (cond b (asks.Put (asked.Tap tap)) (asks.No why))
  tap_leaves tap why true other = other
  tap_leaves tap why false other = tt

  fix_concerns : (line : SpelledFix) (does : Result What Refusal) → (line.account == account) ≡ true → Concerns account (asks_fix_that line does)
  fix_concerns line (Ok does) own = own
  fix_concerns line (Err why) own = tt

  fix_leaves : (line : SpelledFix) (does : Result What Refusal) → (line.account == account) ≡ false → Leaves account (asks_fix_that line does)
  fix_leaves line (Ok does) other = other
  fix_leaves line (Err why) other = tt

  about_concerns : (r : Request) → is_about account r ≡ true → Concerns account (asks_of zone r)
  unfolding asks_of
  about_concerns (request.Command (command.Tap line)) own = tap_concerns (tap_of_spelled line _) _ _ own
  about_concerns (request.Command (command.Fix line)) own = fix_concerns line (what_of_spelled zone line.what) own
  about_concerns (request.Command (command.Due of day)) own = own
  about_concerns (request.Command (command.Show of day)) own = own
  about_concerns (request.Command (command.Close day)) own = absurd (cc)
  about_concerns (request.Command command.Quit) own = absurd (cc)
  about_concerns request.BadLine own = absurd (cc)
  about_concerns request.LongLine own = absurd (cc)

  other_leaves : (r : Request) → is_about account r ≡ false → Leaves account (asks_of zone r)
  unfolding asks_of
  other_leaves (request.Command (command.Tap line)) other = tap_leaves (tap_of_spelled line _) _ _ other
  other_leaves (request.Command (command.Fix line)) other = fix_leaves line (what_of_spelled zone line.what) other
  other_leaves (request.Command (command.Due of day)) other = tt
  other_leaves (request.Command (command.Show of day)) other = tt
  other_leaves (request.Command (command.Close day)) other = tt
  other_leaves (request.Command command.Quit) other = tt
  other_leaves request.BadLine other = tt
  other_leaves request.LongLine other = tt

-- ---- two machines that answer an account alike

record Alike (account : ℕ) (m o : Machine) : Type 0 where
  zone : m.zone ≡ o.zone
  editions : m.editions ≡ o.editions
  accepted : accepted_of m.accounts account ≡ accepted_of o.accounts account

record AnswersAlike (account : ℕ) (s t : Step) : Type 0 where
  reply : s.reply ≡ t.reply
  after : Alike account s.after t.after

module _ (account : ℕ) (m o : Machine) (alike : Alike account m o) where
  -- so with other accounts in which it has accepted the same, over whatever ledger
  alike_with : (s t : State) (ledger : _) → accepted_of s account ≡ accepted_of t account → Alike account (with_ledger (with_accounts m s) ledger) (with_accounts o t)
  alike_with s t ledger same = record { zone = alike.zone; editions = alike.editions; accepted = same }

  own_accepted : (of : ℕ) → (of == account) ≡ true → accepted_of m.accounts of ≡ accepted_of o.accounts of
  own_accepted of own = subst (λ q. accepted_of m.accounts q ≡ accepted_of o.accounts q) (sym (eqb-true of account own)) alike.accepted

  own_tap : (tap : Tap) → accepted_of m.accounts tap.account ≡ accepted_of o.accounts tap.account → (r : Result Priced TapFault)
      → AnswersAlike account (step_of m (step_tap_result m.accounts tap r)) (step_of o (step_tap_result o.accounts tap r))
  own_tap tap same (Ok priced) =
      let same_kept = kept_alike (not priced.again) m.accounts o.accounts tap.account _ _ account (ap (λ a. after_tap (Ok priced) a tap) same) alike.accepted in
      record { reply = refl; after = alike_with _ _ m.ledger same_kept }
  own_tap tap same (Err fault) = record { reply = refl; after = alike }

  own_fix : (fix : Fix) → accepted_of m.accounts fix.account ≡ accepted_of o.accounts fix.account → (r : Result Priced FixFault)
      → AnswersAlike account (step_of m (step_fix_result m.accounts fix r)) (step_of o (step_fix_result o.accounts fix r))
  own_fix fix same (Ok priced) =
      let same_kept = kept_alike (not priced.again) m.accounts o.accounts fix.account _ _ account (ap (λ a. after_fix (Ok priced) a fix) same) alike.accepted in
      record { reply = refl; after = alike_with _ _ m.ledger same_kept }
  own_fix fix same (Err fault) = record { reply = refl; after = alike }

  answered_alike : (a : Asks) → Concerns account a → AnswersAlike account (step_asks None m a) (step_asks None o a)
  answered_alike (asks.Put (asked.Tap tap)) own =
      let same = own_accepted tap.account own in
      subst (λ r. AnswersAlike account (step_asks None m (asks.Put (asked.Tap tap))) (step_of o (step_tap_result o.accounts tap r)))
      (ap₂ (λ e a. tap_result e a tap) alike.editions same) (own_tap tap same (tap_result m.editions (accepted_of m.accounts tap.account) tap))
  answered_alike (asks.Put (asked.Fix fix)) own =
      let same = own_accepted fix.account own in
      subst (λ r. AnswersAlike account (step_asks None m (asks.Put (asked.Fix fix))) (step_of o (step_fix_result o.accounts fix r)))
      (ap₂ (λ e a. fix_result e a fix) alike.editions same) (own_fix fix same (fix_result m.editions (accepted_of m.accounts fix.account) fix))
  answered_alike (asks.Put (asked.Due of day)) own =
      record { reply = ap₂ (λ e a. said (desk_reply.Due (quote e of a day))) alike.editions (own_accepted of own); after = alike }
  answered_alike (asks.Put (asked.Show of day)) own =
      record { reply = ap₂ (λ e a. said (desk_reply.Shown (shown e of a day))) alike.editions (own_accepted of own); after = alike }
  answered_alike (asks.No why) own = record { reply = refl; after = alike }
  answered_alike (asks.Put (asked.Quotes day shard of)) own = absurd own
  answered_alike (asks.Close day) own = absurd own
  answered_alike asks.Quit own = absurd own

  other_tap : (tap : Tap) → (tap.account == account) ≡ false → (r : Result Priced TapFault) → Alike account (step_of m (step_tap_result m.accounts tap r)).after o
  other_tap tap other (Ok priced) = alike_with _ o.accounts m.ledger (left (not priced.again) m.accounts tap.account _ account other ∙ alike.accepted)
  other_tap tap other (Err fault) = alike

  other_fix : (fix : Fix) → (fix.account == account) ≡ false → (r : Result Priced FixFault) → Alike account (step_of m (step_fix_result m.accounts fix r)).after o
  other_fix fix other (Ok priced) = alike_with _ o.accounts m.ledger (left (not priced.again) m.accounts fix.account _ account other ∙ alike.accepted)
  other_fix fix other (Err fault) = alike

  closed : (day : ℕ) (result : _) → Alike account (step_closed m day result).after o
  closed day (Ok answer) = alike_with m.accounts o.accounts (Some answer.1) alike.accepted
  closed day (Err fault) = alike

  other_close : (day : ℕ) (ledger : _) → Alike account (step_close None m day ledger).after o
  other_close day None = alike
  other_close day (Some ledger) = closed day _

  left_alone : (a : Asks) → Leaves account a → Alike account (step_asks None m a).after o
  left_alone (asks.Put (asked.Tap tap)) other = other_tap tap other (tap_result m.editions (accepted_of m.accounts tap.account) tap)
  left_alone (asks.Put (asked.Fix fix)) other = other_fix fix other (fix_result m.editions (accepted_of m.accounts fix.account) fix)
  left_alone (asks.Close day) other = other_close day m.ledger
  left_alone (asks.Put (asked.Due of day)) other = alike
  left_alone (asks.Put (asked.Show of day)) other = alike
  left_alone (asks.Put (asked.Quotes day shard of)) other = alike
  left_alone asks.Quit other = alike
  left_alone (asks.No why) other = alike

-- ---- a request

own_step : (account : ℕ) (m o : Machine) (r : Request) → Alike account m o → is_about account r ≡ true → AnswersAlike account (step None m r) (step None o r)
unfolding step
own_step account m o r alike own =
    subst (λ z. AnswersAlike account (step None m r) (step_asks None o (asks_of z r))) alike.zone (answered_alike account m o alike (asks_of m.zone r) (about_concerns account m.zone r own))

other_step : (account : ℕ) (m o : Machine) (r : Request) → Alike account m o → is_about account r ≡ false → Alike account (step None m r).after o
unfolding step
other_step account m o r alike other = left_alone account m o alike (asks_of m.zone r) (other_leaves account m.zone r other)

-- ---- all requests

-- the replies to an account's own are the same, and so is what it has accepted
record ComesAlike (account : ℕ) (m o : Machine) (list own : List Request) : Type 0 where
  replies : own_replies account m list ≡ (outcome [] o own).replies
  same : accepted_of (outcome [] m list).after.accounts account ≡ accepted_of (outcome [] o own).after.accounts account

one_more : (account : ℕ) (m o : Machine) (r : Request) (list : List Request) → Alike account m o
    → ((n : Machine) → Alike account (step None m r).after n → ComesAlike account (step None m r).after n list (filter (is_about account) list))
    → (b : Bool) → is_about account r ≡ b → ComesAlike account m o (r ∷ list) (cond b (r ∷ filter (is_about account) list) (filter (is_about account) list))
one_more account m o r list alike later true is =
    let s = own_step account m o r alike is in
    let rest = later (step None o r).after s.after in
    record {
      replies = ap (λ b. cond b ((step None m r).reply ∷ own_replies account (step None m r).after list) (own_replies account (step None m r).after list)) is ∙ ap₂ (λ x xs. x ∷ xs) s.reply rest.replies;
      same = rest.same;
    }
one_more account m o r list alike later false is =
    let rest = later o (other_step account m o r alike is) in
    record {
      replies = ap (λ b. cond b ((step None m r).reply ∷ own_replies account (step None m r).after list) (own_replies account (step None m r).after list)) is ∙ rest.replies;
      same = rest.same;
    }

comes_alike : (account : ℕ) (list : List Request) (m o : Machine) → Alike account m o → ComesAlike account m o list (filter (is_about account) list)
comes_alike account [] m o alike = record { replies = refl; same = alike.accepted }
comes_alike account (r ∷ list) m o alike = one_more account m o r list alike (λ n after. comes_alike account list (step None m r).after n after) (is_about account r) refl

pub own_alone : OwnAlone
own_alone m account list =
    let came = comes_alike account list m m (record { zone = refl; editions = refl; accepted = refl }) in
    (came.replies, came.same)
