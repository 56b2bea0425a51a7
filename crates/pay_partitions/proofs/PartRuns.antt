-- The machine of a part, beside that of all: a request and a run.
use Rattle.std.proofs.Common.{◌≡◌, ℕ, Bool, true, false, if◌then◌else◌, List, [], ◌∷◌, Option, Some, None, IfOk, Result, Ok, Err, refl, sym, ap, ◌∙◌}
use Rattle.std.proofs.lemmas.Bool.{true≢false}
use Rattle.std.specs.Prelude.{option_map}
use Rattle.pay_rules.specs.Accepted.{Accepted}
use Rattle.pay_rules.specs.FixResults.{fix_result, after_fix}
use Rattle.pay_rules.specs.Lines.{shown}
use Rattle.pay_rules.specs.Quotes.{quote}
use Rattle.pay_rules.specs.State.{State, accepted_of}
use Rattle.pay_rules.specs.TapResults.{tap_result, after_tap}
use Rattle.pay_rules.specs.declared.fares.FixFault.{FixFault}
use Rattle.pay_rules.specs.declared.fares.TapFault.{TapFault}
use Rattle.pay_rules.specs.declared.fix.Fix.{Fix}
use Rattle.pay_rules.specs.declared.fix.What.{What}
use Rattle.pay_rules.specs.declared.posting.Posting.{Posting}
use Rattle.pay_rules.specs.declared.post_fault.PostFault.{PostFault}
use Rattle.pay_rules.specs.declared.priced.Priced.{Priced}
use Rattle.pay_rules.specs.declared.tap.Tap.{Tap}
use Rattle.pay_postings.specs.Words.{LedgerParts, posted}
use Rattle.pay_shard.specs.BatchParts.{BatchParts}
use Rattle.pay_shard.specs.Machine.{stays, step_fix_result, step_tap_result}
use Rattle.pay_shard.specs.State.{is_new, kept}
use Rattle.pay_shard.specs.declared.asked.Asked.TheVariants as asked
use Rattle.pay_shard.specs.declared.reply.Reply.{Reply}
use Rattle.pay_shard.specs.declared.reply.Reply.TheVariants as desk_reply
use Rattle.pay_shard.specs.Faults.{reply_to_tap_fault, reply_to_fix_fault}
use Rattle.pay_close.specs.Close.{batch_of_all, close}
use Rattle.pay_wire.specs.declared.command.SpelledCommand.TheVariants as command
use Rattle.pay_wire.specs.declared.command.SpelledFix.{SpelledFix}
use Rattle.pay_wire.specs.declared.refusal.Refusal.{Refusal}
use Rattle.pay_wire.specs.declared.reply.SpelledReply.TheVariants as replies
use Rattle.pay_session.specs.Asks.{asks_of, asks_fix_that, tap_of_spelled, what_of_spelled}
use Rattle.pay_session.specs.Words.{said}
use Rattle.pay_session.specs.declared.asks.Asks.{Asks}
use Rattle.pay_session.specs.declared.asks.Asks.TheVariants as asks
use Rattle.pay_session.specs.declared.request.Request.{Request}
use Rattle.pay_session.specs.declared.request.Request.TheVariants as request
use Rattle.pay_run.specs.Machine.{Machine, Step, new_machine, step, step_asks, step_close, step_closed, step_of, with_accounts}
use Rattle.pay_run.specs.Outcomes.{outcome, reply_then}
use Rattle.pay_partitions.specs.Histories.{AreClosed, IsClosed, outcome_in, replies_in}
use Rattle.pay_partitions.specs.Laws.{LedgersAreParts}
use Rattle.pay_partitions.specs.Partitions.{has_account, log_of, stands_in}
use Rattle.pay_partitions.specs.Parts.{accounts_in, ledger_in, machine_in, postings_in, quotes_in, reply_in, sets_in}
use Rattle.pay_partitions.proofs.ArchivedParts.{ledgers_posted}
use Rattle.pay_partitions.proofs.OwnSets.{AreTheirs, batch_theirs, none_are_theirs, stay_theirs}
use Rattle.pay_partitions.proofs.PartAccounts.{accepted_in, batches, kept_other, kept_own, none_in}

module _ (own : ℕ → Bool) where
  -- the part of a step
  abbrev step_in : Step → Step
  step_in s = record { reply = reply_in own s.reply; after = machine_in own s.after }

  -- what a desk says is no close
  said_whole : (r : Reply) → reply_in own (said r) ≡ said r
  said_whole (desk_reply.Priced priced) = refl
  said_whole (desk_reply.No why) = refl
  said_whole (desk_reply.Due quote) = refl
  said_whole (desk_reply.Shown shown) = refl
  said_whole (desk_reply.Quotes batch) = refl
  said_whole desk_reply.Memory = refl

  module _ (m : Machine) where
    said_so : (r : Reply) → step_of (machine_in own m) (stays (accounts_in own m.accounts) r) ≡ step_in (step_of m (stays m.accounts r))
    said_so r = λ i. record { reply = sym (said_whole r) i; after = machine_in own m }

    -- ---- taps and corrections

    tap_result_in : (tap : Tap) → own tap.account ≡ true → (r : Result Priced TapFault) → step_of (machine_in own m) (step_tap_result (accounts_in own m.accounts) tap r) ≡ step_in (step_of m (step_tap_result m.accounts tap r))
    tap_result_in tap is (Err fault) = said_so (reply_to_tap_fault fault)
    tap_result_in tap is (Ok priced) =
        let new = is_new {E = TapFault} (Ok priced) in
        let same = ap (λ (a : Accepted). kept new (accounts_in own m.accounts) tap.account (after_tap (Ok priced) a tap)) (accepted_in own m.accounts tap.account is)
        ∙ kept_own own new m.accounts tap.account (after_tap (Ok priced) (accepted_of m.accounts tap.account) tap) is in
        λ i. record { reply = replies.Priced priced; after = with_accounts (machine_in own m) (same i) }

    fix_result_in : (fix : Fix) → own fix.account ≡ true → (r : Result Priced FixFault) → step_of (machine_in own m) (step_fix_result (accounts_in own m.accounts) fix r) ≡ step_in (step_of m (step_fix_result m.accounts fix r))
    fix_result_in fix is (Err fault) = said_so (reply_to_fix_fault fault)
    fix_result_in fix is (Ok priced) =
        let new = is_new {E = FixFault} (Ok priced) in
        let same = ap (λ (a : Accepted). kept new (accounts_in own m.accounts) fix.account (after_fix (Ok priced) a fix)) (accepted_in own m.accounts fix.account is)
        ∙ kept_own own new m.accounts fix.account (after_fix (Ok priced) (accepted_of m.accounts fix.account) fix) is in
        λ i. record { reply = replies.Priced priced; after = with_accounts (machine_in own m) (same i) }

    -- a command of one of these accounts
    abbrev StepsAlike : Asks → Type 0
    StepsAlike a = step_asks None (machine_in own m) a ≡ step_in (step_asks None m a)

    tap_in : (tap : Tap) → own tap.account ≡ true → StepsAlike (asks.Put (asked.Tap tap))
    tap_in tap is = ap (λ (a : Accepted). step_of (machine_in own m) (step_tap_result (accounts_in own m.accounts) tap (tap_result m.editions a tap))) (accepted_in own m.accounts tap.account is)
        ∙ tap_result_in tap is (tap_result m.editions (accepted_of m.accounts tap.account) tap)

    fix_in : (fix : Fix) → own fix.account ≡ true → StepsAlike (asks.Put (asked.Fix fix))
    fix_in fix is = ap (λ (a : Accepted). step_of (machine_in own m) (step_fix_result (accounts_in own m.accounts) fix (fix_result m.editions a fix))) (accepted_in own m.accounts fix.account is)
        ∙ fix_result_in fix is (fix_result m.editions (accepted_of m.accounts fix.account) fix)

    due_in : (account day : ℕ) → own account ≡ true → StepsAlike (asks.Put (asked.Due account day))
    due_in account day is = ap (λ (a : Accepted). step_of (machine_in own m) (stays (accounts_in own m.accounts) (desk_reply.Due (quote m.editions account a day)))) (accepted_in own m.accounts account is)

    show_in : (account day : ℕ) → own account ≡ true → StepsAlike (asks.Put (asked.Show account day))
    show_in account day is = ap (λ (a : Accepted). step_of (machine_in own m) (stays (accounts_in own m.accounts) (desk_reply.Shown (shown m.editions account a day)))) (accepted_in own m.accounts account is)

    tap_line_in : (tap : Tap) (why : Refusal) (b : Bool) → own tap.account ≡ true → StepsAlike (if b then asks.Put (asked.Tap tap) else asks.No why)
    tap_line_in tap why true is = tap_in tap is
    tap_line_in tap why false is = refl

    fix_line_in : (line : SpelledFix) (does : Result What Refusal) → own line.account ≡ true → StepsAlike (asks_fix_that line does)
    fix_line_in line (Ok does) is = fix_in (record { account = line.account; staff = line.staff; seq = line.seq; what = does }) is
    fix_line_in line (Err why) is = refl

    -- and one of another account leaves them
    abbrev Leaves : Asks → Type 0
    Leaves a = machine_in own (step_asks None m a).after ≡ machine_in own m

    tap_result_leaves : (tap : Tap) → own tap.account ≡ false → (r : Result Priced TapFault) → machine_in own (step_of m (step_tap_result m.accounts tap r)).after ≡ machine_in own m
    tap_result_leaves tap isnt (Err fault) = refl
    tap_result_leaves tap isnt (Ok priced) =
        ap (with_accounts (machine_in own m)) (kept_other own (is_new {E = TapFault} (Ok priced)) m.accounts tap.account (after_tap (Ok priced) (accepted_of m.accounts tap.account) tap) isnt)

    fix_result_leaves : (fix : Fix) → own fix.account ≡ false → (r : Result Priced FixFault) → machine_in own (step_of m (step_fix_result m.accounts fix r)).after ≡ machine_in own m
    fix_result_leaves fix isnt (Err fault) = refl
    fix_result_leaves fix isnt (Ok priced) =
        ap (with_accounts (machine_in own m)) (kept_other own (is_new {E = FixFault} (Ok priced)) m.accounts fix.account (after_fix (Ok priced) (accepted_of m.accounts fix.account) fix) isnt)

    tap_line_leaves : (tap : Tap) (why : Refusal) (b : Bool) → own tap.account ≡ false → Leaves (if b then asks.Put (asked.Tap tap) else asks.No why)
    tap_line_leaves tap why true isnt = tap_result_leaves tap isnt (tap_result m.editions (accepted_of m.accounts tap.account) tap)
    tap_line_leaves tap why false isnt = refl

    fix_line_leaves : (line : SpelledFix) (does : Result What Refusal) → own line.account ≡ false → Leaves (asks_fix_that line does)
    fix_line_leaves line (Ok does) isnt =
        let fix : Fix = record { account = line.account; staff = line.staff; seq = line.seq; what = does } in
        fix_result_leaves fix isnt (fix_result m.editions (accepted_of m.accounts fix.account) fix)
    fix_line_leaves line (Err why) isnt = refl

    -- ---- a close

    closed_in : (day : ℕ) (all part : Result (List Posting × LedgerParts) PostFault) → IfOk all (λ it. part ≡ Ok (postings_in own it.0, ledger_in own it.1))
        → IsClosed (request.Command (command.Close day)) (step_closed m day all).reply → step_closed (machine_in own m) day part ≡ step_in (step_closed m day all)
    closed_in day (Ok answer) part is closed = ap (step_closed (machine_in own m) day) is
    closed_in day (Err fault) part is closed = absurd closed

    -- what is closed over a ledger comes to the part of it over the part
    close_part : (day : ℕ) (ledger : LedgerParts) → AreTheirs m.accounts
        → IfOk (close m.editions (record { state = m.accounts; ledger = ledger }) day) (λ it. close m.editions (record { state = accounts_in own m.accounts; ledger = ledger_in own ledger }) day ≡ Ok (postings_in own it.0, ledger_in own it.1))
    close_part day ledger are =
        let batch = batch_of_all m.editions m.accounts day in
        by (posted ledger batch.quotes batch.sets) (ledgers_posted own ledger batch.quotes batch.sets (batch_theirs m.editions m.accounts day are))
      where
        by : (r : Result (List Posting × LedgerParts) PostFault)
            → IfOk r (λ it. posted (ledger_in own ledger) (quotes_in own (batch_of_all m.editions m.accounts day).quotes) (sets_in own (batch_of_all m.editions m.accounts day).sets) ≡ Ok (postings_in own it.0, ledger_in own it.1))
            → IfOk r (λ it. close m.editions (record { state = accounts_in own m.accounts; ledger = ledger_in own ledger }) day ≡ Ok (postings_in own it.0, ledger_in own it.1))
        by (Ok it) is = ap (λ (b : BatchParts). posted (ledger_in own ledger) b.quotes b.sets) (batches own m.editions m.accounts day) ∙ is
        by (Err fault) is = tt

    close_in : (day : ℕ) (ledger : Option LedgerParts) → AreTheirs m.accounts → IsClosed (request.Command (command.Close day)) (step_close None m day ledger).reply
        → step_close None (machine_in own m) day (option_map (ledger_in own) ledger) ≡ step_in (step_close None m day ledger)
    close_in day None are closed = absurd closed
    close_in day (Some ledger) are closed =
        closed_in day (close m.editions (record { state = m.accounts; ledger = ledger }) day) (close m.editions (record { state = accounts_in own m.accounts; ledger = ledger_in own ledger }) day) (close_part day ledger are) closed

-- ---- a request

module _ (of partition : ℕ) (m : Machine) where
  abbrev own : ℕ → Bool
  own = has_account of partition

  own_step : (r : Request) → stands_in of partition r ≡ true → AreTheirs m.accounts → IsClosed r (step None m r).reply → step None (machine_in own m) r ≡ step_in own (step None m r)
  unfolding step asks_of
  own_step (request.Command (command.Tap line)) is are closed = tap_line_in own m (tap_of_spelled line _) _ _ is
  own_step (request.Command (command.Fix line)) is are closed = fix_line_in own m line (what_of_spelled m.zone line.what) is
  own_step (request.Command (command.Due account day)) is are closed = due_in own m account day is
  own_step (request.Command (command.Show account day)) is are closed = show_in own m account day is
  own_step (request.Command (command.Close day)) is are closed = close_in own m day m.ledger are closed
  own_step (request.Command command.Quit) is are closed = absurd (true≢false (sym is))
  own_step request.BadLine is are closed = absurd (true≢false (sym is))
  own_step request.LongLine is are closed = absurd (true≢false (sym is))

  other_step : (r : Request) → stands_in of partition r ≡ false → machine_in own (step None m r).after ≡ machine_in own m
  unfolding step asks_of
  other_step (request.Command (command.Tap line)) isnt = tap_line_leaves own m (tap_of_spelled line _) _ _ isnt
  other_step (request.Command (command.Fix line)) isnt = fix_line_leaves own m line (what_of_spelled m.zone line.what) isnt
  other_step (request.Command (command.Due account day)) isnt = refl
  other_step (request.Command (command.Show account day)) isnt = refl
  other_step (request.Command (command.Close day)) isnt = absurd (true≢false isnt)
  other_step (request.Command command.Quit) isnt = refl
  other_step request.BadLine isnt = refl
  other_step request.LongLine isnt = refl

-- ---- a run

-- the run of the log on the machine of a part is the part of the run of all
abbrev RunsAsPart : ℕ → ℕ → Machine → List Request → Type 0
RunsAsPart of partition m list = outcome [] (machine_in (has_account of partition) m) (log_of of partition list) ≡ outcome_in of partition list (outcome [] m list)

run_first : (of partition : ℕ) (m : Machine) (r : Request) (list : List Request) → AreTheirs m.accounts → IsClosed r (step None m r).reply → RunsAsPart of partition (step None m r).after list
    → (b : Bool) → stands_in of partition r ≡ b → outcome [] (machine_in (has_account of partition) m) (if b then r ∷ log_of of partition list else log_of of partition list)
    ≡ record {
      replies = (if b then reply_in (has_account of partition) (step None m r).reply ∷ replies_in of partition list (outcome [] (step None m r).after list).replies else replies_in of partition list (outcome [] (step None m r).after list).replies);
      after = machine_in (has_account of partition) (outcome [] (step None m r).after list).after;
    }
run_first of partition m r list are closed later true is =
    ap (λ (s : Step). reply_then s.reply (outcome [] s.after (log_of of partition list))) (own_step of partition m r is are closed) ∙ ap (reply_then (reply_in (has_account of partition) (step None m r).reply)) later
run_first of partition m r list are closed later false isnt = ap (λ (n : Machine). outcome [] n (log_of of partition list)) (sym (other_step of partition m r isnt)) ∙ later

runs_as_part : (of partition : ℕ) (list : List Request) (m : Machine) → AreTheirs m.accounts → AreClosed list (outcome [] m list).replies → RunsAsPart of partition m list
runs_as_part of partition [] m are closed = refl
runs_as_part of partition (r ∷ list) m are closed =
    run_first of partition m r list are closed.0 (runs_as_part of partition list (step None m r).after (stay_theirs m r are) closed.1) (stands_in of partition r) refl

pub ledgers : LedgersAreParts
ledgers zone editions ledger of partition list closed =
    ap (λ (accounts : State). outcome [] (with_accounts (new_machine zone editions (Some (ledger_in (has_account of partition) ledger))) accounts) (log_of of partition list)) (sym (none_in (has_account of partition)))
    ∙ runs_as_part of partition list (new_machine zone editions (Some ledger)) none_are_theirs closed
