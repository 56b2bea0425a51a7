use Rattle.std.proofs.Common.{◌∙◌, [], None, ap, sym}
use Rattle.std.specs.Prelude.{fold, max}
use Rattle.std.specs.BTreeSet.{insert_key}
use Rattle.std.specs.Ordering.{nat_cmp}
use Rattle.pay_run.specs.Words.{commands_in}
use Rattle.pay_jobs.specs.Replays.{account_of, instant_of, sooner}
use Rattle.pay_jobs.proofs.Summaries.{fold_more}
use Rattle.pay_jobs.proofs.replays.tally_of.Goals as goal

pub loop-place-preserved : goal.loop-place-preserved
loop-place-preserved c =
    let i = c.loop-place.invariant in
    record {
      accounts = c.in_ok-count.ensures.accounts ∙ ap (λ l. fold (insert_key nat_cmp) l (account_of c.command_at.result)) i.accounts ∙ sym (fold_more (insert_key nat_cmp) account_of [] (commands_in c.args.journal.now.items) c.loop-place.place c.command_at.result c.command_at.ensures);
      first = c.in_ok-count.ensures.first ∙ ap (λ l. fold sooner l (instant_of c.command_at.result)) i.first ∙ sym (fold_more sooner instant_of None (commands_in c.args.journal.now.items) c.loop-place.place c.command_at.result c.command_at.ensures);
      last = c.in_ok-count.ensures.last ∙ ap (λ l. fold max l (instant_of c.command_at.result)) i.last ∙ sym (fold_more max instant_of 0 (commands_in c.args.journal.now.items) c.loop-place.place c.command_at.result c.command_at.ensures);
    }
