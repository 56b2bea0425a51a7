use Rattle.std.proofs.Common.{◌≡◌, [], take, None}
use Rattle.std.specs.Prelude.{fold, flat_map, max}
use Rattle.std.specs.BTreeSet.{insert_key}
use Rattle.std.specs.Ordering.{nat_cmp}
use Rattle.pay_run.specs.Words.{commands_in}
use Rattle.pay_jobs.specs.Replays.{account_of, instant_of, sooner}
use Rattle.pay_jobs.proofs.replays.tally_of.Given as goal

-- the commands so far are counted
abbrev pub invariant-loop-place : goal.invariant-loop-place
invariant-loop-place l = record {
  accounts : l.tally.accounts.keys ≡ fold (insert_key nat_cmp) [] (flat_map account_of (take l.place (commands_in l.journal.items)));
  first : l.tally.first ≡ fold sooner None (flat_map instant_of (take l.place (commands_in l.journal.items)));
  last : l.tally.last ≡ fold max 0 (flat_map instant_of (take l.place (commands_in l.journal.items)));
}
