use Rattle.std.proofs.Common.{◌≡◌, ◌≤◌, ◌*◌, [], map, take}
use Rattle.pay_tables.specs.Words.{FareEditions}
use Rattle.pay_run.specs.Words.{HasReplayed}
use Rattle.pay_jobs.specs.Replays.{all_requests, rests}
use Rattle.pay_jobs.proofs.replays.replay_each.Given as goal

-- the journals so far were replayed
abbrev pub invariant-loop-place : goal.invariant-loop-place
invariant-loop-place l = record {
  rest : l.rest ≡ rests (take l.place (map (λ text. text.items) l.texts));
  small : l.rest ≤ l.place * 18_446_744_073_709_551_615;
  replayed : (editions : FareEditions) → HasReplayed l.zone editions l.fn.desk [] → HasReplayed l.zone editions l.desk (all_requests (take l.place (map (λ text. text.items) l.texts)));
}
