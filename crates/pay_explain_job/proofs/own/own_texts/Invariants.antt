use Rattle.std.proofs.Common.{◌≡◌, map as each, take, vec_items}
use Rattle.pay_account_lines.specs.Words.{own_lines}
use Rattle.pay_explain_job.specs.OwnLines.{AreOwned}
use Rattle.pay_explain_job.proofs.own.own_texts.Given as goal

-- the account's own lines of the journals so far, which have no others than taps and corrections
abbrev pub invariant-loop-place : goal.invariant-loop-place
invariant-loop-place l = record {
  own : each vec_items l.own.items ≡ each (own_lines l.account) (take l.place (each vec_items l.texts));
  owned : AreOwned (take l.place (each vec_items l.texts));
}
