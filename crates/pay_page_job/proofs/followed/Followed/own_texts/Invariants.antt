use Rattle.std.proofs.Common.{◌≡◌, ◌++◌, drop, map as each, vec_items}
use Rattle.pay_account_lines.specs.Words.{own_lines}
use Rattle.pay_page_job.proofs.followed.Followed.own_texts.Given as goal

abbrev pub invariant-loop-place : goal.invariant-loop-place
invariant-loop-place l = each vec_items l.texts.items ++ each (own_lines l.account) (drop l.place l.self.journals.items) ≡ each (own_lines l.account) l.self.journals.items
