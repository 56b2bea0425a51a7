use Rattle.std.proofs.Common.{rules, ◌≡◌, ◌∙◌, to_z, of_z, w64}
use Rattle.pay_explain_job.proofs.posted.PostingLineDisplay.fmt.Goals as goal

pub returns-clause-writes : goal.returns-clause-writes
returns-clause-writes g c plain ok =
    let amount : to_z w64 (of_z w64 c.args.self.now.posting.now.amount) ≡ c.args.self.now.posting.now.amount = search rules in
    rw (amount, c.of-through.ensures ∙ c.through.ensures.value, c.due.ensures.value, c.version.ensures.value) at (c.write.ensures.writes plain ok)
