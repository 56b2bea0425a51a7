use Rattle.std.specs.String.{string_bytes}
use Rattle.pay_explain_job.specs.PostedLines.{posting_line, posting_lines, share_lines}
use Rattle.pay_explain_job.proofs.Joins.{then}
use Rattle.pay_explain_job.proofs.posted.push_posting.Goals as goal

pub returns : goal.returns
unfolding posting_lines
returns c =
    let posting = c.args.posting.now in
    then (string_bytes c.args.text.now) (string_bytes c.write.new.self) (string_bytes c.push_shares.new.text) (posting_line c.args.now posting) (share_lines c.args.names.now 1 posting.share_amounts)
    c.in_ok-push_shares.ensures c.in_ok-write.ensures.bytes
