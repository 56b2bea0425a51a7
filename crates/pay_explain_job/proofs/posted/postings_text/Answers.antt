use Rattle.std.proofs.Common.{ℕ, ◌++◌, ap, ◌∙◌}
use Rattle.std.specs.List.{flat_map}
use Rattle.std.specs.Prelude.{codes}
use Rattle.std.specs.String.{string_bytes}
use Rattle.pay_dates.specs.Words.{dated_text}
use Rattle.pay_explain_job.specs.PostedLines.{posting_lines, postings_text}
use Rattle.pay_explain_job.proofs.Joins.{two}
use Rattle.pay_explain_job.proofs.posted.postings_text.Goals as goal

pub returns : goal.returns
returns c =
    let names = c.args.names.now in
    two (string_bytes c.new-text.result) (string_bytes c.write.new.self) (string_bytes c.push_postings.new.text) (codes "         posted for the week from " ++ (dated_text c.of-week.result.day ++ codes ":\n"))
    (flat_map (posting_lines names c.args.now) c.args.postings.now) c.new-text.ensures.bytes c.in_ok-write.ensures.bytes c.in_ok-push_postings.ensures
    ∙ ap (λ (week : ℕ). postings_text names week c.args.now c.args.postings.now) c.of-week.ensures
