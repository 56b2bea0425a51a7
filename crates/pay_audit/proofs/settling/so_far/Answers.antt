use Rattle.std.proofs.Common.{rules, ◌≡◌}
use Rattle.pay_audit.proofs.Sums.{next_too_far, by_fault}
use Rattle.pay_rules.specs.declared.post_fault.PostFault.TheVariants.{BadArchive}
use Rattle.pay_audit.specs.Settled.{ComeTooFar}
use Rattle.pay_audit.proofs.settling.so_far.Goals as goal

pub returns-in_err-with_posting-clause-too_far : goal.returns-in_err-with_posting-clause-too_far
returns-in_err-with_posting-clause-too_far c =
    by_fault c.from_residual.result (λ fault. (fault ≡ BadArchive) × ComeTooFar c.args.postings.now) c.in_err-with_posting.field-0.0 (search rules) (
      c.in_err-with_posting.ensures.too_far.0,
      next_too_far c.args.postings.now c.loop-posting.posting-index c.posting-item.result c.loop-posting.posted c.loop-posting-test.true c.posting-item.is c.loop-posting.invariant.0 c.in_err-with_posting.ensures.too_far.1,
    )
