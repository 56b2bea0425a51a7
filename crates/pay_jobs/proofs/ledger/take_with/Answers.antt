use Rattle.std.proofs.Common.{◌∙◌, ℕ, nat_lt, Bool, length, Option, IfSome, ap, inl, subst}
use Rattle.pay_postings.specs.Words.{AgreesWith}
use Rattle.pay_shard.specs.Words.{state_now}
use Rattle.pay_audit.specs.declared.difference.Difference.{Difference}
use Rattle.pay_audit.specs.Words.{DiffersIn, AgreeBefore}
use Rattle.pay_jobs.specs.Taken.{IsDifferenceTold}
use Rattle.pay_jobs.proofs.ledger.take_with.Goals as goal

pub returns-in-Ok-Some-clause-refused : goal.returns-in-Ok-Some-clause-refused
returns-in-Ok-Some-clause-refused g c =
    let shard = c.args.shard.now in
    let account = c.in-Ok-Some.account in
    let difference = c.in-Ok-Some.difference in
    let is = c.in-Ok-Some.field-0-is in
    record {
      why = inl (
        c.differs.ensures.of_difference,
        (
          (account, difference),
          subst (λ (has : Bool). IsDifferenceTold account difference has c.differs.result) (ap (nat_lt 0) (c.len.ensures ∙ ap length c.journal.ensures.value)) c.differs.ensures.told,
          λ clean ledger k. record {
            agree_not = subst (λ (o : Option (ℕ × Difference)). IfSome o (λ _. AgreesWith shard.editions (state_now shard) ledger → ⊥)) is (c.in-Ok-Some.ensures.agree_not clean ledger k);
            differs = subst (λ (o : Option (ℕ × Difference)). IfSome o (DiffersIn shard.editions (state_now shard) ledger)) is (c.in-Ok-Some.ensures.differs clean ledger k);
            before = subst (λ (o : Option (ℕ × Difference)). IfSome o (λ it. AgreeBefore shard.editions (state_now shard) ledger it.0)) is (c.in-Ok-Some.ensures.first clean ledger k);
          },
        ),
      );
      unchanged = c.first_difference.ensures.unchanged;
      survives = c.first_difference.ensures.survives;
    }
