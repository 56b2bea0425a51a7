use Rattle.std.proofs.Common.{rules, sym, ap, subst, ◌∙◌, arith, length}
use Rattle.std.specs.Prelude.{sum}
use Rattle.pay_rules.specs.QuoteParts.{IsEditionDay}
use Rattle.pay_ledger.proofs.post.is_quote.Goals as goal

pub returns : goal.returns
returns c = record {
  of_account = omega (arith, c.account.ensures.value, c.account.ensures.in_range);
  of_week = record { through_day = search rules; its_monday = search rules };
  at_version = search rules;
  in_range = omega (arith, c.due.ensures.value, c.due.ensures.in_range);
  of_edition = subst IsEditionDay c.edition.ensures.value c.edition.ensures.in_range;
  operators = sym (ap length c.shares-shares.ensures.value) ∙ c.shares-shares.ensures.operators;
  shared = sym (ap sum c.shares-shares.ensures.value) ∙ c.shares-shares.ensures.all;
}
