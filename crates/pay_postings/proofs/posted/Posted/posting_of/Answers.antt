use Rattle.std.proofs.Common.{◌++◌, ◌∷◌, [], rules, sym, ap, subst, ◌∙◌, arith, length}
use Rattle.std.specs.Prelude.{sum}
use Rattle.pay_rules.specs.QuoteParts.{IsEditionDay, IsQuote}
use Rattle.pay_postings.specs.Paid.{AreRead}
use Rattle.pay_postings.proofs.Settling.{read_more}
use Rattle.pay_postings.proofs.posted.Posted.posting_of.Goals as goal

pub returns-clause-read : goal.returns-clause-read
returns-clause-read c =
    let quote = c.args.quote.now in
    let is : IsQuote quote = record {
      of_account = omega (arith, c.account.ensures.value, c.account.ensures.in_range);
      of_week = record { through_day = search rules; its_monday = search rules };
      at_version = search rules;
      in_range = omega (arith, c.due.ensures.value, c.due.ensures.in_range);
      of_edition = subst IsEditionDay c.edition.ensures.value c.edition.ensures.in_range;
      operators = sym (ap length c.shares.ensures.value) ∙ c.shares.ensures.operators;
      shared = sym (ap sum c.shares.ensures.value) ∙ c.shares.ensures.all;
    } in
    subst (λ p. AreRead (c.args.self.now ++ p ∷ [])) (sym (search rules)) (read_more c.args.self.now quote (search rules) is)
