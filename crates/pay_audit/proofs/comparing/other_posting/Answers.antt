use Rattle.std.proofs.Common.{◌≡◌, ◌∙◌, rules, true, false, sym, subst, take, get_or}
use Rattle.std.proofs.lemmas.Bool.{true≢false}
use Rattle.sqlite_keyed.proofs.ListLemmas.{all_weaker}
use Rattle.pay_rules.specs.declared.posting.Posting.{Posting}
use Rattle.pay_postings.specs.Words.{is_posted_so}
use Rattle.pay_audit.specs.Differs.{IsPostedSo}
use Rattle.pay_audit.proofs.Lists.{all_more, found_at}
use Rattle.pay_audit.proofs.comparing.other_posting.Goals as goal

pub loop-posting-preserved : goal.loop-posting-preserved
loop-posting-preserved g c =
    let So = IsPostedSo c.args.editions.now (g.F.Fares.account c.args.account.now) (g.F.Fares.accepted c.args.account.now) in
    let one : So c.posting-item.result = (search rules, search rules) in
    all_more So c.args.postings.now c.loop-posting.posting-index c.posting-item.result c.loop-posting-test.true c.loop-posting.invariant
    (subst So {x = c.posting-item.result} {y = get_or c.args.postings.now c.loop-posting.posting-index c.posting-item.result} (search rules) one)

pub returns-then-not-branch-clause-differs : goal.returns-then-not-branch-clause-differs
returns-then-not-branch-clause-differs g c =
    let editions = c.args.editions.now in
    let account = g.F.Fares.account c.args.account.now in
    let accepted = g.F.Fares.accepted c.args.account.now in
    let posting = c.posting-item.result in
    let at = c.loop-posting.posting-index in
    let no : is_posted_so editions account accepted posting ≡ false = search rules in (
      tt,
      tt,
      (
        posting,
        (
          at,
          found_at c.args.postings.now at posting c.loop-posting-test.true c.posting-item.is,
          all_weaker (IsPostedSo editions account accepted) (λ (p : Posting). is_posted_so editions account accepted p ≡ true) (λ p so. so.0) (take at c.args.postings.now) c.loop-posting.invariant,
          λ so. true≢false (sym so ∙ no),
        ),
        search rules,
        search rules,
      ),
    )
