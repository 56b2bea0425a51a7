use Rattle.std.proofs.Common.{◌≡◌, take, Some, refl, if◌then◌else◌, rules, sym, ap, ◌∙◌}
use Rattle.std.specs.Prelude.{nat_lt}
use Rattle.std.specs.FinMap.{get}
use Rattle.pay_postings.specs.Archived.{parts}
use Rattle.pay_postings.proofs.Steps.{RowsTell}
use Rattle.pay_postings.proofs.SetsJudged.{set_judged}
use Rattle.pay_postings.proofs.accounts.LedgerAccounts.judge_set.Goals as goal

pub returns-clause-judged : goal.returns-clause-judged
returns-clause-judged c ledger agrees covers up ok =
    let sets = c.args.sets.now in
    let set = c.index-sets-place.result in
    let there : get c.args.self.now set.account ≡ Some (parts c.in-Some.archived.now) = ap (get c.args.self.now) (sym c.account.ensures) ∙ sym c.in-Some.ensures in
    let tell : RowsTell = record { taps = c.same_row.ensures.taps; fixes = c.same_row.ensures.fixes } in
    set_judged tell ledger sets (take c.looked_at.result sets) c.args.place c.args.highest c.looked_at.result set (parts c.in-Some.archived.now) c.judge_set.result c.requires (search rules)
    (agrees set.account (parts c.in-Some.archived.now) there)
    (c.looked_at.ensures ∙ ap (λ n. if nat_lt c.args.highest n then 0 else c.args.place) c.account-2.ensures) refl c.judge_set.ensures c.are_own.ensures.taps c.are_own.ensures.fixes up ok
