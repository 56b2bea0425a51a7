use Rattle.std.proofs.Common.{◌≡◌, ◌≤◌, ◌+◌, ℕ, IsTrue, true, false, rules, sym, ap, ◌∙◌, arith}
use Rattle.std.proofs.lemmas.Result.{err_from_is_err_and}
use Rattle.sqlite.specs.Held.{state}
use Rattle.pay_ledger.specs.Words.{is_of_store}
use Rattle.pay_close.specs.Opens.{IsSoOfLedger}
use Rattle.pay_close.proofs.Counted.{added, counts_none, counts_on, reads_then, so_of_first, refused_so}
use Rattle.pay_close.proofs.open_accounts.count.Goals as goal
use Rattle.pay_close.proofs.open_accounts.count.Goals.{then-branch, else-branch}

pub loop-quote-init : goal.loop-quote-init
loop-quote-init g c = (counts_none (state g.S.Store c.args.ledger.now), search rules)

pub returns-in_err-is_open-clause-only_read : goal.returns-in_err-is_open-clause-only_read
returns-in_err-is_open-clause-only_read g c = reads_then _ _ _ c.loop-quote.invariant.0.read c.is_open.ensures.only_read

pub returns-in_err-is_open-clause-refused : goal.returns-in_err-is_open-clause-refused
returns-in_err-is_open-clause-refused g c =
    let p = err_from_is_err_and c.from_residual.result c.from_residual.ensures.1 in
    refused_so (λ fault. IsSoOfLedger (state g.S.Store c.args.ledger.now) (state g.S.Store c.is_open.new.ledger) (λ _. IsTrue (is_of_store fault))) _ _ c.from_residual.result p.1 p.2
    (so_of_first _ _ _ (λ _. IsTrue (is_of_store c.in_err-is_open.field-0.0)) c.loop-quote.invariant.0.read c.is_open.ensures.only_read c.in_err-is_open.ensures.refused)

pub loop-quote-preserved : goal.loop-quote-preserved
loop-quote-preserved g c =
    let before : ℕ = c.loop-quote.count in
    let next : ℕ = c.if-branch.count in
    let most : before ≤ c.loop-quote.quote-index = c.loop-quote.invariant.1 in
    let one : next ≤ before + 1 = elim c.if-branch.branch [
      | then-branch w ↦ let is = w.count-is in omega (arith, is)
      | else-branch w ↦ let is = w.count-is in omega (arith, is)
    ] in
    let is : next ≡ added c.in_ok-is_open.field-0 before = elim c.if-branch.branch [
      | then-branch w ↦ let yes : c.in_ok-is_open.field-0 ≡ true = w.if-branch.true in let is = w.count-is in let on : next ≡ added true before = omega (arith, is) in on ∙ ap (λ b. added b before) (sym yes)
      | else-branch w ↦ let no : c.in_ok-is_open.field-0 ≡ false = w.if-branch.false in let is = w.count-is in let on : next ≡ added false before = omega (arith, is) in on ∙ ap (λ b. added b before) (sym no)
    ] in (
      counts_on _ _ _ c.args.quotes.now c.loop-quote.quote-index c.quote-item.result before next c.in_ok-is_open.field-0 is c.loop-quote-test.true c.quote-item.is c.loop-quote.invariant.0 c.is_open.ensures.only_read c.in_ok-is_open.ensures.told,
      omega (arith, one, most),
    )
