use Rattle.std.proofs.Common.{◌≡◌, Err, ap, sym, ◌∙◌, subst}
use Rattle.std.specs.FinMap.{get, insert, remove}
use Rattle.std.proofs.lemmas.Result.{err_from_is_err_and}
use Rattle.pay_rules.specs.declared.limits.TheConstants.{MOST_TAPS, MOST_FIXES}
use Rattle.pay_rules.specs.Taps.{number as tap_number}
use Rattle.pay_rules.specs.Fixes.{number as fix_number}
use Rattle.pay_rules.specs.SetsParts.{AreNumbered, AreTapsOf, AreFixesOf}
use Rattle.pay_postings.specs.NewRows.{new_taps, new_fixes}
use Rattle.pay_postings.specs.Archived.{parts}
use Rattle.pay_postings.specs.Batches.{lists}
use Rattle.pay_postings.proofs.Maps.{same_put}
use Rattle.pay_postings.proofs.NeverBad.{taps_never_bad, fixes_never_bad, not_bad}
use Rattle.pay_postings.proofs.Steps.{RowsTell, AreTaps, AreFixes, with_set, batch_with_set, taps_refused, fixes_refused, set_posted, set_as}
use Rattle.pay_postings.proofs.accounts.LedgerAccounts.archive_set.Goals as goal

pub returns-in_err-taps-clause-posted : goal.returns-in_err-taps-clause-posted
returns-in_err-taps-clause-posted c = λ ledger agrees covers.
    let p = err_from_is_err_and c.from_residual.result c.from_residual.ensures.1 in
    let there = ap (get c.args.self.now) (sym c.account.ensures) ∙ c.in-Some.ensures.some in
    let set = c.args.set.now in
    let tell : RowsTell = record { taps = c.same_row.ensures.taps; fixes = c.same_row.ensures.fixes } in
    let are : AreTaps set = (subst (AreTapsOf set.account) c.taps.ensures.value c.taps.ensures.own, subst (AreNumbered tap_number MOST_TAPS) c.taps.ensures.value c.taps.ensures.numbered) in
    let same : new_taps c.deref.result.now c.taps.result.now ≡ new_taps c.in-Some.archived.taps.items c.args.set.now.taps = λ i. new_taps (c.deref.ensures.value i) (c.taps.ensures.value i) in
    rw (p.1, p.2) (λ other later. taps_refused tell ledger c.args.self.now (lists c.args.batch.now) set (parts c.in-Some.archived) agrees there are _ (sym same ∙ c.in_err-taps.ensures other) later)

pub returns-in_err-fixes-clause-posted : goal.returns-in_err-fixes-clause-posted
returns-in_err-fixes-clause-posted c = λ ledger agrees covers.
    let p = err_from_is_err_and c.from_residual-in_err-fixes.result c.from_residual-in_err-fixes.ensures.1 in
    let there = ap (get c.args.self.now) (sym c.account.ensures) ∙ c.in-Some.ensures.some in
    let set = c.args.set.now in
    let tell : RowsTell = record { taps = c.same_row.ensures.taps; fixes = c.same_row.ensures.fixes } in
    let are : AreTaps set = (subst (AreTapsOf set.account) c.taps.ensures.value c.taps.ensures.own, subst (AreNumbered tap_number MOST_TAPS) c.taps.ensures.value c.taps.ensures.numbered) in
    let too : AreFixes set = (subst (AreFixesOf set.account) c.fixes.ensures.value c.fixes.ensures.own, subst (AreNumbered fix_number MOST_FIXES) c.fixes.ensures.value c.fixes.ensures.numbered) in
    let same : new_taps c.deref.result.now c.taps.result.now ≡ new_taps c.in-Some.archived.taps.items c.args.set.now.taps = λ i. new_taps (c.deref.ensures.value i) (c.taps.ensures.value i) in
    let alike : new_fixes c.deref-2.result.now c.fixes.result.now ≡ new_fixes c.in-Some.archived.fixes.items c.args.set.now.fixes = λ i. new_fixes (c.deref-2.ensures.value i) (c.fixes.ensures.value i) in
    rw (p.1, p.2) (λ other later. fixes_refused tell ledger c.args.self.now (lists c.args.batch.now) set (parts c.in-Some.archived) agrees there are too c.in_ok-taps.taps.items _ (sym same ∙ c.in_ok-taps.ensures) (sym alike ∙ c.in_err-fixes.ensures other) later)

pub returns-clause-posted : goal.returns-clause-posted
returns-clause-posted c = λ ledger agrees covers.
    let there = ap (get c.args.self.now) (sym c.account.ensures) ∙ c.in-Some.ensures.some in
    let set = c.args.set.now in
    let tell : RowsTell = record { taps = c.same_row.ensures.taps; fixes = c.same_row.ensures.fixes } in
    let are : AreTaps set = (subst (AreTapsOf set.account) c.taps.ensures.value c.taps.ensures.own, subst (AreNumbered tap_number MOST_TAPS) c.taps.ensures.value c.taps.ensures.numbered) in
    let too : AreFixes set = (subst (AreFixesOf set.account) c.fixes.ensures.value c.fixes.ensures.own, subst (AreNumbered fix_number MOST_FIXES) c.fixes.ensures.value c.fixes.ensures.numbered) in
    let same : new_taps c.deref.result.now c.taps.result.now ≡ new_taps c.in-Some.archived.taps.items c.args.set.now.taps = λ i. new_taps (c.deref.ensures.value i) (c.taps.ensures.value i) in
    let alike : new_fixes c.deref-2.result.now c.fixes.result.now ≡ new_fixes c.in-Some.archived.fixes.items c.args.set.now.fixes = λ i. new_fixes (c.deref-2.ensures.value i) (c.fixes.ensures.value i) in
    let taps = c.in_ok-taps.taps.items in
    let fixes = c.in_ok-fixes.fixes.items in
    let archived = parts c.in-Some.archived in
    let before = lists c.args.batch.now in
    let is = set_posted tell ledger c.args.self.now before set archived agrees there are too taps fixes (sym same ∙ c.in_ok-taps.ensures) (sym alike ∙ c.in_ok-fixes.ensures) in
    let rest = c.in-Some.ensures.others ∙ ap (remove c.args.self.now) c.account.ensures in
    let rows = c.in_ok-add_rows.ensures ∙ (λ i. with_set archived (c.deref-3.ensures.value i) (c.deref-4.ensures.value i)) in
    let number = c.account-2.ensures in
    set_as ledger c.args.self.now _ c.add.new.self before _ (lists c.add_set.new.self) set is
    (c.in_ok-add.ensures.ok ∙ (λ i. insert (rest i) (number i) (rows i)))
    (c.in_ok-add_set.ensures ∙ (λ i. batch_with_set before (c.deref-5.ensures.value i) (c.deref-6.ensures.value i)))

pub returns-clause-same : goal.returns-clause-same
returns-clause-same c =
    let there = ap (get c.args.self.now) (sym c.account.ensures) ∙ c.in-Some.ensures.some in
    let rest = c.in-Some.ensures.others ∙ ap (remove c.args.self.now) c.account.ensures in
    let number = c.account-2.ensures in
    same_put c.args.self.now c.add.new.self c.args.set.now.account (parts c.in-Some.archived) (parts c.add_rows.new.self) there
    (c.in_ok-add.ensures.ok ∙ (λ i. insert (rest i) (number i) (parts c.add_rows.new.self)))

pub returns-in_err-taps-clause-never_bad : goal.returns-in_err-taps-clause-never_bad
returns-in_err-taps-clause-never_bad c covers =
    not_bad c.from_residual.result c.in_err-taps.field-0.0 c.from_residual.ensures.1 (λ bad. taps_never_bad c.deref.result.now c.taps.result.now (c.in_err-taps.ensures (λ memory. let both = sym bad ∙ memory in cc) ∙ ap Err bad))

pub returns-in_err-fixes-clause-never_bad : goal.returns-in_err-fixes-clause-never_bad
returns-in_err-fixes-clause-never_bad c covers =
    not_bad c.from_residual-in_err-fixes.result c.in_err-fixes.field-0.0 c.from_residual-in_err-fixes.ensures.1 (λ bad. fixes_never_bad c.deref-2.result.now c.fixes.result.now (c.in_err-fixes.ensures (λ memory. let both = sym bad ∙ memory in cc) ∙ ap Err bad))
